-- What filling a job's tables leaves
use Rattle.std.specs.Prelude.{Ok}
use Rattle.std.specs.Prelude.{◌≡◌, Err}
use Rattle.filling.specs.UseTables.{best_of}
use Rattle.filling.specs.SourceTables.{WorkColumns, rooms_of, FilledBy}
use Rattle.filling.specs.declared.lent.Rooms.{Rooms}
use Rattle.refusals.specs.Job.{Job, source_of_job}
use Rattle.rooms.specs.Rooms.{refusal_of}
use Rattle.work.specs.FilledFrom.{filled_of_best}
use Rattle.tables.specs.JobTables.{tables_of}
use Rattle.work.specs.declared.fill.FilledTables.{FilledTables}
use Rattle.work.specs.declared.fill.FilledTables.TheVariants as FilledTables·is
use Rattle.links.specs.Blocks.{Checked}

-- a refused job has no other answer
abbrev pub filled_if : Checked → FilledTables → FilledTables
filled_if (Ok u) answer = answer
filled_if (Err r) answer = FilledTables·is.Refused r

-- what is answered for a job whose lent tables have so many rows
abbrev pub filled_of : Job → Rooms → FilledTables
filled_of job rooms = filled_if (refusal_of job rooms) (filled_of_best (source_of_job job) (best_of (source_of_job job)))

-- what the call leaves: the answer, and each lent column
pub record IsFilled (job : Job) (lent now : WorkColumns) (r : FilledTables) : Type 0 where
  pub answer : r ≡ filled_of job (rooms_of lent)
  pub tables : FilledBy (tables_of job (rooms_of lent)) lent now

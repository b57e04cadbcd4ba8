-- The answer to a job
use Rattle.std.specs.Prelude.{ℕ}
use Rattle.std.specs.Prelude.{Ok}
use Rattle.std.specs.Prelude.{◌≡◌, length, Err, Option, Some, None}
use Rattle.filling.specs.UseTables.{best_of}
use Rattle.filling.specs.SourceTables.{WorkColumns, rooms_of, FilledBy}
use Rattle.filling.specs.declared.lent.Rooms.{Rooms}
use Rattle.growth.specs.Proposal.{region_of}
use Rattle.refusals.specs.Job.{Job, source_of_job}
use Rattle.rooms.specs.Rooms.{refusal_of}
use Rattle.tables.specs.JobTables.{tables_of}
use Rattle.views.specs.View.{seen_of_job}
use Rattle.outcome.specs.Outcome.{of_region}
use Rattle.outcome.specs.declared.grow.Answer.{Answer}
use Rattle.outcome.specs.declared.grow.Answer.TheVariants as Answer·is
use Rattle.outcome.specs.declared.grow.Proposed.{Proposed}
use Rattle.links.specs.Blocks.{Checked}

-- none of kind 1: no best use
abbrev pub of_best : Job → Option ℕ → Answer
of_best job (Some best) = of_region (region_of (seen_of_job job best))
of_best job None = Answer·is.NoBestUse

-- a refused job has no other answer
abbrev pub of_checked : Checked → Answer → Answer
of_checked (Ok u) answer = answer
of_checked (Err r) answer = Answer·is.Refused r

-- the answer to a job whose lent tables have so many rows
abbrev pub answer_of : Job → Rooms → Answer
answer_of job rooms = of_checked (refusal_of job rooms) (of_best job (best_of (source_of_job job)))

-- what the call leaves: the answer, how many rows are used, and each lent column
pub record IsProposed (job : Job) (lent now : WorkColumns) (r : Proposed) : Type 0 where
  pub answer : r.answer ≡ answer_of job (rooms_of lent)
  pub uses : r.uses ≡ length (tables_of job (rooms_of lent)).uses
  pub gaps : r.gaps ≡ length (tables_of job (rooms_of lent)).gaps
  pub segments : r.gap_segments ≡ length (tables_of job (rooms_of lent)).segments
  pub tables : FilledBy (tables_of job (rooms_of lent)) lent now

-- What a job is answered as text
use Rattle.std.specs.Prelude.{ℕ, List}
use Rattle.sheet.specs.Answer.{answer_text, Wrote}
use Rattle.sheet.specs.declared.write.Answer as Shown
use Rattle.filling.specs.declared.lent.Rooms.{Rooms}
use Rattle.refusals.specs.Job.{Job}
use Rattle.outcome.specs.declared.grow.Answer.{Answer}
use Rattle.outcome.specs.declared.grow.Answer.TheVariants as Answer·is
use Rattle.outcome.specs.declared.grow.Proposed.{Proposed}
use Rattle.proposer.specs.Answer.{answer_of}
use Rattle.tables.specs.JobTables.{tables_of}
use Rattle.figures.specs.Figures.{shown_of}
use Rattle.table_text.specs.TablesText.{tables_text}
use Rattle.answers.specs.SheetRooms.{rooms_within}
use Rattle.answers.specs.declared.job.Answered.{Answered}

-- the answer to a job in figures, where the work tables have so many rows
abbrev pub shown_of_job : Job → Rooms → Shown.Answer
shown_of_job job rooms = shown_of job.k (answer_of job rooms)

-- what the call leaves where so many rows are asked for: the answer's text, and that of the tables; a refused job has none
pub record IsAnsweredJob (job : Job) (asked : Rooms) (out out-now lines lines_now : List ℕ) (r : Answered) : Type 0 where
  pub answer : Wrote (answer_text (shown_of_job job (rooms_within asked))) out out-now r.answer
  pub tables : Wrote (tables_text (tables_of job (rooms_within asked))) lines lines_now r.tables

-- ---- for contracts of private functions
-- how many links are filled: one a block, and none where the job is refused
abbrev pub links_used : Answer → ℕ → ℕ
links_used (Answer·is.Refused r) blocks = 0
links_used Answer·is.NoBestUse blocks = blocks
links_used Answer·is.NoRegion blocks = blocks
links_used (Answer·is.Found p) blocks = blocks

-- how many rows of each table
abbrev pub rows_of_proposed : Proposed → ℕ → Rooms
rows_of_proposed p blocks =
    record { uses = p.uses; gaps = p.gaps; gap_segments = p.gap_segments; links = links_used p.answer blocks }

-- The rows of a job's tables
use Rattle.std.specs.Prelude.{Ok}
use Rattle.std.specs.Prelude.{ℕ, List, [], Err}
use Rattle.use_rows.specs.Uses.{use_table_of}
use Rattle.use_rows.specs.declared.row.SplitUse.{SplitUse}
use Rattle.overlaps.specs.GapSegments.{Overlap}
use Rattle.gaps.specs.Gaps.{Gap, initial_gap}
use Rattle.filling.specs.UseTables.{best_of}
use Rattle.filling.specs.SourceTables.{gaps_from, lives_from, segments_from, Tables, tables_of_best}
use Rattle.filling.specs.declared.lent.Rooms.{Rooms}
use Rattle.refusals.specs.Job.{Job, source_of_job}
use Rattle.rooms.specs.Rooms.{refusal_of}
use Rattle.links.specs.Blocks.{Checked}

-- a job's use table
abbrev pub uses_of_job : Job → List SplitUse
uses_of_job job = use_table_of (source_of_job job)

-- its gaps around a best use, which of them is the best use's own, their live instructions and their gap segments
abbrev pub gaps_of_job : Job → ℕ → List Gap
gaps_of_job job best = gaps_from (source_of_job job) best

abbrev pub own_of_job : Job → ℕ → ℕ
own_of_job job best = initial_gap job.blocks (uses_of_job job) best

abbrev pub lives_of_job : Job → ℕ → List ℕ
lives_of_job job best = lives_from (source_of_job job) best

abbrev pub segments_of_job : Job → ℕ → List Overlap
segments_of_job job best = segments_from (source_of_job job) best

-- no rows: those of a refused job
abbrev pub no_tables : Tables
no_tables = record { prevs = []; nexts = []; uses = []; gaps = []; lives = []; segments = [] }

-- one thing of an accepted job, another of a refused one
abbrev pub if_accepted : {A : Type 0} → Checked → A → A → A
if_accepted (Ok u) accepted refused = accepted
if_accepted (Err r) accepted refused = refused

-- a job's tables; a refused job has none
abbrev pub tables_of : Job → Rooms → Tables
tables_of job rooms = if_accepted (refusal_of job rooms) (tables_of_best (source_of_job job) (best_of (source_of_job job))) no_tables

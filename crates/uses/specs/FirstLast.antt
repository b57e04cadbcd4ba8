-- For contracts of private functions: what the first and the last instruction of a job rely on
use Rattle.std.specs.Prelude.{◌≤◌, ◌≡◌, true, false, List, length}
use Rattle.jobs.specs.Rows.{live_out, fixed_def}
use Rattle.jobs.specs.declared.rows.Use.{Use}
use Rattle.jobs.specs.declared.rows.Segment.{Segment}

-- what the first instruction of a segment relies on: one with a fixed def starts at instruction 1 or later
abbrev pub Starting : Segment → Type 0
Starting s = fixed_def s.flags ≡ true → 4 ≤ s.start

-- what the last instruction of a segment relies on: one that is live-out ends at instruction 1 or later, another has a use
pub record Ending (uses : List Use) (s : Segment) : Type 0 where
  pub out : live_out s.flags ≡ true → 4 ≤ s.end
  pub used : live_out s.flags ≡ false → 1 ≤ s.end_use
  pub inside : s.end_use ≤ length uses

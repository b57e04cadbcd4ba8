-- `first_bad_segment` finds the first bad segment: `last` is the segment before, and no segment before i is bad
use borrow.Author.Count.{below_more}
use Rattle.std.proofs.Common.{rules, add-one}
use native.Mathlib.Omega.{arith}
use Rattle.columns.proofs.Firsts.{first_found}
use Rattle.jobs.proofs.checks.first_bad_segment.Goals as goal

pub returns-then-bounds_are_bad : goal.returns-then-bounds_are_bad
returns-then-bounds_are_bad c = first_found _ _ c.loop-i.i (omega arith) c.loop-i.invariant.1 (grind arith)

pub loop-i-preserved : goal.loop-i-preserved
loop-i-preserved c = (
  rw add-one (search rules),
  below_more _ _ c.loop-i.invariant.1 (grind arith),
)

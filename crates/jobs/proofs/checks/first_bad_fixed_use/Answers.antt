-- `first_bad_fixed_use` finds the first bad fixed use: `last` is the row before, and no row before i is bad
use borrow.Author.Count.{below_more}
use native.Mathlib.Omega.{arith}
use Rattle.std.proofs.Common.{rules, add-one}
use Rattle.columns.proofs.Firsts.{first_found}
use Rattle.jobs.proofs.checks.first_bad_fixed_use.Goals as goal

pub returns-then-fixed_use_is_bad : goal.returns-then-fixed_use_is_bad
returns-then-fixed_use_is_bad c = first_found _ _ c.loop-i.i (omega arith) c.loop-i.invariant.1 (grind arith)

pub loop-i-preserved : goal.loop-i-preserved
loop-i-preserved c = (
  rw add-one (search rules),
  below_more _ _ c.loop-i.invariant.1 (grind arith),
)

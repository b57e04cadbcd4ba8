-- `first_bad_reservation` finds the first bad reservation: `last` is the row before, `have` counts its unit's fixed uses, and no row before i is bad
use borrow.Author.Count.{below_more}
use Rattle.std.proofs.Common.{rules, add-one}
use native.Mathlib.Omega.{arith}
use Rattle.columns.proofs.Firsts.{first_found}
use Rattle.jobs.proofs.checks.first_bad_reservation.Goals as goal

pub returns-then-span_is_bad : goal.returns-then-span_is_bad
returns-then-span_is_bad c = first_found _ _ c.loop-i.i (omega arith) c.loop-i.invariant.2 (grind arith)

pub returns-then-kind_is_bad : goal.returns-then-kind_is_bad
returns-then-kind_is_bad c = first_found _ _ c.loop-i.i (omega arith) c.loop-i.invariant.2 (grind arith)

pub loop-i-preserved : goal.loop-i-preserved
loop-i-preserved c = (
  rw add-one (search rules),
  grind arith,
  below_more _ _ c.loop-i.invariant.2 (grind arith),
)

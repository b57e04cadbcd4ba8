-- `fixed_count` counts the rows of the unit, one by one
use mathlib.Core.Bool.{true, false}
use native.Mathlib.Omega.{arith}
use Rattle.std.proofs.lemmas.Grind.{common_steps}
use Rattle.columns.proofs.Counting.{counted_turn}
use Rattle.jobs.proofs.checks.fixed_count.Goals as goal
use Rattle.jobs.proofs.checks.fixed_count.Goals.{else-f-u, then-f-u}

pub loop-i-preserved : goal.loop-i-preserved
loop-i-preserved c = elim c.if-f-u.branch [
  | then-f-u w ↦ counted_turn _ c.loop-i.i c.loop-i.have c.if-f-u.have true c.loop-i.invariant (grind (arith, common_steps)) w.have-is
  | else-f-u w ↦ counted_turn _ c.loop-i.i c.loop-i.have c.if-f-u.have false c.loop-i.invariant (grind (arith, common_steps)) (grind (arith, common_steps))
]

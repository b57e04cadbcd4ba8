-- `count_falls` counts the uses that stand lower than the one before, one by one
use mathlib.Core.Bool.{true, false}
use native.Mathlib.Omega.{arith}
use Rattle.std.proofs.Common.{add-one}
use Rattle.std.proofs.lemmas.Grind.{common_steps}
use Rattle.columns.proofs.Counting.{counted_turn}
use Rattle.use_checks.proofs.all_uses.count_falls.Goals as goal
use Rattle.use_checks.proofs.all_uses.count_falls.Goals.{else-u-last, then-u-last}

pub loop-i-preserved : goal.loop-i-preserved
loop-i-preserved c = (
  rw add-one (grind (arith, common_steps)),
  let turn = counted_turn _ c.loop-i.i c.loop-i.falls c.if-u-last.falls in
      elim c.if-u-last.branch [
        | then-u-last w ↦ turn true c.loop-i.invariant.1 (grind (arith, common_steps)) w.falls-is
        | else-u-last w ↦ turn false c.loop-i.invariant.1 (grind (arith, common_steps)) (omega arith)
      ],
)

-- `count_lists` counts the lists that stray and those that begin lower, one by one
use mathlib.Core.Bool.{true, false}
use native.Mathlib.Omega.{arith}
use Rattle.std.proofs.lemmas.Grind.{common_steps}
use Rattle.columns.proofs.Counting.{counted_turn}
use Rattle.use_checks.proofs.all_uses.count_lists.Goals as goal
use Rattle.use_checks.proofs.all_uses.count_lists.Goals.{else-strays, then-strays, else-begins_lower, then-begins_lower}

pub loop-i-preserved : goal.loop-i-preserved
loop-i-preserved c =
    let l = c.loop-i in (
      let turn = counted_turn _ l.i l.astray c.if-strays.astray in
          elim c.if-strays.branch [ then-strays w ↦ turn true l.invariant.0 (grind (arith, common_steps)) w.astray-is | else-strays w ↦ turn false l.invariant.0 (grind (arith, common_steps)) (omega arith) ],
      let turn = counted_turn _ l.i l.lower c.if-begins_lower.lower in
          elim c.if-begins_lower.branch [ then-begins_lower w ↦ turn true l.invariant.1 (grind (arith, common_steps)) w.lower-is | else-begins_lower w ↦ turn false l.invariant.1 (grind (arith, common_steps)) (omega arith) ],
    )

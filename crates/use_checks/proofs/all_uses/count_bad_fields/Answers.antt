-- `count_bad_fields` counts the uses with a bad field, one by one
use mathlib.Core.Bool.{true, false}
use native.Mathlib.Omega.{arith}
use Rattle.std.proofs.lemmas.Grind.{common_steps}
use Rattle.columns.proofs.Counting.{counted_turn}
use Rattle.use_checks.proofs.all_uses.count_bad_fields.Goals as goal
use Rattle.use_checks.proofs.all_uses.count_bad_fields.Goals.{else-field_is_bad, then-field_is_bad}

pub loop-i-preserved : goal.loop-i-preserved
loop-i-preserved c =
    let turn = counted_turn _ c.loop-i.i c.loop-i.bad c.if-field_is_bad.bad in
    elim c.if-field_is_bad.branch [ then-field_is_bad w ↦ turn true c.loop-i.invariant (grind (arith, common_steps)) w.bad-is | else-field_is_bad w ↦ turn false c.loop-i.invariant (grind (arith, common_steps)) (omega arith) ]

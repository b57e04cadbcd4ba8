-- `count_bad_fields` counts the uses with a bad field, one by one
use Rattle.use_checks.specs.AllUses.{bad_field_at}
use Rattle.columns.proofs.Counting.{Counted}
use Rattle.use_checks.proofs.all_uses.count_bad_fields.Given as goal

abbrev pub invariant-loop-i : goal.invariant-loop-i
invariant-loop-i l = Counted (bad_field_at l.uses) l.i l.bad

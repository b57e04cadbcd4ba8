-- `count_lists` counts the lists that stray and those that begin lower, one by one
use Rattle.use_checks.specs.AllUses.{strays_at, begins_lower_at}
use Rattle.columns.proofs.Counting.{Counted}
use Rattle.use_checks.proofs.all_uses.count_lists.Given as goal

abbrev pub invariant-loop-i : goal.invariant-loop-i
invariant-loop-i l = Counted (strays_at l.limits l.uses l.segments) l.i l.astray
    × Counted (begins_lower_at l.uses l.segments) l.i l.lower

-- `find_best_use` goes through the main weights with the largest so far and its first row
use Rattle.use_rows.proofs.Largest.{Largest}
use Rattle.use_rows.proofs.row.find_best_use.Given as goal

abbrev pub invariant-loop-i : goal.invariant-loop-i
invariant-loop-i l = Largest l.weight l.i l.best l.top

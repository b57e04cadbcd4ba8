-- `count_falls` counts the uses that stand lower than the one before, one by one; `last` is the position before, 0 at first
use mathlib.Core.Path.{◌≡◌}
use Rattle.columns.specs.Table.{row_before}
use Rattle.jobs.specs.Rows.{no_use}
use Rattle.use_checks.specs.AllUses.{falls_at}
use Rattle.columns.proofs.Counting.{Counted}
use Rattle.use_checks.proofs.all_uses.count_falls.Given as goal

abbrev pub invariant-loop-i : goal.invariant-loop-i
invariant-loop-i l = (l.last ≡ (row_before l.uses no_use l.i).position) × Counted (falls_at l.uses) l.i l.falls

-- `fixed_count` counts the rows of the unit, one by one
use Prim.Native.Nat.{ℕ}
use lib.Dec.{eqb}
use lib.ListN.{get_or}
use Rattle.jobs.specs.Rows.{no_fixed_use}
use Rattle.columns.proofs.Counting.{Counted}
use Rattle.jobs.proofs.checks.fixed_count.Given as goal

abbrev pub invariant-loop-i : goal.invariant-loop-i
invariant-loop-i l = Counted (λ (k : ℕ). eqb (get_or l.fixed_uses k no_fixed_use).unit l.u) l.i l.have

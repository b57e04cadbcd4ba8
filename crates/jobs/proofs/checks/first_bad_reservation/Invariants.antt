-- `first_bad_reservation` finds the first bad reservation: `last` is the row before, `have` counts its unit's fixed uses, and no row before i is bad
use mathlib.Core.Path.{◌≡◌}
use mathlib.Core.Bool.{false}
use Prim.Native.Nat.{ℕ, ◌<◌}
use Rattle.columns.specs.Table.{row_before}
use Rattle.jobs.specs.Rows.{no_reservation}
use Rattle.jobs.specs.Lines.{fixed_of, bad_reservation}
use Rattle.jobs.proofs.checks.first_bad_reservation.Given as goal

abbrev pub invariant-loop-i : goal.invariant-loop-i
invariant-loop-i l = (l.last ≡ row_before l.reservations no_reservation l.i) ×
    (l.have ≡ fixed_of l.fixed_uses l.last.unit) ×
    ((k : ℕ) → k < l.i →
    bad_reservation l.limits l.fixed_uses l.reservations k ≡ false)

-- `new` finds the places in each unit: the walkers of the units before v stand
use mathlib.Core.List.{List}
use Prim.Native.Nat.{ℕ, ◌+◌, ◌≤◌}
use lib.ListN.{length}
use Rattle.jobs.specs.declared.rows.Reservation.{Reservation}
use Rattle.walks.specs.declared.meeting.Register.{Register}
use Rattle.links.specs.declared.lower.Side.{Side}
use Rattle.links.specs.declared.lower.Side.TheVariants.{Previous, Next}
use Rattle.walks.specs.Standing.{StandsIn}
use Rattle.walks.proofs.AllUnits.{Walked}
use Rattle.walks.proofs.both.Walkers.new.Given as goal

-- a walk to a side stands at a place in each unit before v; nothing is said of the others
abbrev pub Stands : Side → Register → List Reservation → ℕ → List ℕ → ℕ → Type 0
Stands side p rows point at v =
    Walked p.units (λ w x. Unit {0}) (λ w x. (x ≤ length rows) × StandsIn side rows (p.first.0 + w) point x) at v

abbrev pub invariant-loop-v : goal.invariant-loop-v
invariant-loop-v l = Stands Previous l.register l.reservations l.point.0 l.lefts l.v × Stands Next l.register l.reservations l.point.0 l.rights l.v

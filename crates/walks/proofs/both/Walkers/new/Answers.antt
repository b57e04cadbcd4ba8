-- `new` finds the places in each unit: the walkers of the units before v stand
use mathlib.Core.Path.{refl}
use mathlib.Core.List.{List}
use Prim.Native.Nat.{ℕ, ◌≤◌}
use native.Mathlib.Omega.{arith}
use lib.ListN.{length}
use Rattle.jobs.specs.declared.rows.Reservation.{Reservation}
use Rattle.walks.specs.declared.meeting.Register.{Register}
use Rattle.walks.specs.declared.walk.Walk.{Walk}
use Rattle.links.specs.declared.lower.Side.{Side}
use Rattle.walks.specs.Standing.{StandsInUnits, PlacesInside}
use Rattle.walks.proofs.both.Walkers.new.Invariants.{Stands}
use Rattle.walks.proofs.both.Walkers.new.Goals as goal

-- past the last unit
stands_in_all : {side : Side} {p : Register} {rows : List Reservation} {point : ℕ} (w : Walk) (v : ℕ) → p.units ≤ v → Stands side p rows point w.at v
    → PlacesInside p (length rows) w × StandsInUnits side p rows point w
stands_in_all w v h k =
    (record { eight = k.eight; inside = λ u l. (k.walked u (omega arith)).0 }, record { in_unit = λ u l. (k.walked u (omega arith)).1 })

pub returns : goal.returns
returns c =
    let l = c.loop-v in
    (refl, refl, stands_in_all _ l.v c.loop-v-test.false l.invariant.0, stands_in_all _ l.v c.loop-v-test.false l.invariant.1)

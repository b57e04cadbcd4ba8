-- What walks rely on, and where a walk stands
use Rattle.std.specs.Prelude.{◌≡◌, ℕ, ◌+◌, ◌≤◌, ◌<◌, Bool, List, ltb, length, get_or}
use Rattle.numbers.specs.Weight.{Weight}
use Rattle.jobs.specs.Rows.{no_reservation, no_fixed_use}
use Rattle.jobs.specs.declared.rows.Reservation.{Reservation}
use Rattle.jobs.specs.declared.rows.FixedUse.{FixedUse}
use Rattle.links.specs.declared.lower.Side.{Side}
use Rattle.links.specs.Links.{on_side}
use Rattle.walks.specs.declared.meeting.GapSegment.{GapSegment}
use Rattle.walks.specs.declared.meeting.Met.{Met}
use Rattle.walks.specs.declared.meeting.Register.{Register}
use Rattle.walks.specs.declared.walk.Walk.{Walk}
use Rattle.walks.specs.Meeting.{Reserved}
use Rattle.walks.specs.Ways.{Upto, first_end, last_end, Ahead, Behind}

-- reservations as line 10 leaves them: units do not fall; within a unit they are nonempty, ordered and disjoint
pub record OrderedRows (rows : List Reservation) : Type 0 where
  pub units : (i k : ℕ) → i ≤ k → k < length rows → (get_or rows i no_reservation).unit ≤ (get_or rows k no_reservation).unit
  pub nonempty : (k : ℕ) → k < length rows → (get_or rows k no_reservation).start < (get_or rows k no_reservation).end
  pub apart : (i k : ℕ) → i < k → k < length rows → (get_or rows i no_reservation).unit ≡ (get_or rows k no_reservation).unit
      → (get_or rows i no_reservation).end ≤ (get_or rows k no_reservation).start

-- fixed uses as line 11 leaves them: units do not fall, nor points within a unit
pub record OrderedUses (fixed_uses : List FixedUse) : Type 0 where
  pub units : (i k : ℕ) → i ≤ k → k < length fixed_uses → (get_or fixed_uses i no_fixed_use).unit ≤ (get_or fixed_uses k no_fixed_use).unit
  pub points : (i k : ℕ) → i ≤ k → k < length fixed_uses → (get_or fixed_uses i no_fixed_use).unit ≡ (get_or fixed_uses k no_fixed_use).unit
      → (get_or fixed_uses i no_fixed_use).point ≤ (get_or fixed_uses k no_fixed_use).point

-- both
pub record Ready (t : Reserved) : Type 0 where
  pub rows : OrderedRows t.rows
  pub uses : OrderedUses t.fixed_uses

-- a register of at most eight units, all of them 32-bit numbers
pub record Known (p : Register) : Type 0 where
  pub few : p.units ≤ 8
  pub fits : p.first.0 + p.units ≤ 4294967295

-- a walk to a side stands at a point in a unit's rows: no row ahead is of a unit before this one, and the unit's rows that it has passed end
-- at the point or before it, all on the way to that side
pub record StandsIn (side : Side) (rows : List Reservation) (unit point at : ℕ) : Type 0 where
  pub ahead : (k : ℕ) → k < length rows → Ahead side at k → Upto side unit (get_or rows k no_reservation).unit
  pub passed : (k : ℕ) → k < length rows → Behind side at k → (get_or rows k no_reservation).unit ≡ unit
      → Upto side (last_end side (get_or rows k no_reservation).start (get_or rows k no_reservation).end) point

-- it does in each unit of the register
pub record StandsInUnits (side : Side) (p : Register) (rows : List Reservation) (point : ℕ) (w : Walk) : Type 0 where
  pub in_unit : (v : ℕ) → v < p.units → StandsIn side rows (p.first.0 + v) point (get_or w.at v 0)

-- its places lie within n rows
pub record PlacesInside (p : Register) (n : ℕ) (w : Walk) : Type 0 where
  pub eight : length w.at ≡ 8
  pub inside : (v : ℕ) → v < p.units → get_or w.at v 0 ≤ n

-- ---- for contracts of private functions
-- where a gap segment begins and ends, on the way to a side
abbrev pub segment_begin : Side → GapSegment → ℕ
segment_begin side s = first_end side s.from.0 s.to.0

abbrev pub segment_end : Side → GapSegment → ℕ
segment_end side s = last_end side s.from.0 s.to.0

-- a row reaches past a gap segment's end
abbrev pub reaches_past : Side → GapSegment → Reservation → Bool
reaches_past side s r = on_side side (ltb r.start s.from.0) (ltb s.to.0 r.end)

-- rows and fixed uses in order, a gap segment that is not empty, and a weight
pub record Sound (t : Reserved) (s : GapSegment) (met : Met) : Type 0 where
  pub ready : Ready t
  pub nonempty : s.from.0 < s.to.0
  pub weight : Weight met.heaviest

-- a unit's fixed uses begin at `from`
pub record UsesFrom (fixed_uses : List FixedUse) (unit from : ℕ) : Type 0 where
  pub before : (k : ℕ) → k < from → (get_or fixed_uses k no_fixed_use).unit < unit
  pub later : (k : ℕ) → from ≤ k → k < length fixed_uses → unit ≤ (get_or fixed_uses k no_fixed_use).unit

-- a unit's rows stand from one to before another
pub record RowsOfUnit (rows : List Reservation) (unit from to : ℕ) : Type 0 where
  pub order : from ≤ to
  pub inside : to ≤ length rows
  pub before : (k : ℕ) → k < from → (get_or rows k no_reservation).unit < unit
  pub own : (k : ℕ) → from ≤ k → k < to → (get_or rows k no_reservation).unit ≡ unit
  pub later : (k : ℕ) → to ≤ k → k < length rows → unit < (get_or rows k no_reservation).unit

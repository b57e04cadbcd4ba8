-- What a gap segment meets among a register's reservations: over all rows, with no cursor and no order
use Rattle.std.specs.Prelude.{ℕ, ◌+◌, Bool, true, not, ◌&&◌, ◌||◌, cond, List, [], ◌∷◌, ◌++◌, leb, ltb, eqb, Float, length, get_or}
use Rattle.columns.specs.Table.{any_of}
use Rattle.numbers.specs.Weight.{weight_limit, value_of, heavier, heaviest}
use Rattle.jobs.specs.Rows.{no_fixed_use}
use Rattle.columns.specs.Below.{count_below, any_below}
use Rattle.jobs.specs.Lines.{no_fixed}
use Rattle.jobs.specs.declared.rows.Reservation.{Reservation}
use Rattle.jobs.specs.declared.rows.FixedUse.{FixedUse}
use Rattle.walks.specs.declared.meeting.GapSegment.{GapSegment}
use Rattle.walks.specs.declared.meeting.Register.{Register}
use Rattle.walks.specs.declared.meeting.Met.{Met}

-- what is reserved: the reservations, the fixed uses, and the bits of the spill weights
pub record Reserved : Type 0 where
  pub rows : List Reservation
  pub fixed_uses : List FixedUse
  pub weights : List ℕ

-- a reservation meets a gap segment: they overlap
unfoldable pub meets : GapSegment → Reservation → Bool
meets s r = ltb r.start s.to.0 && ltb s.from.0 r.end

-- a fixed use, from its point to point + 2, overlaps a gap segment and has another value
unfoldable pub clashes : GapSegment → FixedUse → Bool
clashes s f = ltb f.point s.to.0 && ltb s.from.0 (f.point + 2) && not (eqb f.value s.value.0)

-- how many fixed uses of a unit stand before fixed use j: if it is of that unit, its row number there
unfoldable pub row_number : List FixedUse → ℕ → ℕ → ℕ
row_number fixed_uses unit j = count_below (λ (i : ℕ). eqb (get_or fixed_uses i no_fixed_use).unit unit) j

-- fixed use j is of the reservation's unit, from its fixed row on, and clashes with the gap segment, wherever the reservation ends
unfoldable pub use_counts : List FixedUse → GapSegment → Reservation → ℕ → Bool
use_counts fixed_uses s r j =
    eqb (get_or fixed_uses j no_fixed_use).unit r.unit && leb r.fixed (row_number fixed_uses r.unit j) && clashes s (get_or fixed_uses j no_fixed_use)

-- a reservation that meets a gap segment counts as fixed: kind 0 by a fixed use, kind 1 always, kind 2 of another value
unfoldable pub counts_as_fixed : List FixedUse → GapSegment → Reservation → Bool
counts_as_fixed fixed_uses s r =
    cond (eqb r.kind 0) (not (eqb r.fixed no_fixed) && any_below (use_counts fixed_uses s r) (length fixed_uses))
    (cond (eqb r.kind 1) true (eqb r.kind 2 && not (eqb r.index s.value.0)))

-- the weight of a kind 0 reservation: the spill weight at its index
unfoldable pub spill_weight : List ℕ → Reservation → Float
spill_weight weights r = value_of weight_limit (get_or weights r.index 0)

-- a reservation is of one of the register's units
unfoldable pub of_register : Register → Reservation → Bool
of_register p r = leb p.first.0 r.unit && ltb r.unit (p.first.0 + p.units)

-- a reservation of the register meets a gap segment and counts as fixed, or counts its weight
unfoldable pub fixed_against : Register → List FixedUse → GapSegment → Reservation → Bool
fixed_against p fixed_uses s r = of_register p r && (meets s r && counts_as_fixed fixed_uses s r)

unfoldable pub weighs_against : Register → GapSegment → Reservation → Bool
weighs_against p s r = of_register p r && (meets s r && eqb r.kind 0)

-- something fixed is met
unfoldable pub fixed_met : Register → Reserved → GapSegment → Bool
fixed_met p t s = any_of (fixed_against p t.fixed_uses s) t.rows

-- the weights of the rows that pass a test, in the rows' order
unfoldable pub weights_where : (Reservation → Bool) → List ℕ → List Reservation → List Float
weights_where test weights [] = []
weights_where test weights (r ∷ rows) = cond (test r) (spill_weight weights r ∷ weights_where test weights rows) (weights_where test weights rows)

-- the weights met
unfoldable pub weights_met : Register → Reserved → GapSegment → List Float
weights_met p t s = weights_where (weighs_against p s) t.weights t.rows

-- the same of several gap segments: something fixed is met by one of them; the weights that each of them meets
unfoldable pub fixed_met_any : Register → Reserved → List GapSegment → Bool
fixed_met_any p t segments = any_of (fixed_met p t) segments

unfoldable pub weights_met_all : Register → Reserved → List GapSegment → List Float
weights_met_all p t [] = []
weights_met_all p t (s ∷ segments) = weights_met p t s ++ weights_met_all p t segments

-- the heaviest of a weight and of those that a gap segment meets
abbrev pub heaviest_met : Register → Reserved → GapSegment → Float → Float
heaviest_met p t s w = heavier w (heaviest (weights_met p t s))

-- ---- for contracts of private functions
-- what was met, and with it what a gap segment meets
abbrev pub also_met : Register → Reserved → GapSegment → Met → Met
also_met p t s m = record { fixed = m.fixed || fixed_met p t s; heaviest = heaviest_met p t s m.heaviest }

-- what was met, and with it one row of the register
unfoldable pub looked : List FixedUse → List ℕ → GapSegment → Reservation → Met → Met
looked fixed_uses weights s r m =
    cond (meets s r)
    (record {
      fixed = m.fixed || counts_as_fixed fixed_uses s r;
      heaviest = cond (eqb r.kind 0) (heavier m.heaviest (spill_weight weights r)) m.heaviest;
    })
    m

-- a register of one unit
abbrev pub one_unit : ℕ → Register
one_unit unit = record { first = record { 0 = unit }; units = 1 }

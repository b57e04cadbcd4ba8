-- What the rows of a register count against a gap segment, unit by unit, and what the gap segments of a gap meet: the definitions are the least that cover it
use mathlib.Core.Path.{◌≡◌, refl, sym, ap, ◌∙◌, subst}
use mathlib.Core.Logic.{inl, inr, ⊎_elim}
use mathlib.Core.Bool.{Bool, true, false, ◌&&◌, ◌||◌, cond}
use Prim.Native.Nat.{ℕ, ◌+◌, ◌≤◌, ◌<◌, max}
use native.Mathlib.Nat.{le_trans, le_of_eq}
use native.Mathlib.Omega.{arith}
use lib.Dec.{T, leb, ltb, eqb, leb→le, le→leb, ltb→lt, lt→ltb, eqb→eq, eqb_refl}
use lib.Ieee.{Float}
use lib.Ieee.Bits.{is_true}
use lib.ListN.{length, get_or}
use Rattle.columns.proofs.Tests.{cond_both, cond_true, and_T}
use Rattle.columns.proofs.Firsts.{split}
use Rattle.columns.proofs.OneOf.{any_one, one_some, some_one, picked_some, some_picked}
use Rattle.numbers.specs.Weight.{Weight, units_of, zero_weight, heavier, heaviest}
use Rattle.numbers.proofs.Units.{zero_units, zero_least}
use Rattle.numbers.proofs.Heaviest.{heavier_weight, heavier_units, heaviest_weight, heaviest_above, heaviest_least}
use Rattle.jobs.specs.Rows.{no_reservation}
use Rattle.jobs.specs.declared.rows.Reservation.{Reservation}
use Rattle.overlaps.specs.GapSegments.{SegmentColumns}
use Rattle.walks.specs.declared.meeting.GapSegment.{GapSegment}
use Rattle.walks.specs.declared.meeting.Register.{Register}
use Rattle.walks.specs.declared.meeting.Met.{Met}
use Rattle.walks.specs.Meeting.{Reserved, meets, counts_as_fixed, spill_weight, of_register, fixed_against, weighs_against, fixed_met, weights_met}
use Rattle.walks.specs.Meeting.{fixed_met_any, weights_met_all, also_met, looked, one_unit}
use Rattle.walks.specs.Gaps.{segment_in, of_gap, segments_of_gap, gap_met}
use Rattle.walks.proofs.Sets.{where_one, spill_weight_lem, fixed_one, weight_one, met_weights, all_weights}
use Rattle.walks.proofs.Seen.{Nothing, Joins, also_joins, Least, Seen, seen_none, seen_joins, seen_then, Rows}

-- ---- the rows of a register against a gap segment
abbrev pub row_of : Reserved → ℕ → Reservation
row_of t k = get_or t.rows k no_reservation

-- what one counts that meets it
abbrev pub counted : Reserved → GapSegment → ℕ → Met
counted t s k =
    let r = row_of t k in
    record { fixed = meets s r && counts_as_fixed t.fixed_uses s r; heaviest = cond (meets s r && eqb r.kind 0) (spill_weight t.weights r) zero_weight }

-- it is of one of the register's units
abbrev pub OfRegister : Register → Reserved → ℕ → Type 0
OfRegister p t k = (p.first.0 ≤ (row_of t k).unit) × ((row_of t k).unit < p.first.0 + p.units)

abbrev pub RowsOf : Register → Reserved → ℕ → Type 0
RowsOf p t = Rows (length t.rows) (OfRegister p t)

-- what a gap segment meets
abbrev pub met_by : Register → Reserved → GapSegment → Met
met_by p t s = record { fixed = fixed_met p t s; heaviest = heaviest (weights_met p t s) }

module _ (t : Reserved) (s : GapSegment) where
  -- a row that does not meet the segment counts nothing
  pub unmet : (k : ℕ) → (T (meets s (row_of t k)) → ⊥) → Nothing (counted t s k)
  unmet k h m =
      let r = row_of t k in
      record {
        fixed = λ c. absurd (h ((and_T (meets s r) (counts_as_fixed t.fixed_uses s r)).0 c).0);
        heaviest = cond_both (λ (x : Float). units_of x ≤ units_of m.heaviest) (meets s r && eqb r.kind 0) (spill_weight t.weights r) zero_weight
            (λ c. absurd (h ((and_T (meets s r) (eqb r.kind 0)).0 c).0)) (λ _. zero_least m.heaviest);
      }

  -- a row looked at
  pub looked_joins : (k : ℕ) (m : Met) → Weight m.heaviest → Joins m (counted t s k) (looked t.fixed_uses t.weights s (row_of t k) m)
  unfolding looked
  looked_joins k m w =
      let r = row_of t k in
      by (meets s r) (counts_as_fixed t.fixed_uses s r) (eqb r.kind 0) (spill_weight t.weights r) (spill_weight_lem t.weights r)
    where
      none : (b : Bool) → b ≡ (b || false)
      none true = refl
      none false = refl

      lighter : units_of m.heaviest ≡ max (units_of m.heaviest) (units_of zero_weight)
      lighter = let z = zero_units in omega (arith, z)

      by : (b c d : Bool) (x : Float) → Weight x → Joins m (record { fixed = b && c; heaviest = cond (b && d) x zero_weight })
          (cond b (record { fixed = m.fixed || c; heaviest = cond d (heavier m.heaviest x) m.heaviest }) m)
      by true c true x v = record { weight = heavier_weight w v; fixed = refl; heaviest = heavier_units w v }
      by true c false x v = record { weight = w; fixed = refl; heaviest = lighter }
      by false c d x v = record { weight = w; fixed = none m.fixed; heaviest = lighter }

  module _ (p : Register) where
    of_register_lem : (k : ℕ) → T (of_register p (row_of t k)) → OfRegister p t k
    unfolding of_register
    of_register_lem k o = let q = (and_T (leb p.first.0 (row_of t k).unit) (ltb (row_of t k).unit (p.first.0 + p.units))).0 o in
        (leb→le _ _ q.0, ltb→lt _ _ q.1)

    register_of : (k : ℕ) → OfRegister p t k → T (of_register p (row_of t k))
    unfolding of_register
    register_of k o = (and_T (leb p.first.0 (row_of t k).unit) (ltb (row_of t k).unit (p.first.0 + p.units))).1 (le→leb _ _ o.0, lt→ltb _ _ o.1)

    -- what the segment meets is the least that covers what the register's rows count
    met_least : Least (counted t s) (RowsOf p t) (met_by p t s)
    unfolding fixed_met weights_met fixed_against weighs_against
    met_least =
        record {
          above = λ k o. let r = row_of t k in let of = register_of k o.1 in record {
            fixed = λ c. some_one (any_one (fixed_against p t.fixed_uses s)) no_reservation t.rows k o.0
                ((and_T (of_register p r) (meets s r && counts_as_fixed t.fixed_uses s r)).1 (of, c));
            heaviest = cond_both (λ (x : Float). units_of x ≤ units_of (heaviest (weights_met p t s))) (meets s r && eqb r.kind 0)
                (spill_weight t.weights r) zero_weight
                (λ c. heaviest_above (weights_met p t s) (met_weights p t s) (spill_weight t.weights r)
                (some_one (where_one (weighs_against p s) t.weights (spill_weight t.weights r)) no_reservation t.rows k o.0
                ((and_T (of_register p r) (meets s r && eqb r.kind 0)).1 (of, c), refl)))
                (λ _. zero_least (heaviest (weights_met p t s)));
          };
          least = λ n f. record {
            fixed = λ c.
                let i = one_some (any_one (fixed_against p t.fixed_uses s)) no_reservation t.rows c in
                let r = row_of t i.at in
                let q = (and_T (of_register p r) (meets s r && counts_as_fixed t.fixed_uses s r)).0 i.is in
                (f i.at (i.inside, of_register_lem i.at q.0)).fixed q.1;
            heaviest = heaviest_least (weights_met p t s) (units_of n.heaviest) (λ w a.
                let i = one_some (where_one (weighs_against p s) t.weights w) no_reservation t.rows a in
                let r = row_of t i.at in
                let q = (and_T (of_register p r) (meets s r && eqb r.kind 0)).0 i.is.0 in
                le_trans (le_of_eq (ap units_of (i.is.1 ∙ sym (cond_true {t = meets s r && eqb r.kind 0} (spill_weight t.weights r) zero_weight (is_true _ q.1)))))
                (f i.at (i.inside, of_register_lem i.at q.0)).heaviest);
          };
        }

    pub met_seen : (m : Met) → Weight m.heaviest → Seen (counted t s) (RowsOf p t) m (also_met p t s m)
    met_seen m w = seen_joins (also_joins m (met_by p t s) w (heaviest_weight (weights_met p t s) (met_weights p t s))) met_least

-- ---- unit by unit: a register's first v units
abbrev pub first_units : Register → ℕ → Register
first_units p v = record { first = p.first; units = v }

module _ (p : Register) (t : Reserved) (s : GapSegment) where
  pub units_none : (m : Met) → Weight m.heaviest → Seen (counted t s) (RowsOf (first_units p 0) t) m m
  units_none m w = seen_none w (λ k o. absurd (omega arith))

  pub units_more : (v : ℕ) (m₀ m : Met) → Seen (counted t s) (RowsOf (first_units p v) t) m₀ m
      → Seen (counted t s) (RowsOf (first_units p (v + 1)) t) m₀ (also_met (one_unit (p.first.0 + v)) t s m)
  units_more v m₀ m k =
      seen_then (RowsOf (one_unit (p.first.0 + v)) t) (RowsOf (first_units p (v + 1)) t)
      (λ j o. ⊎_elim (λ l. inl (o.0, (o.1.0, l))) (λ l. inr (o.0, (l, omega arith))) (split (row_of t j).unit (p.first.0 + v)))
      (λ j o. (o.0, (o.1.0, omega arith))) (λ j o. (o.0, (omega arith, omega arith))) k
      (met_seen t s (one_unit (p.first.0 + v)) m k.weight)

-- ---- the gap segments of a gap
abbrev pub met_at : Register → Reserved → SegmentColumns → ℕ → Met
met_at p t g k = met_by p t (segment_in g k)

abbrev pub OfGap : SegmentColumns → ℕ → ℕ → Type 0
OfGap g gap k = get_or g.gap k 0 ≡ gap

module _ (p : Register) (t : Reserved) (g : SegmentColumns) (gap : ℕ) where
  of_gap_lem : (k : ℕ) → OfGap g gap k → T (of_gap g gap k)
  of_gap_lem k e = subst (λ (x : ℕ). T (eqb (get_or g.gap k 0) x)) e (eqb_refl (get_or g.gap k 0))

  gap_of : (k : ℕ) → T (of_gap g gap k) → OfGap g gap k
  gap_of k t = eqb→eq (get_or g.gap k 0) gap t

  gap_least : Least (met_at p t g) (Rows g.used (OfGap g gap))
      (record { fixed = fixed_met_any p t (segments_of_gap g gap); heaviest = heaviest (weights_met_all p t (segments_of_gap g gap)) })
  gap_least =
      record {
        above = λ k o. record {
          fixed = λ c. some_picked (fixed_one p t) (of_gap g gap) (segment_in g) g.used k o.0 (of_gap_lem k o.1) c;
          heaviest = heaviest_least (weights_met p t (segment_in g k)) _ (λ w a. heaviest_above (weights_met_all p t (segments_of_gap g gap))
              (all_weights p t (segments_of_gap g gap)) w (some_picked (weight_one p t w) (of_gap g gap) (segment_in g) g.used k o.0 (of_gap_lem k o.1) a));
        };
        least = λ n f. record {
          fixed = λ c. let i = picked_some (fixed_one p t) (of_gap g gap) (segment_in g) g.used c in (f i.at (i.inside, gap_of i.at i.is.0)).fixed i.is.1;
          heaviest = heaviest_least (weights_met_all p t (segments_of_gap g gap)) (units_of n.heaviest) (λ w a.
              let i = picked_some (weight_one p t w) (of_gap g gap) (segment_in g) g.used a in
              le_trans (heaviest_above (weights_met p t (segment_in g i.at)) (met_weights p t (segment_in g i.at)) w i.is.1)
              (f i.at (i.inside, gap_of i.at i.is.0)).heaviest);
        };
      }

  pub gap_seen : (m : Met) → Weight m.heaviest → Seen (met_at p t g) (Rows g.used (OfGap g gap)) m (gap_met p t g gap m)
  gap_seen m w = seen_joins (also_joins m _ w (heaviest_weight (weights_met_all p t (segments_of_gap g gap)) (all_weights p t (segments_of_gap g gap)))) gap_least

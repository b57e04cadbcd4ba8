-- A walk over the rows of one unit: where it begins, one row more, and the ways out
use mathlib.Core.Path.{◌≡◌, sym, ◌∙◌, subst}
use mathlib.Core.Logic.{⊎_elim}
use mathlib.Core.Bool.{true, false}
use mathlib.Core.List.{List}
use Prim.Native.Nat.{ℕ, ◌+◌, ◌≤◌, ◌<◌}
use native.Mathlib.Nat.{le_of_lt}
use native.Mathlib.Omega.{arith}
use lib.Dec.{T, ltb, ltb→lt}
use lib.ListN.{length}
use borrow.Author.Tests.{ltb-true, ltb-false}
use Rattle.columns.proofs.Tests.{and_T}
use Rattle.jobs.specs.declared.rows.Reservation.{Reservation}
use Rattle.links.specs.declared.lower.Side.{Side}
use Rattle.links.specs.declared.lower.Side.TheVariants.{Previous, Next}
use Rattle.walks.specs.declared.meeting.GapSegment.{GapSegment}
use Rattle.walks.specs.declared.meeting.Met.{Met}
use Rattle.walks.specs.Meeting.{Reserved, meets, looked, also_met, one_unit}
use Rattle.walks.specs.Ways.{Upto, Before, first_end, last_end, Ahead, AnyAhead, row_ahead, place_behind}
use Rattle.walks.specs.Standing.{OrderedRows, StandsIn, Sound, segment_begin, segment_end, reaches_past}
use Rattle.walks.proofs.Ways.{upto_trans, upto_between, near_far, row_inside, row_is_ahead, row_first, some_ahead, passed_only, ahead_before, row_before}
use Rattle.walks.proofs.Seen.{Seen, Passed, Nothing, seen_only, seen_none, walk_more, walk_all}
use Rattle.walks.proofs.Counted.{OfRegister, row_of, counted, unmet, looked_joins, met_seen}

-- where a row begins and ends, on the way to a side
abbrev row_begin : Side → Reservation → ℕ
row_begin side r = first_end side r.start r.end

abbrev row_end : Side → Reservation → ℕ
row_end side r = last_end side r.start r.end

-- a row that comes before a gap segment, or after it, does not meet it
meets_both : (s : GapSegment) (r : Reservation) → T (meets s r) → (r.start < s.to.0) × (s.from.0 < r.end)
unfolding meets
meets_both s r t =
    let b = (and_T (ltb r.start s.to.0) (ltb s.from.0 r.end)).0 t in (ltb→lt r.start s.to.0 b.0, ltb→lt s.from.0 r.end b.1)

comes_before : (side : Side) (s : GapSegment) (r : Reservation) → Upto side (row_end side r) (segment_begin side s) → T (meets s r) → ⊥
comes_before Previous s r h t = let b = meets_both s r t in omega arith
comes_before Next s r h t = let b = meets_both s r t in omega arith

comes_after : (side : Side) (s : GapSegment) (r : Reservation) → Upto side (segment_end side s) (row_begin side r) → T (meets s r) → ⊥
comes_after Previous s r h t = let b = meets_both s r t in omega arith
comes_after Next s r h t = let b = meets_both s r t in omega arith

-- the test of a row that reaches past the segment
reaches_true : (side : Side) (s : GapSegment) (r : Reservation) → reaches_past side s r ≡ true → Upto side (segment_end side s) (row_end side r)
reaches_true Previous s r e = record { is = le_of_lt (ltb-true r.start s.from.0 e) }
reaches_true Next s r e = record { is = le_of_lt (ltb-true s.to.0 r.end e) }

reaches_false : (side : Side) (s : GapSegment) (r : Reservation) → reaches_past side s r ≡ false → Upto side (row_end side r) (segment_end side s)
reaches_false Previous s r e = record { is = ltb-false r.start s.from.0 e }
reaches_false Next s r e = record { is = ltb-false s.to.0 r.end e }

-- carried on to a later point of the way
pub stands_later : (side : Side) {rows : List Reservation} {u p q at : ℕ} → Upto side p q → StandsIn side rows u p at → StandsIn side rows u q at
stands_later side h b = record { ahead = b.ahead; passed = λ k n x e. upto_trans side (b.passed k n x e) h }

-- rows in order, on the way
module _ (t : Reserved) (ordered : OrderedRows t.rows) where
  units_on : (side : Side) (j k : ℕ) → Upto side j k → j < length t.rows → k < length t.rows → Upto side (row_of t j).unit (row_of t k).unit
  units_on Previous j k h l m = record { is = ordered.units k j h.is l }
  units_on Next j k h l m = record { is = ordered.units j k h.is m }

  apart_on : (side : Side) (j k : ℕ) → Before side j k → j < length t.rows → k < length t.rows → (row_of t j).unit ≡ (row_of t k).unit
      → Upto side (row_end side (row_of t j)) (row_begin side (row_of t k))
  apart_on Previous j k h l m e = record { is = ordered.apart k j h.is l (sym e) }
  apart_on Next j k h l m e = record { is = ordered.apart j k h.is m e }

-- a walk at place i: it stands at the segment's end, and the unit's rows that it has passed count what was met
pub record Walking (side : Side) (t : Reserved) (s : GapSegment) (u : ℕ) (m₀ : Met) (i : ℕ) (m : Met) : Type 0 where
  pub stands : StandsIn side t.rows u (segment_end side s) i
  pub seen : Seen (counted t s) (Passed side (length t.rows) (OfRegister (one_unit u) t) i) m₀ m

-- what it answers
abbrev pub Answers : Side → Reserved → GapSegment → ℕ → Met → ℕ → Met → Type 0
Answers side t s u m₀ i m = (m ≡ also_met (one_unit u) t s m₀) × StandsIn side t.rows u (segment_end side s) i

same : {a u : ℕ} → (u ≤ a) × (a < u + 1) → a ≡ u
same h = omega arith

module _ (side : Side) (t : Reserved) (s : GapSegment) (u : ℕ) (m₀ : Met) (sound : Sound t s m₀) where
  abbrev n : ℕ
  n = length t.rows

  abbrev Of : ℕ → Type 0
  Of = OfRegister (one_unit u) t

  pub walking_first : (at : ℕ) → StandsIn side t.rows u (segment_begin side s) at → Walking side t s u m₀ at m₀
  walking_first at b =
      record {
        stands = stands_later side (near_far side sound.nonempty) b;
        seen = seen_none sound.weight
            (λ k l. unmet t s k (comes_before side s (row_of t k) (b.passed k l.1.0 l.0 (same l.1.1))) m₀);
      }

  -- out, where none of the rows ahead counts
  out : (i j : ℕ) (m : Met) → ((k : ℕ) → Ahead side j k → k < n → (row_of t k).unit ≡ u → Nothing (counted t s k))
      → Seen (counted t s) (Passed side n Of j) m₀ m → StandsIn side t.rows u (segment_end side s) i → Answers side t s u m₀ i m
  out i j m f k b = (seen_only (walk_all side n (counted t s) Of j (λ k a o. f k a o.0 (same o.1)) k) (met_seen t s (one_unit u) m₀ sound.weight), b)

  module _ (i : ℕ) (m : Met) (w : Walking side t s u m₀ i m) where
    abbrev row : ℕ
    row = row_ahead side i

    -- where no row of the unit is ahead
    pub walking_out : (AnyAhead side i n → i ≤ n → (row_of t row).unit ≡ u → ⊥) → i ≤ n → Answers side t s u m₀ i m
    walking_out ne inside =
        out i i m
        (λ k a l e. let any = some_ahead side a l in let there = row_inside side any inside in
        absurd (ne any inside (upto_between side (w.stands.ahead row there (row_is_ahead side any))
        (units_on t sound.ready.rows side row k (row_first side a) there l) e)))
        w.seen w.stands

    -- at a row of the unit
    module _ (any : AnyAhead side i n) (inside : i ≤ n) (e : (row_of t row).unit ≡ u) where
      abbrev next : Met
      next = looked t.fixed_uses t.weights s (row_of t row) m

      seen_next : Seen (counted t s) (Passed side n Of (place_behind side i)) m₀ next
      seen_next = walk_more side n (counted t s) Of i any inside (omega arith, omega arith) (looked_joins t s row m w.seen.weight) w.seen

      -- one that reaches past the segment is the last
      pub walking_past : reaches_past side s (row_of t row) ≡ true → Answers side t s u m₀ i next
      walking_past r =
          out i (place_behind side i) next
          (λ k a l f. unmet t s k (comes_after side s (row_of t k) (upto_trans side (reaches_true side s (row_of t row) r)
          (apart_on t sound.ready.rows side row k (row_before side i a) (row_inside side any inside) l (e ∙ sym f)))))
          seen_next w.stands

      -- one that does not is passed
      pub walking_next : reaches_past side s (row_of t row) ≡ false → Walking side t s u m₀ (place_behind side i) next
      walking_next r =
          record {
            stands = record {
              ahead = λ k l a. w.stands.ahead k l (ahead_before side i a);
              passed = λ k l q f. ⊎_elim (λ x. w.stands.passed k l x f)
                  (λ x. subst (λ (j : ℕ). Upto side (row_end side (row_of t j)) (segment_end side s)) (sym x) (reaches_false side s (row_of t row) r))
                  (passed_only side q);
            };
            seen = seen_next;
          }

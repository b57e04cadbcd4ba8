-- A walk over the rows of a gap: where it stands, one row more, and where it ends
use mathlib.Core.Path.{◌≡◌, ap, ◌∙◌}
use mathlib.Core.Logic.{inl, inr, ⊎_elim}
use mathlib.Core.List.{List}
use Prim.Native.Nat.{ℕ, ◌+◌, ◌≤◌, ◌<◌, zero-le}
use native.Mathlib.Nat.{lt_of_lt_of_le}
use native.Mathlib.Omega.{arith}
use lib.Dec.{leb}
use lib.ListN.{get_or}
use Rattle.columns.specs.First.{FirstIn, Rising}
use Rattle.columns.proofs.Firsts.{parted}
use Rattle.numbers.specs.Weight.{Weight}
use Rattle.numbers.proofs.Heaviest.{heaviest_weight}
use Rattle.jobs.specs.declared.rows.Reservation.{Reservation}
use Rattle.links.specs.declared.lower.Side.{Side}
use Rattle.links.specs.declared.lower.Side.TheVariants.{Previous, Next}
use Rattle.overlaps.specs.GapSegments.{SegmentColumns}
use Rattle.walks.specs.declared.meeting.Register.{Register}
use Rattle.walks.specs.declared.meeting.Met.{Met}
use Rattle.walks.specs.declared.walk.Walk.{Walk}
use Rattle.walks.specs.Meeting.{Reserved, weights_met, also_met}
use Rattle.walks.specs.Ways.{Upto, Before, first_end, last_end, Ahead, Behind, AnyAhead, row_ahead, place_behind}
use Rattle.walks.specs.Standing.{StandsInUnits, segment_end}
use Rattle.walks.specs.Gaps.{segment_in, OrderedGaps, GapsFrom, begin_at, At, gap_met}
use Rattle.walks.proofs.Ways.{row_inside, row_is_ahead, row_first, some_ahead, behind_inside, passed_only, ahead_before, row_before}
use Rattle.walks.proofs.Ways.{near_other, far_other, far_passed, far_ahead, ahead_later}
use Rattle.walks.proofs.OneUnit.{stands_later}
use Rattle.walks.proofs.Sets.{met_weights}
use Rattle.walks.proofs.Seen.{Seen, Passed, also_joins, seen_only, seen_none, walk_more, walk_all}
use Rattle.walks.proofs.Counted.{OfGap, met_at, gap_seen}

-- ---- a walk carried on to a later point
pub later : (side : Side) {p : Register} {rows : List Reservation} {a b : ℕ} {w : Walk} → Upto side a b → StandsInUnits side p rows a w
    → StandsInUnits side p rows b w
later side h s = record { in_unit = λ v l. stands_later side h (s.in_unit v l) }

-- a new walk stands at its edge, if the gap segments ahead begin at its point or after it
pub begins : (side : Side) {p : Register} {rows : List Reservation} (g : SegmentColumns) (edge point : ℕ) (w : Walk) → GapsFrom g edge w.next
    → (AnyAhead side w.next g.used → Upto side point (begin_at side g (row_ahead side w.next))) → StandsInUnits side p rows point w
    → At side p rows g edge w
begins side g edge point w f h s = record { place = f; stands = λ l. later side (h l) s }

-- the first row of the gaps from one on, by a search in the column of gaps
module _ (g : SegmentColumns) (ordered : OrderedGaps g) where
  pub gaps_rise : Rising g.gap 0 g.used
  gaps_rise = λ i k _ q r. ordered.gaps i k q r

  pub gaps_found : (gap next : ℕ) → FirstIn (λ (k : ℕ). leb gap (get_or g.gap k 0)) 0 g.used next → GapsFrom g gap next
  gaps_found gap next f = let q = parted {col = g.gap} gaps_rise f in record { inside = f.to; before = λ k l. q.before k zero-le l; later = q.later }

  -- gaps and gap segments in order, on the way
  gaps_on : (side : Side) (j k : ℕ) → Upto side j k → j < g.used → k < g.used → Upto side (get_or g.gap j 0) (get_or g.gap k 0)
  gaps_on Previous j k h l m = record { is = ordered.gaps k j h.is l }
  gaps_on Next j k h l m = record { is = ordered.gaps j k h.is m }

  segments_on : (side : Side) (j k : ℕ) → Before side j k → j < g.used → k < g.used
      → Upto side (last_end side (get_or g.from j 0) (get_or g.to j 0)) (begin_at side g k)
  segments_on Previous j k h l m = record { is = ordered.apart k j h.is l }
  segments_on Next j k h l m = record { is = ordered.apart j k h.is m }

up : {a b : ℕ} → a < b → a + 1 ≤ b
up h = omega arith

down : {a b : ℕ} → a + 1 ≤ b → a < b
down h = omega arith

-- ---- the rows about a place, by their gaps
module _ (g : SegmentColumns) (edge i : ℕ) where
  from_ahead : (side : Side) → GapsFrom g edge i → (k : ℕ) → k < g.used → Ahead side i k → Ahead side edge (get_or g.gap k 0)
  from_ahead Previous f k n a = record { is = up (f.before k (down a.is)) }
  from_ahead Next f k n a = record { is = f.later k a.is n }

  from_passed : (side : Side) → GapsFrom g edge i → (k : ℕ) → k < g.used → Behind side i k → Behind side edge (get_or g.gap k 0)
  from_passed Previous f k n a = record { is = f.later k a.is n }
  from_passed Next f k n a = record { is = up (f.before k (down a.is)) }

  from_both : (side : Side) → i ≤ g.used → ((k : ℕ) → k < g.used → Ahead side i k → Ahead side edge (get_or g.gap k 0))
      → ((k : ℕ) → k < g.used → Behind side i k → Behind side edge (get_or g.gap k 0)) → GapsFrom g edge i
  from_both Previous h a p =
      record { inside = h; before = λ k l. down (a k (lt_of_lt_of_le l h) (record { is = up l })).is; later = λ k l n. (p k n (record { is = l })).is }
  from_both Next h a p =
      record { inside = h; before = λ k l. down (p k (lt_of_lt_of_le l h) (record { is = up l })).is; later = λ k l n. (a k n (record { is = l })).is }

-- between the rows of the gap: those ahead are of no gap before it, and those passed of none after it
pub record Within (side : Side) (g : SegmentColumns) (gap i : ℕ) : Type 0 where
  pub inside : i ≤ g.used
  pub ahead : (k : ℕ) → k < g.used → Ahead side i k → Ahead side (first_end side gap (gap + 1)) (get_or g.gap k 0)
  pub passed : (k : ℕ) → k < g.used → Behind side i k → Behind side (last_end side gap (gap + 1)) (get_or g.gap k 0)

-- at place i among the gap's rows the walk stands where the row ahead begins, and the rows passed meet what was met
pub record Going (side : Side) (p : Register) (t : Reserved) (g : SegmentColumns) (gap : ℕ) (m₀ : Met) (i : ℕ) (walk : Walk) (m : Met) : Type 0 where
  pub within : Within side g gap i
  pub stands : AnyAhead side i g.used → StandsInUnits side p t.rows (begin_at side g (row_ahead side i)) walk
  pub seen : Seen (met_at p t g) (Passed side g.used (OfGap g gap) i) m₀ m

module _ (side : Side) (p : Register) (t : Reserved) (g : SegmentColumns) (ordered : OrderedGaps g) (gap : ℕ) (m₀ : Met) (weight : Weight m₀.heaviest) where
  abbrev gap_at : ℕ → ℕ
  gap_at k = get_or g.gap k 0

  abbrev near : ℕ
  near = first_end side gap (gap + 1)

  abbrev far : ℕ
  far = last_end side gap (gap + 1)

  -- at the gap's near edge
  pub going_first : (walk : Walk) → At side p t.rows g near walk → Going side p t g gap m₀ walk.next walk m₀
  going_first walk a =
      let passed = from_passed g near walk.next side a.place in
      record {
        within = record {
          inside = a.place.inside;
          ahead = from_ahead g near walk.next side a.place;
          passed = λ k n q. far_passed side gap (inl (passed k n q));
        };
        stands = a.stands;
        seen = seen_none weight (λ k q. absurd (near_other side gap (passed k q.1.0 q.0) q.1.1));
      }

  module _ (i : ℕ) (walk : Walk) (m : Met) (w : Going side p t g gap m₀ i walk m) where
    abbrev row : ℕ
    row = row_ahead side i

    -- one row of the gap more
    pub going_next : AnyAhead side i g.used → gap_at row ≡ gap → (next : Walk) → StandsInUnits side p t.rows (segment_end side (segment_in g row)) next
        → Going side p t g gap m₀ (place_behind side i) next (also_met p t (segment_in g row) m)
    going_next any e next s =
        let inside = w.within.inside in
        let after = behind_inside side any inside in
        record {
          within = record {
            inside = after;
            ahead = λ k n a. w.within.ahead k n (ahead_before side i a);
            passed = λ k n q. ⊎_elim (λ x. w.within.passed k n x) (λ x. far_passed side gap (inr (ap gap_at x ∙ e))) (passed_only side q);
          };
          stands = λ a. later side
              (segments_on g ordered side row (row_ahead side (place_behind side i)) (row_before side i (row_is_ahead side a)) (row_inside side any inside)
              (row_inside side a after)) s;
          seen = walk_more side g.used (met_at p t g) (OfGap g gap) i any inside e
              (also_joins m (met_at p t g row) w.seen.weight (heaviest_weight (weights_met p t (segment_in g row)) (met_weights p t (segment_in g row)))) w.seen;
        }

    -- where the row ahead is of another gap, the walk has come to the far edge
    pub going_out : (AnyAhead side i g.used → gap_at row ≡ gap → ⊥) → GapsFrom g far i × (m ≡ gap_met p t g gap m₀)
    going_out ne = (
      out,
      seen_only (walk_all side g.used (met_at p t g) (OfGap g gap) i (λ k a o. absurd (far_other side gap (from_ahead g far i side out k o.0 a) o.1))
          w.seen) (gap_seen p t g gap m₀ weight),
    )
      where
        out : GapsFrom g far i
        out =
            from_both g far i side w.within.inside
            (λ k n a. let any = some_ahead side a n in
            let there = row_inside side any w.within.inside in
            ahead_later side (far_ahead side gap (w.within.ahead row there (row_is_ahead side any)) (ne any))
            (gaps_on g ordered side row k (row_first side a) there n))
            w.within.passed

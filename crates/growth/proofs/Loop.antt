-- What a loop over tries rests on: the side that is tried, a try by the code's test, the start and the answer
use mathlib.Core.Path.{◌≡◌, refl, sym, ap, ◌∙◌, subst}
use Prim.Native.Nat.{ℕ, zero, suc, ◌+◌, ◌^◌, ◌≤◌, ◌<◌, suc-le-suc}
use native.Mathlib.Nat.{le_trans, add_comm}
use native.Mathlib.Omega.{arith}
use mathlib.Core.Bool.{Bool, true, false, not, ◌&&◌, cond}
use mathlib.Core.List.{List, append-nil}
use lib.Dec.{T, lit<}
use lib.Ieee.{Float, binary32, add}
use Rattle.numbers.specs.Weight.{Weight, finite, units_of, zero_weight, heavier, heaviest, Weights}
use Rattle.columns.proofs.Tests.{cond_both, cond_true, cond_false}
use Rattle.numbers.proofs.Units.{units_inj, zero_finite, zero_units}
use Rattle.numbers.proofs.Rounding.{rounded, round_fixed}
use Rattle.numbers.proofs.Operations.{sum_weight, sum_units}
use Rattle.links.specs.declared.lower.Side.{Side}
use Rattle.links.specs.declared.lower.Side.TheVariants.{Previous, Next}
use Rattle.growth.specs.Growth.{GapsSeen, Span, State, own_span, gaps_in, weights_in, heaviest_in, weight_test, gap_outside, grown_by, passes, passes_on, is_open}
use Rattle.growth.specs.Growth.{side_tried, barred, grows, came, came_on, after_came, try_on, try_at, try, growth, grown, grown_of, tried, own_tried}
use Rattle.growth.specs.Proposal.{proposal_with, proposal_of, region_of}
use Rattle.growth.specs.Demand.{Around, Ended, SoundGaps}
use Rattle.growth.specs.Columns.{growth_of, span_of, state_of, InsideGaps, CountFits, came_with, tried_with, no_growth, barred_on}
use Rattle.growth.specs.Columns.{after_with, after_tried}
use Rattle.growth.specs.Columns.{start_at, Going}
use Rattle.growth.specs.declared.step.Growth.{Growth}
use Rattle.growth.specs.declared.step.Tried.{Tried}
use Rattle.growth.specs.declared.step.Came.{Came}
use Rattle.growth.specs.declared.step.Came.TheVariants as Came·is
use Rattle.growth.proofs.Tries.{not_is, is_true, open_left, turn_cases, try_on_lem, left_to_try, fewer_grown, fewer_barred, growth_around, ended_stays}
use Rattle.growth.proofs.Tries.{growth_same}
use Rattle.growth.proofs.Spans.{between_one, outside_inside, tried_insts_few}
use Rattle.growth.proofs.Meetings.{heaviest_with_gap}
use Rattle.growth.proofs.Proposals.{growth_met}
use Rattle.std.specs.Prelude.{Some, None, Option}

-- ---- what the code tries is what growth tries, where the heaviest weight is that of the region with the gap
pub tried_is : (side : Side) (seen : GapsSeen) (s : Span) → seen.numerator ≡ 2007
    → tried_with side (gap_outside side s) (grown_of seen s) (seen.weight (gap_outside side s)) (seen.live (gap_outside side s)) (seen.fixed (gap_outside side s))
    (heaviest_in seen (grown_by side seen s)) seen.k ≡ tried side seen s
unfolding came_with came weight_test
tried_is Previous seen s e = rw e
tried_is Next seen s e = rw e

module _ (seen : GapsSeen) where
  -- ---- the side that is tried
  -- it is open, and a try is a try on it
  pub turn_open : (st : State) (side : Side) → side_tried seen.count seen.freq seen.live st ≡ Some side → T (is_open side seen st)
  turn_open st side = turn_cases seen (λ (t : Option Side). t ≡ Some side → T (is_open side seen st)) st (λ other o e. same other o e) (λ _ e. absurd (never e))
    where
      same : (other : Side) → T (is_open other seen st) → Some other ≡ Some side → T (is_open side seen st)
      same other o e = let p : other ≡ side = cc in subst (λ (s : Side). T (is_open s seen st)) p o

      never : None ≡ Some side → ⊥
      never e = let z : ◌≡◌ {A = ℕ} 0 1 = cc in omega arith

  pub turn_ended : (st : State) → side_tried seen.count seen.freq seen.live st ≡ None → Ended seen st
  turn_ended st = turn_cases seen (λ (t : Option Side). t ≡ None → Ended seen st) st (λ other o e. absurd (never other e)) (λ h _. h)
    where
      never : (side : Side) → Some side ≡ None → ⊥
      never side e = let z : ◌≡◌ {A = ℕ} 0 1 = cc in omega arith

  pub turn_tries : (st : State) (side : Side) → side_tried seen.count seen.freq seen.live st ≡ Some side → try seen st ≡ try_on side seen st
  unfolding try
  turn_tries st side e = ap (λ (t : Option Side). try_at t seen st) e

  -- ---- a try, by what the code knows of the gap
  pub tried_step : seen.numerator ≡ 2007 → (st : State) (side : Side) → T (is_open side seen st) → Around seen st.region
      → Weights (weights_in seen.met (gaps_in st.region)) → Weights (seen.met (gap_outside side st.region))
      → tried_with side (gap_outside side st.region) (grown_of seen st.region) (seen.weight (gap_outside side st.region))
      (seen.live (gap_outside side st.region)) (seen.fixed (gap_outside side st.region))
      (heavier (heaviest_in seen st.region) (heaviest (seen.met (gap_outside side st.region)))) seen.k
      ≡ tried side seen st.region
  tried_step e st side o a p q =
      let s = st.region in
      ap (λ (h : Float). tried_with side (gap_outside side s) (grown_of seen s) (seen.weight (gap_outside side s)) (seen.live (gap_outside side s))
      (seen.fixed (gap_outside side s)) h seen.k)
      (sym (heaviest_with_gap seen st side o a p q))
      ∙ tried_is side seen s e

  -- what the code's steps rely on
  pub growth_inside : seen.own < seen.count → (n : ℕ) → InsideGaps seen.count (grown_of seen (growth seen n).region)
  growth_inside h n = let a = growth_around seen h n in record { some = le_trans (suc-le-suc a.left) a.own; inside = a.right }

  pub growth_count_fits : SoundGaps seen → (n : ℕ) (side : Side) → T (is_open side seen (growth seen n))
      → CountFits (grown_of seen (growth seen n).region) (seen.live (gap_outside side (growth seen n).region))
  growth_count_fits sound n side o =
      below ((growth seen n).region.insts + seen.live (gap_outside side (growth seen n).region)) seen.k (2 ^ 24) (2 ^ 32)
      (tried_insts_few seen sound n side o) (lit< tt)
    where
      below : (a k m b : ℕ) → a + k ≤ m → m < b → a < b
      below a k m b h l = omega arith

  -- ---- growth after a try, as the code holds it
  pub after_try : (st : State) (side : Side) → after_tried (tried side seen st.region) (growth_of seen st) ≡ growth_of seen (try_on side seen st)
  unfolding try_on
  after_try st side = by (came_on side seen st.region)
    where
      by : (c : Came) → after_with c side (grown_of seen (grown_by side seen st.region)) (growth_of seen st) ≡ growth_of seen (after_came c side seen st)
      by Came·is.Grown = refl
      by Came·is.Fixed = refl
      by Came·is.Weight = refl

  -- ---- the start: no gap, and the own gap tried
  -- zero added to a weight is that weight
  zero_added : {w : Float} → Weight w → add binary32 zero_weight w ≡ w
  zero_added {w} p =
      units_inj (sum_weight (finite zero_finite) p) p (sum_units (finite zero_finite) p
      ∙ ap (λ (n : ℕ). rounded n (2 ^ 149)) (ap (λ (z : ℕ). z + units_of w) zero_units ∙ none (units_of w)) ∙ round_fixed p)
    where
      none : (a : ℕ) → 0 + a ≡ a
      none a = omega arith

  -- the own gap alone meets what that gap meets
  pub heaviest_own : heaviest_in seen (own_span seen) ≡ heaviest (seen.met seen.own)
  unfolding weights_in
  heaviest_own = ap (λ (gs : List ℕ). heaviest (weights_in seen.met gs)) (between_one seen.own) ∙ ap heaviest (append-nil (seen.met seen.own))

  pub own_tried_lem : seen.numerator ≡ 2007 → Weight (seen.weight seen.own)
      → tried_with Next seen.own (no_growth seen.own).region (seen.weight seen.own) 1 (seen.fixed seen.own) (heaviest (seen.met seen.own))
      seen.k ≡ own_tried seen
  unfolding came_with came weight_test
  own_tried_lem e p = rw (zero_added p, ← heaviest_own, e)

  -- what comes of it: growth from the own gap, or from no gap with a side barred
  pub own_after : (P : Growth → Type 0) → (T (passes seen seen.own (own_span seen)) → P (start_at (grown_of seen (own_span seen))))
      → (T (not (passes seen seen.own (own_span seen))) → P (barred_on Next (no_growth seen.own))) → P (after_tried (own_tried seen) (no_growth seen.own))
  unfolding came passes
  own_after P pass fail = by (seen.fixed seen.own) (weight_test seen (own_span seen)) pass fail
    where
      by : (f t : Bool) → (T (not f && t) → P (start_at (grown_of seen (own_span seen)))) → (T (not (not f && t)) → P (barred_on Next (no_growth seen.own)))
          → P (after_with (cond f Came·is.Fixed (cond t Came·is.Grown Came·is.Weight)) Next (grown_of seen (own_span seen)) (no_growth seen.own))
      by true t pass fail = fail tt
      by false true pass fail = pass tt
      by false false pass fail = fail tt

  -- ---- the answer
  -- where growth has ended, it is the region with which growth ends
  ended_on : (n m : ℕ) → Ended seen (growth seen n) → growth seen (n + m) ≡ growth seen n
  unfolding growth
  ended_on n zero e = ap (growth seen) (none n)
    where
      none : (a : ℕ) → a + 0 ≡ a
      none a = omega arith
  ended_on n (suc m) e =
      let h = ended_on n m e in
      ap (growth seen) (next n m) ∙ ended_stays seen (growth seen (n + m)) (subst (Ended seen) (sym h) e) ∙ h
    where
      next : (a b : ℕ) → a + suc b ≡ suc (a + b)
      next a b = omega arith

  pub ended_is_grown : seen.own < seen.count → (n : ℕ) → Ended seen (growth seen n) → (growth seen n).region ≡ grown seen
  unfolding grown
  ended_is_grown h n e =
      ap (λ (st : State). st.region)
      (sym (ended_on n (seen.count + 1) e) ∙ ap (growth seen) (add_comm n (seen.count + 1)) ∙ growth_same seen h n)

  pub answer_found : seen.own < seen.count → T (passes seen seen.own (own_span seen)) → (n : ℕ) → Ended seen (growth seen n)
      → Some (proposal_of seen (growth seen n).region) ≡ region_of seen
  unfolding region_of
  answer_found h t n e =
      ap (λ (s : Span). Some (proposal_of seen s)) (ended_is_grown h n e)
      ∙ sym (cond_true (Some (proposal_of seen (grown seen))) None (is_true (passes seen seen.own (own_span seen)) t))

  pub answer_nothing : T (not (passes seen seen.own (own_span seen))) → None ≡ region_of seen
  unfolding region_of
  answer_nothing t = sym (cond_false (Some (proposal_of seen (grown seen))) None (not_is (passes seen seen.own (own_span seen)) t))

  -- ---- a loop over tries: it starts after the own gap has passed, tries the side whose turn it is, and ends with the answer
  pub going_start : T (passes seen seen.own (own_span seen)) → Going seen (start_at (grown_of seen (own_span seen)))
  unfolding growth
  going_start t = record { own_passes = t; tries = 0; is_after = refl }

  pub going_inside : seen.own < seen.count → (now : Growth) → Going seen now → InsideGaps seen.count now.region
  going_inside h now g = subst (λ (x : Growth). InsideGaps seen.count x.region) (sym g.is_after) (growth_inside h g.tries)

  -- what is tried on the side whose turn it is
  abbrev pub Tries : Growth → Side → Tried → Type 0
  Tries now side t = t ≡ tried side seen (span_of now.region)

  abbrev pub TurnOf : Growth → Option Side → Type 0
  TurnOf now t = t ≡ side_tried seen.count seen.freq seen.live (state_of now)

  -- the side is open
  pub going_open : (now : Growth) (side : Side) → TurnOf now (Some side) → T (is_open side seen (state_of now))
  going_open now side e = turn_open (state_of now) side (sym e)

  -- the outcome of a try
  pub going_after : (now : Growth) (side : Side) (t : Tried) → Going seen now → TurnOf now (Some side) → Tries now side t → Going seen (after_tried t now)
  unfolding growth
  going_after now side t g turn e =
      let st = growth seen g.tries in
      let f = g.is_after in
      let turned : Some side ≡ side_tried seen.count seen.freq seen.live st = subst (λ (x : Growth). TurnOf x (Some side)) f turn in
      let is : Tries (growth_of seen st) side t = subst (λ (x : Growth). Tries x side t) f e in
      record {
        own_passes = g.own_passes;
        tries = suc g.tries;
        is_after =
            ap (after_tried t) f ∙ ap (λ (x : Tried). after_tried x (growth_of seen st)) is ∙ after_try st side
            ∙ ap (growth_of seen) (sym (turn_tries st side (sym turned)));
      }

  -- leaves fewer to try
  fewer_tried : (st : State) (side : Side) → T (is_open side seen st) → left_to_try seen (try_on side seen st) < left_to_try seen st
  fewer_tried st side o =
      subst (λ (s : State). left_to_try seen s < left_to_try seen st) (sym (try_on_lem seen side st))
      (cond_both (λ (s : State). left_to_try seen s < left_to_try seen st) (passes_on side seen st.region) (grows side seen st) (barred side st)
      (λ _. fewer_grown seen st side o) (λ _. fewer_barred seen st side o))

  pub going_less : (now : Growth) (side : Side) (t : Tried) → Going seen now → TurnOf now (Some side) → Tries now side t
      → left_to_try seen (state_of (after_tried t now)) < left_to_try seen (state_of now)
  going_less now side t g turn e =
      let st = growth seen g.tries in
      let f = g.is_after in
      let turned : Some side ≡ side_tried seen.count seen.freq seen.live st = subst (λ (x : Growth). TurnOf x (Some side)) f turn in
      let is : Tries (growth_of seen st) side t = subst (λ (x : Growth). Tries x side t) f e in
      subst (λ (x : Growth). left_to_try seen (state_of (after_tried t x)) < left_to_try seen (state_of x)) (sym f)
      (subst (λ (x : Growth). left_to_try seen (state_of x) < left_to_try seen st)
      (sym (ap (λ (x : Tried). after_tried x (growth_of seen st)) is ∙ after_try st side)) (fewer_tried st side (turn_open st side (sym turned))))

  -- at the end the region's proposal is the answer
  pub going_found : seen.own < seen.count → (now : Growth) → Going seen now → TurnOf now None
      → Some (proposal_with seen.count seen.first seen.freq (span_of now.region) now.region.heaviest) ≡ region_of seen
  going_found h now g turn =
      let st = growth seen g.tries in
      let f = g.is_after in
      let turned : None ≡ side_tried seen.count seen.freq seen.live st = subst (λ (x : Growth). TurnOf x None) f turn in
      ap (λ (x : Growth). Some (proposal_with seen.count seen.first seen.freq (span_of x.region) x.region.heaviest)) f
      ∙ answer_found h g.own_passes g.tries (turn_ended st (sym turned))

  -- ---- what the code knows of the gap tried
  -- whether it meets a fixed one, and the heaviest weight of the region and of the gap
  pub going_tried : SoundGaps seen → seen.numerator ≡ 2007 → (now : Growth) (side : Side) → Going seen now → TurnOf now (Some side)
      → Tries now side (tried_with side (gap_outside side (span_of now.region)) now.region (seen.weight (gap_outside side (span_of now.region)))
      (seen.live (gap_outside side (span_of now.region))) (seen.fixed (gap_outside side (span_of now.region)))
      (heavier now.region.heaviest (heaviest (seen.met (gap_outside side (span_of now.region))))) seen.k)
  going_tried sound e now side g turn =
      let st = growth seen g.tries in
      let f = g.is_after in
      let a = growth_around seen sound.inside g.tries in
      let o = turn_open st side (sym (subst (λ (x : Growth). TurnOf x (Some side)) f turn)) in
      subst
      (λ (x : Growth). Tries x side (tried_with side (gap_outside side (span_of x.region)) x.region (seen.weight (gap_outside side (span_of x.region)))
      (seen.live (gap_outside side (span_of x.region))) (seen.fixed (gap_outside side (span_of x.region)))
      (heavier x.region.heaviest (heaviest (seen.met (gap_outside side (span_of x.region))))) seen.k))
      (sym f) (tried_step e st side o a (growth_met seen sound g.tries) (sound.met (gap_outside side st.region) (outside_inside seen st side o a)))

  pub going_count_fits : SoundGaps seen → (now : Growth) (side : Side) → Going seen now → TurnOf now (Some side)
      → CountFits now.region (seen.live (gap_outside side (span_of now.region)))
  going_count_fits sound now side g turn =
      let f = g.is_after in
      subst (λ (x : Growth). CountFits x.region (seen.live (gap_outside side (span_of x.region)))) (sym f)
      (growth_count_fits sound g.tries side (turn_open (growth seen g.tries) side (sym (subst (λ (x : Growth). TurnOf x (Some side)) f turn))))

  -- the gap tried is one of the table's
  pub going_gap : SoundGaps seen → (now : Growth) (side : Side) → Going seen now → TurnOf now (Some side) → gap_outside side (span_of now.region) < seen.count
  going_gap sound now side g turn =
      let st = growth seen g.tries in
      let f = g.is_after in
      subst (λ (x : Growth). gap_outside side (span_of x.region) < seen.count) (sym f)
      (outside_inside seen st side (turn_open st side (sym (subst (λ (x : Growth). TurnOf x (Some side)) f turn)))
      (growth_around seen sound.inside g.tries))

  -- and not the own one, which lies in the region
  pub going_other : SoundGaps seen → (now : Growth) (side : Side) → Going seen now → TurnOf now (Some side)
      → gap_outside side (span_of now.region) ≡ seen.own → ⊥
  going_other sound now side g turn =
      let st = growth seen g.tries in
      let f = g.is_after in
      subst (λ (x : Growth). gap_outside side (span_of x.region) ≡ seen.own → ⊥) (sym f)
      (apart side (growth_around seen sound.inside g.tries) (turn_open st side (sym (subst (λ (x : Growth). TurnOf x (Some side)) f turn))))
    where
      apart : (side : Side) → Around seen (growth seen g.tries).region → T (is_open side seen (growth seen g.tries))
          → gap_outside side (growth seen g.tries).region ≡ seen.own → ⊥
      apart Previous a o e = let l = a.left in let p = open_left seen (growth seen g.tries) o in omega (arith, l, p, e)
      apart Next a o e = let r = a.own in omega (arith, r, e)

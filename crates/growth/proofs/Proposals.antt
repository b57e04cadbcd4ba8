-- Demand 3: what holds of growth at every try once the own gap has passed, of every proposal found, and when nothing is found
use mathlib.Core.Path.{◌≡◌, refl, sym, ap, ◌∙◌, subst}
use mathlib.Core.Logic.{◌⊎◌, inl, inr, ⊎_elim, ◌↔◌}
use Prim.Native.Nat.{ℕ, ◌+◌, ◌-◌, ◌≤◌, ◌<◌}
use native.Mathlib.Nat.{le_refl, le_trans, eq-or-lt_of_le}
use native.Mathlib.Omega.{arith}
use mathlib.Core.Bool.{Bool, true, false, not, ◌&&◌, cond}
use lib.Dec.{T, T_not, leb, eqb, nleb→lt}
use lib.Ieee.{Float}
use lib.Ieee.Fits.{and_l, and_r}
use Rattle.numbers.specs.Weight.{Finite, Weight, finite, units_of, zero_weight, Weights, Among}
use Rattle.numbers.specs.Normal.{normalised, exceeds}
use Rattle.columns.proofs.Tests.{cond_both}
use Rattle.numbers.proofs.Units.{zero_finite}
use Rattle.numbers.proofs.Operations.{sum_weight}
use Rattle.numbers.proofs.Normalised.{normalised_finite}
use Rattle.numbers.proofs.Heaviest.{heaviest_weight, heaviest_among, heaviest_above}
use Rattle.links.specs.declared.lower.Side.{Side}
use Rattle.links.specs.declared.lower.Side.TheVariants.{Previous, Next}
use Rattle.growth.specs.Growth.{GapsSeen, State, own_span, gaps_in, weights_in, heaviest_in, normalised_of, weight_test, gap_outside, used_up, grown_by, passes}
use Rattle.growth.specs.Growth.{passes_on, is_open, growth, end_of_growth, grown}
use Rattle.growth.specs.Proposal.{freq_outside, split_cost, proposal_with, proposal_of, region_of}
use Rattle.growth.specs.Demand.{Around, Ended, In, MeetsFixed, sum_over, added_to, gaps_beside, gaps_grown, FailedBefore, SoundGaps, Demand3}
use Rattle.growth.specs.declared.proposal.SplitProposal.{SplitProposal}
use Rattle.growth.proofs.Tries.{open_left, growth_keeps, growth_around, around_grows, growth_ends}
use Rattle.growth.proofs.Spans.{outside_inside, weight_in_order, insts_of_gaps, insts_some, insts_few}
use Rattle.growth.proofs.Meetings.{met_weights, met_of_gap, gap_of_met}
use Rattle.growth.proofs.Ends.{covered_gaps}
use Rattle.growth.proofs.Barred.{shut_why}
use Rattle.std.specs.Prelude.{Some, None}

-- ---- growth at every try
module _ (seen : GapsSeen) where
  -- a gap of the region with one more is that gap or one of the region
  in_grown : (st : State) (side : Side) (g : ℕ) → T (is_open side seen st) → In (grown_by side seen st.region) g
      → (gap_outside side st.region ≡ g) ⊎ In st.region g
  in_grown st Previous g o i =
      elim (eq-or-lt_of_le i.0) [ inl e ↦ inl e | inr l ↦ inr (up st.region.left g (open_left seen st o) l, i.1) ]
    where
      up : (a g : ℕ) → 0 < a → a - 1 < g → a ≤ g
      up a g h l = omega arith
  in_grown st Next g o i =
      elim (eq-or-lt_of_le (down g st.region.right i.1)) [ inl e ↦ inl (sym e) | inr l ↦ inr (i.0, l) ]
    where
      down : (g r : ℕ) → g < r + 1 → g ≤ r
      down g r l = omega arith

  -- no gap of a region that meets no fixed one is fixed: so is one more gap that passes
  free_grown : (st : State) (side : Side) → T (is_open side seen st) → T (passes_on side seen st.region) → (MeetsFixed seen st.region → ⊥)
      → MeetsFixed seen (grown_by side seen st.region) → ⊥
  unfolding passes
  free_grown st side o t h m =
      elim (in_grown st side m.0 o m.1) [
        | inl e ↦ T_not (seen.fixed (gap_outside side st.region))
            (and_l (not (seen.fixed (gap_outside side st.region))) (weight_test seen (grown_by side seen st.region)) t)
            (subst (λ (g : ℕ). T (seen.fixed g)) (sym e) m.2)
        | inr i ↦ h (m.0, i, m.2)
      ]

  module _ (own_passes : T (passes seen seen.own (own_span seen))) where
    own_free : T (not (seen.fixed seen.own))
    unfolding passes
    own_free = and_l (not (seen.fixed seen.own)) (weight_test seen (own_span seen)) own_passes

    -- no region on the way meets a fixed one
    pub growth_no_fixed : (n : ℕ) → MeetsFixed seen (growth seen n).region → ⊥
    growth_no_fixed =
        growth_keeps seen (λ (st : State). MeetsFixed seen st.region → ⊥)
        (λ m. T_not (seen.fixed seen.own) own_free (subst (λ (g : ℕ). T (seen.fixed g)) (only seen.own m.0 m.1.0 m.1.1) m.2))
        free_grown (λ st side o h. h)
      where
        only : (a g : ℕ) → a ≤ g → g < a + 1 → g ≡ a
        only a g l h = omega arith

    -- the weight test holds of every region on the way
    pub growth_tested : (n : ℕ) → T (weight_test seen (growth seen n).region)
    unfolding passes
    growth_tested =
        growth_keeps seen (λ (st : State). T (weight_test seen st.region)) (and_r (not (seen.fixed seen.own)) (weight_test seen (own_span seen)) own_passes)
        (λ st side o t h. and_r (not (seen.fixed (gap_outside side st.region))) (weight_test seen (grown_by side seen st.region)) t) (λ st side o h. h)

  module _ (sound : SoundGaps seen) (n : ℕ) where
    around : Around seen (growth seen n).region
    around = growth_around seen sound.inside n

    -- the weights met by every region on the way are weights
    pub growth_met : Weights (weights_in seen.met (gaps_in (growth seen n).region))
    growth_met = met_weights seen (growth seen n).region (λ g i. sound.met g (le_trans i.1 around.right))

    -- its use weight is a weight
    pub growth_weight : Weight (growth seen n).region.weight
    unfolding growth
    growth_weight =
        (growth_keeps seen (λ (st : State). Around seen st.region × Weight st.region.weight)
        (growth_around seen sound.inside 0, sound.weights seen.own sound.inside)
        (λ st side o _ h. (
          around_grows seen st side o h.0,
          sum_weight h.1
              (sound.weights (gap_outside side st.region) (outside_inside seen st side o h.0)),
        ))
        (λ st side o h. h) n).1

    -- its normalised weight is finite
    pub growth_finite : Finite (normalised_of seen (growth seen n).region)
    growth_finite = normalised_finite (growth seen n).region.insts seen.k growth_weight (insts_some seen sound n) (insts_few seen sound n)

    outside_weight : (side : Side) → Weight (freq_outside side seen.count seen.freq (growth seen n).region)
    outside_weight Previous =
        let s = (growth seen n).region in
        cond_both Weight (eqb s.left 0) zero_weight (seen.freq (s.left - 1)) (λ _. finite zero_finite)
        (λ t. sound.freqs (s.left - 1) (below s.left seen.own seen.count around.left sound.inside))
      where
        below : (l o c : ℕ) → l ≤ o → o < c → l - 1 < c
        below l o c h k = omega arith
    outside_weight Next =
        let s = (growth seen n).region in
        cond_both Weight (leb seen.count s.right) zero_weight (seen.freq s.right) (λ _. finite zero_finite)
        (λ t. sound.freqs s.right (nleb→lt seen.count s.right t))

    -- its split cost is a weight
    pub growth_split_cost : Weight (split_cost seen.count seen.freq (growth seen n).region)
    unfolding split_cost
    growth_split_cost = sum_weight (outside_weight Previous) (outside_weight Next)

    -- the heaviest weight it meets is zero or met by one of its gaps
    pub growth_heaviest_met : (heaviest_in seen (growth seen n).region ≡ zero_weight)
        ⊎ ((g : ℕ) × In (growth seen n).region g × Among (heaviest_in seen (growth seen n).region) (seen.met g))
    growth_heaviest_met =
        let s = (growth seen n).region in
        elim (heaviest_among (weights_in seen.met (gaps_in s))) [ inl e ↦ inl e | inr a ↦ inr (gap_of_met seen s (heaviest_in seen s) a) ]

    -- none of its gaps meets a heavier one
    pub growth_none_heavier : (g : ℕ) → In (growth seen n).region g → (w : Float) → Among w (seen.met g)
        → units_of w ≤ units_of (heaviest_in seen (growth seen n).region)
    growth_none_heavier g i w a =
        heaviest_above (weights_in seen.met (gaps_in (growth seen n).region)) growth_met w (met_of_gap seen (growth seen n).region g w i a)

    -- demand 3 of a proposal before growth is finished
    pub early_demand3 : T (passes seen seen.own (own_span seen)) → Demand3 seen (growth seen n) (proposal_of seen (growth seen n).region)
    unfolding proposal_with weight_test
    early_demand3 t =
        record {
          is_grown = refl;
          covered = covered_gaps seen sound.rising (growth seen n).region around;
          no_fixed = growth_no_fixed t n;
          heaviest_met = growth_heaviest_met;
          none_heavier = growth_none_heavier;
          finite = growth_finite;
          strict = growth_tested t n;
          weights = (growth_weight, heaviest_weight (weights_in seen.met (gaps_in (growth seen n).region)) growth_met, growth_split_cost);
        }

-- ---- the answer
module _ (seen : GapsSeen) where
  -- nothing is found exactly if the own gap meets a fixed one or fails the test
  pub nothing_exactly : (region_of seen ≡ None) ↔ (T (seen.fixed seen.own) ⊎ T (not (weight_test seen (own_span seen))))
  unfolding region_of passes
  nothing_exactly = (fails (seen.fixed seen.own) (weight_test seen (own_span seen)), nothing (seen.fixed seen.own) (weight_test seen (own_span seen)))
    where
      p : SplitProposal
      p = proposal_of seen (grown seen)

      fails : (f t : Bool) → cond (not f && t) (Some p) None ≡ None → T f ⊎ T (not t)
      fails true t e = inl tt
      fails false false e = inr tt
      fails false true e = absurd (differ e)
        where
          differ : Some p ≡ None → ⊥
          differ e = let z : ◌≡◌ {A = ℕ} 0 1 = cc in omega arith

      nothing : (f t : Bool) → T f ⊎ T (not t) → cond (not f && t) (Some p) None ≡ None
      nothing true t h = refl
      nothing false false h = refl
      nothing false true h = absurd (⊎_elim (λ x. x) (λ x. x) h)

  found_parts : (t : Bool) (p q : SplitProposal) → cond t (Some q) None ≡ Some p → T t × (p ≡ q)
  found_parts true p q e = (tt, cc)
  found_parts false p q e = absurd (let z : ◌≡◌ {A = ℕ} 0 1 = cc in omega arith)

  module _ (p : SplitProposal) (found : region_of seen ≡ Some p) where
    parts : T (passes seen seen.own (own_span seen)) × (p ≡ proposal_of seen (grown seen))
    unfolding region_of
    parts = found_parts (passes seen seen.own (own_span seen)) p (proposal_of seen (grown seen)) found

    -- what is found has an own gap that passes
    pub found_own_passes : T (passes seen seen.own (own_span seen))
    found_own_passes = parts.0

    -- it is the proposal of the region with which growth ends
    pub found_is_grown : p ≡ proposal_of seen (end_of_growth seen).region
    unfolding grown
    found_is_grown = parts.1

    module _ (sound : SoundGaps seen) where
      -- no side is open there
      pub found_ended : Ended seen (end_of_growth seen)
      found_ended = growth_ends seen sound.inside (seen.count + 1) (le_refl (seen.count + 1))

      -- on each side the table is used up, or the gap just outside failed when it was tried
      pub found_side_ends : (side : Side) → T (used_up side seen.count (end_of_growth seen).region)
          ⊎ FailedBefore seen side (seen.count + 1) (end_of_growth seen).region
      found_side_ends Previous = shut_why seen Previous (seen.count + 1) found_ended.left
      found_side_ends Next = shut_why seen Next (seen.count + 1) found_ended.right

      -- demand 3 of what is found
      pub found_demand3 : Demand3 seen (end_of_growth seen) p
      found_demand3 = subst (Demand3 seen (end_of_growth seen)) (sym found_is_grown) (early_demand3 seen sound (seen.count + 1) found_own_passes)

      -- its region holds the own gap, inside the table
      pub found_around : Around seen (end_of_growth seen).region
      found_around = growth_around seen sound.inside (seen.count + 1)

      -- its use weight is the own gap's, and then those of the gaps grown, added in the order grown
      pub found_use_weight : p.use_weight ≡ added_to (seen.weight seen.own) seen.weight (gaps_grown seen (seen.count + 1))
      unfolding proposal_with
      found_use_weight = ap (λ (q : SplitProposal). q.use_weight) found_is_grown ∙ weight_in_order seen sound.inside (seen.count + 1)

      -- its instructions are 1 and the live instructions of the region's other gaps
      pub found_live_insts : p.live_insts ≡ 1 + sum_over seen.live (gaps_beside (own_span seen) (end_of_growth seen).region)
      unfolding proposal_with
      found_live_insts = ap (λ (q : SplitProposal). q.live_insts) found_is_grown ∙ insts_of_gaps seen sound.inside (seen.count + 1)

      -- its region meets nothing that counts as fixed
      pub found_no_fixed : MeetsFixed seen (end_of_growth seen).region → ⊥
      found_no_fixed = found_demand3.no_fixed

      -- its interference weight is the heaviest of all weights that its region meets
      pub found_heaviest : p.interference_weight ≡ heaviest_in seen (end_of_growth seen).region
      unfolding proposal_with
      found_heaviest = ap (λ (q : SplitProposal). q.interference_weight) found_is_grown

      -- the test is strict
      pub found_strict : T (exceeds seen.numerator (normalised p.use_weight p.live_insts seen.k) p.interference_weight)
      found_strict = found_demand3.strict

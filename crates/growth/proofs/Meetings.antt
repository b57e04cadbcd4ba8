-- What a region meets: the weights of all its gaps, and the heaviest of the region with one more gap
use mathlib.Core.Path.{◌≡◌, refl, sym, ap, ◌∙◌, subst}
use mathlib.Core.Logic.{inl, inr}
use Prim.Native.Nat.{ℕ, zero, suc, ◌+◌, ◌-◌, ◌≤◌, ◌<◌, max}
use native.Mathlib.Nat.{le_refl, le_trans, le_of_lt, eq-or-lt_of_le}
use native.Mathlib.Omega.{arith}
use mathlib.Core.List.{List, [], ◌∷◌, ◌++◌, append_assoc, append-nil}
use lib.Dec.{T}
use lib.Ieee.{Float}
use Rattle.numbers.specs.Weight.{Weight, units_of, heavier, heaviest, Weights, Among}
use Rattle.columns.proofs.OneOf.{one_both}
use Rattle.numbers.proofs.Units.{units_inj}
use Rattle.numbers.proofs.Heaviest.{heavier_weight, heavier_units, heaviest_weight, heaviest_append, weights_append, among_one}
use Rattle.links.specs.declared.lower.Side.{Side}
use Rattle.links.specs.declared.lower.Side.TheVariants.{Previous, Next}
use Rattle.growth.specs.Growth.{GapsSeen, Span, State, numbers_from, gaps_in, weights_in, heaviest_in, gap_outside, grown_by, is_open}
use Rattle.growth.specs.Demand.{Around, In}
use Rattle.growth.proofs.Tries.{open_left}
use Rattle.growth.proofs.Spans.{between_before, between_behind}

-- ---- the weights that a run of gaps meets
module _ (met : ℕ → List Float) where
  met_append : (xs ys : List ℕ) → weights_in met (xs ++ ys) ≡ weights_in met xs ++ weights_in met ys
  unfolding weights_in
  met_append [] ys = refl
  met_append (x ∷ xs) ys = ap (λ (ws : List Float). met x ++ ws) (met_append xs ys) ∙ sym (append_assoc (met x) (weights_in met xs) (weights_in met ys))

  run_weights : (a n : ℕ) → ((g : ℕ) → a ≤ g → g < a + n → Weights (met g)) → Weights (weights_in met (numbers_from a n))
  unfolding weights_in numbers_from
  run_weights a zero h = tt
  run_weights a (suc n) h =
      weights_append (met a) (weights_in met (numbers_from (suc a) n)) (h a (le_refl a) (first a n))
      (run_weights (suc a) n (λ g l m. h g (le_of_lt l) (later a n g m)))
    where
      first : (a n : ℕ) → a < a + suc n
      first a n = omega arith

      later : (a n g : ℕ) → g < suc a + n → g < a + suc n
      later a n g h = omega arith

  -- a weight that one of the gaps meets
  run_among : (a n g : ℕ) (w : Float) → a ≤ g → g < a + n → Among w (met g) → Among w (weights_in met (numbers_from a n))
  unfolding weights_in numbers_from
  run_among a zero g w l m p = absurd (none a g l m)
    where
      none : (a g : ℕ) → a ≤ g → g < a + 0 → ⊥
      none a g l m = omega arith
  run_among a (suc n) g w l m p =
      let both = one_both (among_one w) (met a) (weights_in met (numbers_from (suc a) n)) in
      elim (eq-or-lt_of_le l) [
        | inl e ↦ both.1 (inl (subst (λ (x : ℕ). Among w (met x)) (sym e) p))
        | inr k ↦ both.1 (inr (run_among (suc a) n g w k (later a n g m) p))
      ]
    where
      later : (a n g : ℕ) → g < a + suc n → g < suc a + n
      later a n g h = omega arith

  -- each weight met is met by one of the gaps
  run_of : (a n : ℕ) (w : Float) → Among w (weights_in met (numbers_from a n)) → (g : ℕ) × (a ≤ g) × (g < a + n) × Among w (met g)
  unfolding weights_in numbers_from
  run_of a zero w p = absurd p
  run_of a (suc n) w p =
      elim ((one_both (among_one w) (met a) (weights_in met (numbers_from (suc a) n))).0 p) [
        | inl q ↦ (a, le_refl a, first a n, q)
        | inr q ↦ let r = run_of (suc a) n w q in (r.0, le_of_lt r.1, later a n r.0 r.2, r.3)
      ]
    where
      first : (a n : ℕ) → a < a + suc n
      first a n = omega arith

      later : (a n g : ℕ) → g < suc a + n → g < a + suc n
      later a n g h = omega arith

-- ---- the weights that a region meets
module _ (seen : GapsSeen) where
  reaches : (s : Span) (g : ℕ) → g < s.left + (s.right - s.left) → s.left ≤ g → g < s.right
  reaches s g h l = cut s.left s.right g h l
    where
      cut : (a b g : ℕ) → g < a + (b - a) → a ≤ g → g < b
      cut a b g h l = omega arith

  -- they are weights if those of each gap are
  pub met_weights : (s : Span) → ((g : ℕ) → In s g → Weights (seen.met g)) → Weights (weights_in seen.met (gaps_in s))
  met_weights s h = run_weights seen.met s.left (s.right - s.left) (λ g l m. h g (l, reaches s g m l))

  -- a weight is among them exactly if a gap of the region meets it
  pub met_of_gap : (s : Span) (g : ℕ) (w : Float) → In s g → Among w (seen.met g) → Among w (weights_in seen.met (gaps_in s))
  met_of_gap s g w i p = run_among seen.met s.left (s.right - s.left) g w i.0 (cut s.left s.right g i.0 i.1) p
    where
      cut : (a b g : ℕ) → a ≤ g → g < b → g < a + (b - a)
      cut a b g l h = omega arith

  pub gap_of_met : (s : Span) (w : Float) → Among w (weights_in seen.met (gaps_in s)) → (g : ℕ) × In s g × Among w (seen.met g)
  gap_of_met s w p = let r = run_of seen.met s.left (s.right - s.left) w p in (r.0, (r.1, reaches s r.0 r.2 r.1), r.3)

  -- ---- the heaviest of a region with one more gap: the heavier of the region's and the gap's
  heavier_commutes : (a b : Float) → Weight a → Weight b → heavier a b ≡ heavier b a
  heavier_commutes a b p q =
      units_inj (heavier_weight p q) (heavier_weight q p) (heavier_units p q ∙ swap (units_of a) (units_of b) ∙ sym (heavier_units q p))
    where
      swap : (x y : ℕ) → max x y ≡ max y x
      swap x y = omega arith

  pub heaviest_with_gap : (st : State) (side : Side) → T (is_open side seen st) → Around seen st.region
      → Weights (weights_in seen.met (gaps_in st.region)) → Weights (seen.met (gap_outside side st.region))
      → heaviest_in seen (grown_by side seen st.region) ≡ heavier (heaviest_in seen st.region) (heaviest (seen.met (gap_outside side st.region)))
  unfolding weights_in
  heaviest_with_gap st Previous o a p q =
      let s = st.region in
      ap (λ (gs : List ℕ). heaviest (weights_in seen.met gs))
      (between_before s.left s.right (open_left seen st o) (le_trans a.left (le_of_lt a.own)))
      ∙ heaviest_append (seen.met (s.left - 1)) (weights_in seen.met (gaps_in s)) q p
  heaviest_with_gap st Next o a p q =
      let s = st.region in
      let old = weights_in seen.met (gaps_in s) in
      let new = seen.met s.right in
      ap (λ (gs : List ℕ). heaviest (weights_in seen.met gs)) (between_behind s.left s.right (le_trans a.left (le_of_lt a.own)))
      ∙ ap heaviest (met_append seen.met (gaps_in s) (s.right ∷ []) ∙ ap (λ (ws : List Float). old ++ ws) (append-nil new))
      ∙ heaviest_append old new p q ∙ heavier_commutes (heaviest new) (heaviest old) (heaviest_weight new q) (heaviest_weight old p)

-- The best use: it stands in the table, and there is none exactly in a table of one row or where no weight is above zero
use mathlib.Core.Path.{◌≡◌, refl, sym, ap, ◌∙◌, subst}
use mathlib.Core.Logic.{◌⊎◌, inl, inr, ⊎_elim, ◌↔◌}
use mathlib.Core.Bool.{Bool, true, false, not, cond}
use mathlib.Core.List.{List, [], ◌∷◌, map}
use Prim.Native.Nat.{ℕ, suc, ◌≤◌, ◌<◌, zero-le}
use native.Mathlib.Nat.{le_trans, le_of_eq, lt_trans, lt_of_lt_of_le, lt_irrefl, eq-or-lt_of_le}
use native.Mathlib.Omega.{arith}
use lib.Dec.{T, leb, leb→le, nleb→lt, nltb→le}
use lib.Ieee.{Float, lt}
use lib.ListN.{length, get_or, length-map}
use borrow.Author.Tests.{le-ltb, le-leb}
use Rattle.columns.specs.First.{first_below, FirstIn}
use Rattle.columns.proofs.Tests.{cond_true, cond_false}
use Rattle.columns.proofs.Firsts.{first_in}
use Rattle.numbers.specs.Weight.{Weight, finite, units_of, zero_weight, heaviest, Among}
use Rattle.numbers.proofs.Units.{units_order, units_lt, zero_finite, zero_units}
use Rattle.numbers.proofs.UseCosts.{Scales}
use Rattle.numbers.proofs.Heaviest.{heaviest_weight, heaviest_among, heaviest_above}
use Rattle.use_rows.specs.Uses.{Source, use_table_of, AllWeights, is_largest, best_use, IsBest}
use Rattle.use_rows.specs.declared.row.SplitUse.{SplitUse}
use Rattle.use_rows.proofs.Largest.{weights_of, at_among}
use Rattle.uses.proofs.UseTable.{use_table_weights}
use Rattle.std.specs.Prelude.{Option, Some, None}

-- a weight of a list stands in one of its rows
among_row : (ws : List Float) (w : Float) → Among w ws → (k : ℕ) × (k < length ws) × (get_or ws k zero_weight ≡ w)
among_row [] w a = absurd a
among_row (v ∷ ws) w (inl e) = (0, some (length ws), sym e)
  where
    some : (n : ℕ) → 0 < suc n
    some n = omega arith
among_row (v ∷ ws) w (inr a) = let r = among_row ws w a in (suc r.0, up r.0 (length ws) r.1, r.2)
  where
    up : (k n : ℕ) → k < n → suc k < suc n
    up k n h = omega (arith, h)

unnot : (b : Bool) → not b ≡ false → T b
unnot true e = tt
unnot false e = absurd (let z : ◌≡◌ {A = ℕ} 0 1 = cc in omega arith)

-- no weight is below itself
not_below : (x : Float) → Weight x → T (lt x x) → ⊥
not_below x w t = lt_irrefl (units_of x) (units_lt w w t)

module _ (ws : List Float) (given : AllWeights ws) where
  -- if some weight is above zero, a row has the largest
  largest_inside : T (lt zero_weight (heaviest ws)) → first_below (is_largest ws) (length ws) < length ws
  largest_inside t = by (heaviest_among ws)
    where
      f : FirstIn (is_largest ws) 0 (length ws) (first_below (is_largest ws) (length ws))
      f = first_in (is_largest ws) (length ws)

      here : (k : ℕ) → k < length ws → get_or ws k zero_weight ≡ heaviest ws → is_largest ws k ≡ false → ⊥
      here k h e n =
          not_below (get_or ws k zero_weight) (given k h)
          (subst (λ (x : Float). T (lt (get_or ws k zero_weight) x)) (sym e) (unnot (lt (get_or ws k zero_weight) (heaviest ws)) n))

      by : (heaviest ws ≡ zero_weight) ⊎ Among (heaviest ws) ws → first_below (is_largest ws) (length ws) < length ws
      by (inl e) = absurd (not_below zero_weight (finite zero_finite) (subst (λ (x : Float). T (lt zero_weight x)) e t))
      by (inr a) =
          let r = among_row ws (heaviest ws) a in
          elim (eq-or-lt_of_le f.to) [
            | inl e ↦ absurd (here r.0 r.1 r.2 (f.passed r.0 (omega arith) (subst (λ (n : ℕ). r.0 < n) (sym e) r.1)))
            | inr l ↦ l
          ]

  -- none is heavier than the largest
  heaviest_is : Weight (heaviest ws)
  heaviest_is = heaviest_weight ws (weights_of ws given)

  at_most_heaviest : (k : ℕ) → k < length ws → units_of (get_or ws k zero_weight) ≤ units_of (heaviest ws)
  at_most_heaviest k h = heaviest_above ws (weights_of ws given) (get_or ws k zero_weight) (at_among ws k h)

  -- whether there is a best use, and which: by what the definition asks
  best_is_found : T (not (leb (length ws) 1)) → T (lt zero_weight (heaviest ws)) → IsBest ws (first_below (is_largest ws) (length ws))
  best_is_found l t =
      record {
        several = nleb→lt (length ws) 1 l;
        inside = inside;
        above_zero = let z = units_lt (finite zero_finite) heaviest_is t in let h = top in omega (arith, z, h);
        largest = λ k h. le_trans (at_most_heaviest k h) top;
        earliest =
            λ k h. lt_of_lt_of_le (units_lt (given k (lt_trans h inside)) heaviest_is
            (unnot (lt (get_or ws k zero_weight) (heaviest ws)) ((first_in (is_largest ws) (length ws)).passed k zero-le h))) top;
      }
    where
      best : ℕ
      best = first_below (is_largest ws) (length ws)

      inside : best < length ws
      inside = largest_inside t

      top : units_of (heaviest ws) ≤ units_of (get_or ws best zero_weight)
      top =
          nltb→le (units_of (get_or ws best zero_weight)) (units_of (heaviest ws))
          (subst (λ (b : Bool). T (not b)) (units_order (given best inside) heaviest_is) (subst T (sym ((first_in (is_largest ws) (length ws)).found inside)) tt))

  -- the best use: the largest main weight, above zero, earliest on ties
  pub best_is : (best : ℕ) → best_use ws ≡ Some best → IsBest ws best
  unfolding best_use
  best_is best e = by (leb (length ws) 1) (lt zero_weight (heaviest ws)) refl refl e
    where
      by : (a b : Bool) → leb (length ws) 1 ≡ a → lt zero_weight (heaviest ws) ≡ b
          → cond a None (cond b (Some (first_below (is_largest ws) (length ws))) None) ≡ Some best → IsBest ws best
      by true b p q e = absurd (let z : ◌≡◌ {A = ℕ} 0 1 = cc in omega arith)
      by false false p q e = absurd (let z : ◌≡◌ {A = ℕ} 0 1 = cc in omega arith)
      by false true p q e =
          let same : first_below (is_largest ws) (length ws) ≡ best = cc in
          subst (IsBest ws) same (best_is_found (subst (λ (b : Bool). T (not b)) (sym p) tt) (subst T (sym q) tt))

  -- there is none exactly in a table of one row, or if no weight is above zero
  pub no_best_exactly : (best_use ws ≡ None) ↔ ((length ws ≤ 1) ⊎ ((k : ℕ) → k < length ws → units_of (get_or ws k zero_weight) ≡ 0))
  unfolding best_use
  no_best_exactly = (none (leb (length ws) 1) (lt zero_weight (heaviest ws)) refl refl, λ h. ⊎_elim short light h)
    where
      none : (a b : Bool) → leb (length ws) 1 ≡ a → lt zero_weight (heaviest ws) ≡ b
          → cond a None (cond b (Some (first_below (is_largest ws) (length ws))) None) ≡ None
          → (length ws ≤ 1) ⊎ ((k : ℕ) → k < length ws → units_of (get_or ws k zero_weight) ≡ 0)
      none true b p q e = inl (leb→le (length ws) 1 (subst T (sym p) tt))
      none false true p q e = absurd (let z : ◌≡◌ {A = ℕ} 0 1 = cc in omega arith)
      none false false p q e =
          inr (λ k h.
          let l = at_most_heaviest k h in
          let z = nltb→le (units_of zero_weight) (units_of (heaviest ws))
          (subst (λ (b : Bool). T (not b)) (sym q ∙ units_order (finite zero_finite) heaviest_is) tt) in
          let n = zero_units in
          omega (arith, l, z, n))

      short : length ws ≤ 1 → cond (leb (length ws) 1) None (cond (lt zero_weight (heaviest ws)) (Some (first_below (is_largest ws) (length ws))) None)
          ≡ None
      short h = cond_true None (cond (lt zero_weight (heaviest ws)) (Some (first_below (is_largest ws) (length ws))) None) (le-leb (length ws) 1 h)

      either : (a : Bool) → cond {A = Option ℕ} a None None ≡ None
      either true = refl
      either false = refl

      light : ((k : ℕ) → k < length ws → units_of (get_or ws k zero_weight) ≡ 0)
          → cond (leb (length ws) 1) None (cond (lt zero_weight (heaviest ws)) (Some (first_below (is_largest ws) (length ws))) None) ≡ None
      light h =
          ap (λ (x : Option ℕ). cond (leb (length ws) 1) None x)
          (cond_false (Some (first_below (is_largest ws) (length ws))) None
          (units_order (finite zero_finite) heaviest_is ∙ le-ltb (units_of zero_weight) (units_of (heaviest ws))
          (le_trans (le_of_eq (by (heaviest_among ws))) zero-le)))
          ∙ either (leb (length ws) 1)
        where
          by : (heaviest ws ≡ zero_weight) ⊎ Among (heaviest ws) ws → units_of (heaviest ws) ≡ 0
          by (inl e) = ap units_of e ∙ zero_units
          by (inr a) = let r = among_row ws (heaviest ws) a in ap units_of (sym r.2) ∙ h r.0 r.1

-- a job's best use is a row of its use table
pub best_inside : (source : Source) → Scales source.scales → (best : ℕ) → best_use (map (λ (u : SplitUse). u.weight) (use_table_of source)) ≡ Some best
    → best < length (use_table_of source)
best_inside source scales best e =
    let i = (best_is (map (λ (u : SplitUse). u.weight) (use_table_of source)) (use_table_weights source scales) best e).inside in
    let l = length-map (use_table_of source) (λ (u : SplitUse). u.weight) in
    omega (arith, i, l)

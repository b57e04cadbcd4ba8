-- The largest of a list of weights, found by going through it: what is known after i of them, and the best use at the end
use mathlib.Core.Path.{◌≡◌, refl, sym, ap, ◌∙◌, subst}
use mathlib.Core.Bool.{true, false, not}
use mathlib.Core.Logic.{◌⊎◌, inl, inr}
use mathlib.Core.List.{List, [], ◌∷◌}
use Prim.Native.Nat.{ℕ, zero, suc, ◌+◌, ◌≤◌, ◌<◌}
use native.Mathlib.Nat.{le_of_eq, not-suc-le-zero}
use native.Mathlib.Omega.{arith}
use lib.Dec.{T, ltb}
use lib.Ieee.{Float, lt}
use lib.ListN.{length, get_or}
use borrow.Author.Tests.{le-ltb, lt-ltb, ltb-false, le-leb, lt-leb}
use Rattle.numbers.specs.Weight.{Weight, finite, units_of, zero_weight, heaviest, Weights, Among}
use Rattle.numbers.proofs.Heaviest.{heaviest_only}
use Rattle.numbers.proofs.Units.{units_order, units_lt, zero_finite}
use Rattle.columns.proofs.Firsts.{split, first_found}
use Rattle.columns.specs.First.{first_below}
use Rattle.use_rows.specs.Uses.{AllWeights, is_largest, best_use}
use Rattle.columns.proofs.Tests.{cond_true, cond_false}
use Rattle.std.specs.Prelude.{Some, None}

-- rows that are weights are a list of weights
pub weights_of : (ws : List Float) → AllWeights ws → Weights ws
weights_of [] p = tt
weights_of (w ∷ ws) p = (p 0 (omega arith), weights_of ws (λ k h. p (suc k) (omega (arith, h))))

-- a row stands in its list
pub at_among : (ws : List Float) (k : ℕ) → k < length ws → Among (get_or ws k zero_weight) ws
at_among [] k h = absurd (not-suc-le-zero h)
at_among (w ∷ ws) zero h = inl refl
at_among (w ∷ ws) (suc k) h = inr (at_among ws k (omega (arith, h)))

-- what holds of each row holds of what is among them
among_at : (P : Float → Type 0) (ws : List Float) → ((k : ℕ) → k < length ws → P (get_or ws k zero_weight)) → (w : Float) → Among w ws → P w
among_at P [] p w a = absurd a
among_at P (v ∷ vs) p w (inl e) = subst P (sym e) (p 0 (omega arith))
among_at P (v ∷ vs) p w (inr a) = among_at P vs (λ k h. p (suc k) (omega (arith, h))) w a

-- after i rows: `top` is the largest of them, zero if none is above it, and `best` its first row
pub record Largest (ws : List Float) (i best : ℕ) (top : Float) : Type 0 where
  pub weight : Weight top
  pub above : (k : ℕ) → k < i → units_of (get_or ws k zero_weight) ≤ units_of top
  pub zero_or : (top ≡ zero_weight) ⊎ ((best < i) × (get_or ws best zero_weight ≡ top) × ((k : ℕ) → k < best → units_of (get_or ws k zero_weight) < units_of top))

pub largest_none : (ws : List Float) (best : ℕ) → Largest ws 0 best zero_weight
largest_none ws best = record { weight = finite zero_finite; above = λ k h. absurd (not-suc-le-zero h); zero_or = inl refl }

pub largest_as : {ws : List Float} {i b best : ℕ} {t top : Float} → Largest ws i b t → best ≡ b → top ≡ t → Largest ws i best top
largest_as {ws} {i} {b} {best} {t} {top} l e f = subst (λ (x : Float). Largest ws i best x) (sym f) (subst (λ (j : ℕ). Largest ws i j t) (sym e) l)

-- a heavier row is the new largest; any other leaves it
module _ (ws : List Float) (given : AllWeights ws) (i best : ℕ) (top : Float) (inside : i < length ws) (known : Largest ws i best top) where
  pub largest_new : lt top (get_or ws i zero_weight) ≡ true → Largest ws (i + 1) i (get_or ws i zero_weight)
  largest_new t =
      let heavier = units_lt known.weight (given i inside) (subst T (sym t) tt) in
      record {
        weight = given i inside;
        above = λ k h. by k h heavier (split k i);
        zero_or = inr (omega arith, refl, λ k h. lighter k h heavier);
      }
    where
      lighter : (k : ℕ) → k < i → units_of top < units_of (get_or ws i zero_weight) → units_of (get_or ws k zero_weight) < units_of (get_or ws i zero_weight)
      lighter k h more = let a = known.above k h in omega (arith, a, more)

      by : (k : ℕ) → k < i + 1 → units_of top < units_of (get_or ws i zero_weight) → (k < i) ⊎ (i ≤ k)
          → units_of (get_or ws k zero_weight) ≤ units_of (get_or ws i zero_weight)
      by k h more (inl l) = let a = lighter k l more in omega (arith, a)
      by k h more (inr l) = let e : k ≡ i = omega (arith, h, l) in le_of_eq (ap (λ (j : ℕ). units_of (get_or ws j zero_weight)) e)

  pub largest_same : lt top (get_or ws i zero_weight) ≡ false → Largest ws (i + 1) best top
  largest_same t =
      let most = ltb-false (units_of top) (units_of (get_or ws i zero_weight)) (sym (units_order known.weight (given i inside)) ∙ t) in
      record { weight = known.weight; above = λ k h. by k h most (split k i); zero_or = later known.zero_or }
    where
      by : (k : ℕ) → k < i + 1 → units_of (get_or ws i zero_weight) ≤ units_of top → (k < i) ⊎ (i ≤ k) → units_of (get_or ws k zero_weight) ≤ units_of top
      by k h most (inl l) = known.above k l
      by k h most (inr l) = let e : k ≡ i = omega (arith, h, l) in subst (λ (j : ℕ). units_of (get_or ws j zero_weight) ≤ units_of top) (sym e) most

      later : (top ≡ zero_weight) ⊎ ((best < i) × (get_or ws best zero_weight ≡ top) × ((k : ℕ) → k < best → units_of (get_or ws k zero_weight) < units_of top))
          → (top ≡ zero_weight) ⊎ ((best < i + 1) × (get_or ws best zero_weight ≡ top) × ((k : ℕ) → k < best → units_of (get_or ws k zero_weight) < units_of top))
      later (inl z) = inl z
      later (inr r) = inr (let b = r.0 in omega (arith, b), r.1, r.2)

-- after all rows
module _ (ws : List Float) (given : AllWeights ws) (best : ℕ) (top : Float) (known : Largest ws (length ws) best top) where
  pub largest_is : top ≡ heaviest ws
  largest_is = heaviest_only ws (weights_of ws given) top (by known.zero_or) (among_at (λ (w : Float). units_of w ≤ units_of top) ws known.above)
    where
      by : (top ≡ zero_weight) ⊎ ((best < length ws) × (get_or ws best zero_weight ≡ top) × ((k : ℕ) → k < best → units_of (get_or ws k zero_weight) < units_of top))
          → (top ≡ zero_weight) ⊎ Among top ws
      by (inl z) = inl z
      by (inr r) = inr (subst (λ (w : Float). Among w ws) r.1 (at_among ws best r.0))

  -- a row as heavy as the largest is one, a lighter one isn't
  test_of : (k : ℕ) → k < length ws → is_largest ws k ≡ not (ltb (units_of (get_or ws k zero_weight)) (units_of top))
  test_of k h = ap (λ (w : Float). not (lt (get_or ws k zero_weight) w)) (sym largest_is) ∙ ap not (units_order (given k h) known.weight)

  pub largest_first : lt zero_weight top ≡ true → best ≡ first_below (is_largest ws) (length ws)
  largest_first t = by known.zero_or
    where
      by : (top ≡ zero_weight) ⊎ ((best < length ws) × (get_or ws best zero_weight ≡ top) × ((k : ℕ) → k < best → units_of (get_or ws k zero_weight) < units_of top))
          → best ≡ first_below (is_largest ws) (length ws)
      by (inl z) =
          let more = units_lt (finite zero_finite) known.weight (subst T (sym t) tt) in
          let same = ap units_of z in
          absurd (omega (arith, more, same))
      by (inr r) =
          first_found (is_largest ws) (length ws) best r.0
          (λ k h. let l = r.2 k h in let b = r.0 in test_of k (omega (arith, h, b)) ∙ ap not (lt-ltb (units_of (get_or ws k zero_weight)) (units_of top) l))
          (test_of best r.0 ∙ ap not (le-ltb (units_of (get_or ws best zero_weight)) (units_of top) (le_of_eq (ap units_of (sym r.1)))))

-- the best use: none in a table of one row; else the first row of the largest weight, if that is above zero
pub best_short : (ws : List Float) → length ws ≤ 1 → None ≡ best_use ws
unfolding best_use
best_short ws h = sym (cond_true _ _ (le-leb (length ws) 1 h))

module _ (ws : List Float) (given : AllWeights ws) (best : ℕ) (top : Float) (long : 1 < length ws) (known : Largest ws (length ws) best top) where
  pub best_found : lt zero_weight top ≡ true → Some best ≡ best_use ws
  unfolding best_use
  best_found t =
      ap Some (largest_first ws given best top known t)
      ∙ sym (cond_false _ _ (lt-leb (length ws) 1 long) ∙ cond_true _ _ (ap (lt zero_weight) (sym (largest_is ws given best top known)) ∙ t))

  pub best_none : lt zero_weight top ≡ false → None ≡ best_use ws
  unfolding best_use
  best_none t = sym (cond_false _ _ (lt-leb (length ws) 1 long) ∙ cond_false _ _ (ap (lt zero_weight) (sym (largest_is ws given best top known)) ∙ t))

-- Numbers one after the other, none more than one below the one before it: their distances are the last number and twice the falls
use mathlib.Core.Path.{◌≡◌, refl, sym, ap, ◌∙◌, subst}
use mathlib.Core.Bool.{Bool, true, false, cond}
use mathlib.Core.Logic.{◌⊎◌, inl, inr}
use Prim.Native.Nat.{ℕ, zero, suc, ◌+◌, ◌-◌, ◌*◌, ◌≤◌, ◌<◌, min}
use native.Mathlib.Nat.{le_refl, add-zero, add-suc}
use native.Mathlib.Omega.{arith}
use lib.Dec.{ltb}
use borrow.Author.Tests.{lt-ltb, le-ltb}
use Rattle.columns.specs.Below.{count_below, sum_below}
use Rattle.columns.proofs.Firsts.{split}
use Rattle.use_lists.specs.Steps.{number_before}
use Rattle.uses.specs.UseSteps.{distances}

-- number i is below the one before it
abbrev pub falls : (ℕ → ℕ) → ℕ → Bool
falls b i = ltb (b i) (number_before b i)

pub distances_falls : (b : ℕ → ℕ) (n : ℕ) → ((i : ℕ) → i < n → number_before b i ≤ b i + 1)
    → distances b n ≡ number_before b n + 2 * count_below (falls b) n
unfolding sum_below count_below
distances_falls b zero near = refl
distances_falls b (suc n) near = by (split (b n) (number_before b n)) (distances_falls b n (λ i h. near i (omega (arith, h))))
  where
    count : ℕ
    count = count_below (falls b) n

    fell : (d c x y : ℕ) → y < x → x ≤ y + 1 → d ≡ x + 2 * c → d + ((x - y) + (y - x)) ≡ y + 2 * (c + 1)
    fell d c x y l h e = omega (arith, l, h, e)

    rose : (d c x y : ℕ) → x ≤ y → d ≡ x + 2 * c → d + ((x - y) + (y - x)) ≡ y + 2 * (c + 0)
    rose d c x y l e = omega (arith, l, e)

    by : (b n < number_before b n) ⊎ (number_before b n ≤ b n) → distances b n ≡ number_before b n + 2 * count
        → distances b n + ((number_before b n - b n) + (b n - number_before b n)) ≡ b n + 2 * (count + cond (falls b n) 1 0)
    by (inl l) e =
        fell (distances b n) count (number_before b n) (b n) l (near n (le_refl (suc n))) e
        ∙ ap {A = Bool} (λ (t : Bool). b n + 2 * (count + cond t 1 0)) (sym (lt-ltb (b n) (number_before b n) l))
    by (inr l) e =
        rose (distances b n) count (number_before b n) (b n) l e
        ∙ ap {A = Bool} (λ (t : Bool). b n + 2 * (count + cond t 1 0)) (sym (le-ltb (b n) (number_before b n) l))

-- a test that holds in a stretch of numbers at its first one at most, and not at 0, is counted there at most once, and not in a stretch from 0 on
pub count_first : (t : ℕ → Bool) (x e : ℕ) → ((u : ℕ) → x ≤ u → u < e → t u ≡ true → (u ≡ x) × (0 < u)) → (k : ℕ) → x + k ≤ e
    → count_below t (x + k) ≤ count_below t x + min x 1
unfolding count_below
count_first t x e first zero h = let z = ap (count_below t) (add-zero x) in omega (arith, z)
count_first t x e first (suc k) h =
    subst (λ (n : ℕ). count_below t n ≤ count_below t x + min x 1) (sym (add-suc x k))
    (by (t (x + k)) refl (count_first t x e first k (omega (arith, h))))
  where
    by : (b : Bool) → t (x + k) ≡ b → count_below t (x + k) ≤ count_below t x + min x 1 → count_below t (x + k) + cond b 1 0 ≤ count_below t x + min x 1
    by true f before =
        let only = first (x + k) (omega arith) (omega (arith, h)) f in
        let same = ap (count_below t) only.0 in
        let some = only.1 in
        let here = only.0 in
        omega (arith, same, some, here)
    by false f before = omega (arith, before)

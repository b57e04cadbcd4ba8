-- How many numbers pass a test: a loop that counts them, and what a count says; and whether some number passes
use mathlib.Core.Path.{◌≡◌, refl, sym, ap, ap₂, ◌∙◌}
use mathlib.Core.Logic.{◌⊎◌, inl, inr, ⊎_elim}
use mathlib.Core.Bool.{Bool, true, false, cond}
use Prim.Native.Nat.{ℕ, zero, suc, ◌+◌, ◌-◌, ◌≤◌, ◌<◌, zero-le, min}
use native.Mathlib.Nat.{le_refl, le_trans, le_of_eq, le_antisymm, le_of_suc-le-suc, eq-or-lt_of_le, not-suc-le-zero}
use native.Mathlib.Numerals.{add-one}
use native.Mathlib.Omega.{arith}
use lib.Dec.{T}
use Rattle.columns.proofs.Firsts.{split}
use Rattle.columns.proofs.Tests.{or_T}
use Rattle.columns.specs.Below.{count_below, any_below}

-- a loop has counted the numbers below i
pub record Counted (test : ℕ → Bool) (i have : ℕ) : Type 0 where
  pub is : have ≡ count_below test i
  pub few : have ≤ i

module _ (test : ℕ → Bool) where
  -- where nothing is counted nothing passes
  pub count_none : (n : ℕ) → count_below test n ≡ 0 → (k : ℕ) → k < n → test k ≡ false
  unfolding count_below
  count_none zero e k h = absurd (not-suc-le-zero h)
  count_none (suc n) e k h =
      ⊎_elim (λ m. count_none n (none_first (count_below test n) (cond (test n) 1 0) e) k m)
      (λ m. ap test (last k n h m) ∙ none_last (test n) (count_below test n) e) (split k n)
    where
      none_first : (a b : ℕ) → a + b ≡ 0 → a ≡ 0
      none_first a b p = omega arith

      last : (k n : ℕ) → k < suc n → n ≤ k → k ≡ n
      last k n p q = omega arith

      none_last : (b : Bool) (a : ℕ) → a + cond b 1 0 ≡ 0 → b ≡ false
      none_last true a p = absurd (omega (arith, p))
      none_last false a p = refl

  -- one more that passes is counted
  pub count_more : (a b : ℕ) → a ≤ b → count_below test a ≤ count_below test b
  unfolding count_below
  count_more a zero h = le_of_eq (ap (count_below test) (none a h))
    where
      none : (a : ℕ) → a ≤ 0 → a ≡ 0
      none a p = omega arith
  count_more a (suc b) h =
      ⊎_elim (λ m. le_trans (count_more a b (inner a b m)) (grown (count_below test b) (cond (test b) 1 0)))
      (λ m. le_of_eq (ap (count_below test) (same a b h m))) (split a (suc b))
    where
      inner : (a b : ℕ) → a < suc b → a ≤ b
      inner a b p = omega arith

      same : (a b : ℕ) → a ≤ suc b → suc b ≤ a → a ≡ suc b
      same a b p q = omega arith

      grown : (x y : ℕ) → x ≤ x + y
      grown x y = omega arith

  pub count_hit : (a u b : ℕ) → a ≤ u → u < b → test u ≡ true → count_below test a + 1 ≤ count_below test b
  unfolding count_below
  count_hit a u b p q t =
      le_trans (plus (count_below test a) (count_below test u) (count_more a u p)) (le_trans (le_of_eq (sym (here u t))) (count_more (suc u) b q))
    where
      plus : (x y : ℕ) → x ≤ y → x + 1 ≤ y + 1
      plus x y h = omega arith

      here : (u : ℕ) → test u ≡ true → count_below test (suc u) ≡ count_below test u + 1
      here u t = ap (λ (b : Bool). count_below test u + cond b 1 0) t

  -- ---- a loop
  pub counted_none : Counted test 0 0
  unfolding count_below
  counted_none = record { is = refl; few = zero-le }

  pub counted_turn : (i have m : ℕ) (b : Bool) → Counted test i have → b ≡ test i → m ≡ have + cond b 1 0 → Counted test (i + 1) m
  unfolding count_below
  counted_turn i have m b c q r =
      record {
        is = r ∙ ap (λ (x : ℕ). x + cond b 1 0) c.is ∙ ap (λ (t : Bool). count_below test i + cond t 1 0) q ∙ ap (count_below test) (sym (add-one i));
        few = le_trans (le_of_eq r) (one_more b have i c.few);
      }
    where
      one_more : (b : Bool) (x i : ℕ) → x ≤ i → x + cond b 1 0 ≤ i + 1
      one_more true x i h = omega arith
      one_more false x i h = omega arith

  -- behind the last
  pub counted_all : (i have n : ℕ) → i ≤ n → n ≤ i → Counted test i have → have ≡ count_below test n
  counted_all i have n p q c = c.is ∙ ap (count_below test) (le_antisymm p q)

-- ---- two tests
-- none passes where the test is never met
pub count_never : (n : ℕ) → count_below (λ (i : ℕ). false) n ≡ 0
unfolding count_below
count_never zero = refl
count_never (suc n) = ap (λ (k : ℕ). k + 0) (count_never n)

-- tests that agree
pub count_alike : (t u : ℕ → Bool) (n : ℕ) → ((k : ℕ) → k < n → t k ≡ u k) → count_below t n ≡ count_below u n
unfolding count_below
count_alike t u zero h = refl
count_alike t u (suc n) h =
    ap₂ (λ (a : ℕ) (b : Bool). a + cond b 1 0) (count_alike t u n (λ k l. h k (omega (arith, l)))) (h n (le_refl (suc n)))

-- a test that passes all from a to before e, where another passes none, and is the other one elsewhere, counts so many more
pub count_span : (t u : ℕ → Bool) (a e : ℕ) → ((i : ℕ) → i < a → u i ≡ t i) → ((i : ℕ) → e ≤ i → u i ≡ t i)
    → ((i : ℕ) → a ≤ i → i < e → (t i ≡ false) × (u i ≡ true)) → (n : ℕ) → count_below u n ≡ count_below t n + (min e n - a)
unfolding count_below
count_span t u a e low high within zero = omega arith
count_span t u a e low high within (suc n) =
    let r = count_span t u a e low high within n in
    ⊎_elim (λ l. same r (low n l) (inl l)) (λ l. ⊎_elim (more r l) (λ m. same r (high n m) (inr m)) (split n e)) (split n a)
  where
    same : count_below u n ≡ count_below t n + (min e n - a) → u n ≡ t n → (n < a) ⊎ (e ≤ n)
        → count_below u n + cond (u n) 1 0 ≡ count_below t n + cond (t n) 1 0 + (min e (suc n) - a)
    same r q o = let c = ap {B = ℕ} (λ (x : Bool). cond x 1 0) q in ⊎_elim (λ l. omega (arith, r, c, l)) (λ l. omega (arith, r, c, l)) o

    more : count_below u n ≡ count_below t n + (min e n - a) → a ≤ n → n < e
        → count_below u n + cond (u n) 1 0 ≡ count_below t n + cond (t n) 1 0 + (min e (suc n) - a)
    more r l m =
        let w = within n l m in
        let c = ap {B = ℕ} (λ (x : Bool). cond x 1 0) w.0 in
        let d = ap {B = ℕ} (λ (x : Bool). cond x 1 0) w.1 in
        omega (arith, r, c, d, l, m)

-- ---- some number passes
-- what each number that passes gives, and one that passes
pub any_elim : {C : Type 0} (test : ℕ → Bool) (n : ℕ) → ((k : ℕ) → k < n → T (test k) → C) → T (any_below test n) → C
unfolding any_below
any_elim test zero h t = absurd t
any_elim test (suc n) h t = ⊎_elim (any_elim test n (λ k l. h k (omega arith))) (h n (omega arith)) ((or_T (any_below test n) (test n)).0 t)

pub any_hit : (test : ℕ → Bool) (n k : ℕ) → k < n → T (test k) → T (any_below test n)
unfolding any_below
any_hit test zero k h t = absurd (omega arith)
any_hit test (suc n) k h t =
    (or_T (any_below test n) (test n)).1 (⊎_elim (λ e. inr (rw (← e) t)) (λ l. inl (any_hit test n k l t)) (eq-or-lt_of_le (le_of_suc-le-suc h)))

-- The first place at which a test holds: there is one, only one, and the definition computes it
use mathlib.Core.Path.{◌≡◌, sym, ◌∙◌, subst}
use mathlib.Core.Logic.{◌⊎◌, inl, inr}
use Prim.Native.Nat.{ℕ, zero, suc, ◌≤◌, ◌<◌, zero-le, suc-le-suc}
use native.Mathlib.Nat.{le_refl, le_trans, le_of_lt, le_antisymm, le_of_suc-le-suc, lt_irrefl, lt_of_lt_of_le, lt_of_le_of_lt, lt_of_not-le, not-suc-le-zero}
use native.Mathlib.Decide.{dec_lt}
use native.Mathlib.Omega.{arith}
use mathlib.Core.Bool.{Bool, true, false, true≢false}
use mathlib.Core.List.{List}
use lib.Dec.{leb}
use lib.ListN.{get_or}
use borrow.Author.Tests.{leb-true, leb-false}
use lib.Ieee.Bits.{is_true, is_false}
use Rattle.columns.proofs.Tests.{cond_both}
use Rattle.columns.specs.First.{first_below, FirstIn, Rising}

-- before or not
pub split : (a b : ℕ) → (a < b) ⊎ (b ≤ a)
split a b = go (dec_lt a b)
  where
    go : Dec (a < b) → (a < b) ⊎ (b ≤ a)
    go (yes p) = inl p
    go (no q) = inr (omega arith)

at_zero : (test : ℕ → Bool) (n : ℕ) → test 0 ≡ true → FirstIn test 0 (suc n) 0
at_zero test n e = record { from = le_refl 0; to = zero-le; passed = λ k _ h. absurd (not-suc-le-zero h); found = λ _. e }

at_suc : (test : ℕ → Bool) (n r : ℕ) → test 0 ≡ false → FirstIn (λ (k : ℕ). test (suc k)) 0 n r → FirstIn test 0 (suc n) (suc r)
at_suc test n r e f =
    record { from = zero-le; to = suc-le-suc f.to; passed = λ k _ h. before k h; found = λ h. f.found (le_of_suc-le-suc h) }
  where
    before : (k : ℕ) → k < suc r → test k ≡ false
    before zero h = e
    before (suc k) h = f.passed k zero-le (le_of_suc-le-suc h)

-- the definition gives the first place
pub first_in : (test : ℕ → Bool) (n : ℕ) → FirstIn test 0 n (first_below test n)
unfolding first_below
first_in test zero = record { from = le_refl 0; to = le_refl 0; passed = λ k _ h. absurd (not-suc-le-zero h); found = λ h. absurd (not-suc-le-zero h) }
first_in test (suc n) =
    let r = first_below (λ (k : ℕ). test (suc k)) n in
    cond_both (λ (x : ℕ). FirstIn test 0 (suc n) x) (test 0) 0 (suc r)
    (λ t. at_zero test n (is_true (test 0) t))
    (λ t. at_suc test n r (is_false (test 0) t) (first_in (λ (k : ℕ). test (suc k)) n))

-- there is only one
not_before : (test : ℕ → Bool) (lo hi r s : ℕ) → FirstIn test lo hi r → FirstIn test lo hi s → r < s → ⊥
not_before test lo hi r s f g h = true≢false (sym (f.found (lt_of_lt_of_le h g.to)) ∙ g.passed r f.from h)

pub first_only : {test : ℕ → Bool} {lo hi r s : ℕ} → FirstIn test lo hi r → FirstIn test lo hi s → r ≡ s
first_only {test} {lo} {hi} {r} {s} f g =
    le_antisymm (le_of_suc-le-suc (lt_of_not-le (not_before test lo hi s r g f))) (le_of_suc-le-suc (lt_of_not-le (not_before test lo hi r s f g)))

pub first_is : {test : ℕ → Bool} {n r : ℕ} → FirstIn test 0 n r → r ≡ first_below test n
first_is {test} {n} f = first_only f (first_in test n)

-- where two tests agree below n, so do their first places
pub first_same : (p q : ℕ → Bool) (n : ℕ) → ((k : ℕ) → k < n → p k ≡ q k) → first_below p n ≡ first_below q n
first_same p q n h =
    let f = first_in p n in
    first_is (record {
      from = zero-le;
      to = f.to;
      passed = λ k l m. sym (h k (lt_of_lt_of_le m f.to)) ∙ f.passed k l m;
      found = λ m. sym (h (first_below p n) m) ∙ f.found m;
    })

-- where the test holds somewhere below n, the first place is no later
pub first_at_most : (test : ℕ → Bool) (n k : ℕ) → test k ≡ true → first_below test n ≤ k
first_at_most test n k e = le_of_suc-le-suc (lt_of_not-le (λ h. true≢false (sym e ∙ (first_in test n).passed k zero-le h)))

-- what a search from 0 shows: it stops at the first place, or has passed all
pub first_found : (test : ℕ → Bool) (n i : ℕ) → i < n → ((k : ℕ) → k < i → test k ≡ false) → test i ≡ true → i ≡ first_below test n
first_found test n i h passed e = first_is (record { from = zero-le; to = le_of_lt h; passed = λ k _ l. passed k l; found = λ _. e })

pub first_none : (test : ℕ → Bool) (n : ℕ) → ((k : ℕ) → k < n → test k ≡ false) → n ≡ first_below test n
first_none test n passed = first_is (record { from = zero-le; to = le_refl n; passed = λ k _ l. passed k l; found = λ l. absurd (lt_irrefl n l) })

-- a walk that answers the number of them has passed all
pub first_all : (test : ℕ → Bool) (n : ℕ) → first_below test n ≡ n → (k : ℕ) → k < n → test k ≡ false
first_all test n e k h = (first_in test n).passed k zero-le (subst (λ (r : ℕ). k < r) (sym e) h)

-- what a search in a column that does not fall parts: numbers below x, and the others
pub record Parted (col : List ℕ) (x lo hi r : ℕ) : Type 0 where
  pub before : (k : ℕ) → lo ≤ k → k < r → get_or col k 0 < x
  pub later : (k : ℕ) → r ≤ k → k < hi → x ≤ get_or col k 0

pub parted : {col : List ℕ} {x lo hi r : ℕ} → Rising col lo hi → FirstIn (λ (k : ℕ). leb x (get_or col k 0)) lo hi r → Parted col x lo hi r
parted {col} {x} {lo} {hi} {r} rising f =
    record {
      before = λ k p q. leb-false x (get_or col k 0) (f.passed k p q);
      later = λ k p q. le_trans (leb-true x (get_or col r 0) (f.found (lt_of_le_of_lt p q))) (rising r k f.from p q);
    }

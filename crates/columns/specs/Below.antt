-- Over the numbers below n: counts, sums, what passes a test, lists joined
use Rattle.std.specs.Prelude.{ℕ, zero, suc, ◌+◌, ◌<◌, Bool, false, ◌||◌, cond, List, [], ◌∷◌, ◌++◌}

-- how many numbers below n pass a test
unfoldable pub count_below : (ℕ → Bool) → ℕ → ℕ
count_below test zero = 0
count_below test (suc n) = count_below test n + cond (test n) 1 0

-- f 0 + .. + f (n - 1)
unfoldable pub sum_below : (ℕ → ℕ) → ℕ → ℕ
sum_below f zero = 0
sum_below f (suc n) = sum_below f n + f n

-- some number below n passes a test
unfoldable pub any_below : (ℕ → Bool) → ℕ → Bool
any_below test zero = false
any_below test (suc n) = any_below test n || test n

-- one of the numbers below n is such
pub record Some (n : ℕ) (P : ℕ → Type 0) : Type 0 where
  pub at : ℕ
  pub inside : at < n
  pub is : P at

-- what stands at the numbers below n that pass a test, in order
unfoldable pub picked : {A : Type 0} → (ℕ → Bool) → (ℕ → A) → ℕ → List A
picked test at zero = []
picked test at (suc n) = picked test at n ++ cond (test n) (at n ∷ []) []

-- n lists from the i-th on, joined
unfoldable pub joined : {A : Type 0} → (ℕ → List A) → ℕ → ℕ → List A
joined lists i zero = []
joined lists i (suc n) = lists i ++ joined lists (suc i) n

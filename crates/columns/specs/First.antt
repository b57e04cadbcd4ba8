-- The first place at which a test holds
use Rattle.std.specs.Prelude.{ℕ, zero, suc, ◌≤◌, ◌<◌, ◌≡◌, Bool, true, false, cond, List, length, get_or}

-- the first number below n at which the test holds; n if there is none
unfoldable pub first_below : (ℕ → Bool) → ℕ → ℕ
first_below test zero = 0
first_below test (suc n) = let later = suc (first_below (λ (k : ℕ). test (suc k)) n) in cond (test 0) 0 later

-- r is the first place from lo on, before hi, at which the test holds; hi if there is none
pub record FirstIn (test : ℕ → Bool) (lo hi r : ℕ) : Type 0 where
  pub from : lo ≤ r
  pub to : r ≤ hi
  pub passed : (k : ℕ) → lo ≤ k → k < r → test k ≡ false
  pub found : r < hi → test r ≡ true

-- a part of a column that does not fall
abbrev pub Rising : List ℕ → ℕ → ℕ → Type 0
Rising col lo hi = (i k : ℕ) → lo ≤ i → i ≤ k → k < hi → get_or col i 0 ≤ get_or col k 0

-- the same of a part that the column has
pub record Searchable (col : List ℕ) (lo hi : ℕ) : Type 0 where
  pub order : lo ≤ hi
  pub inside : hi ≤ length col
  pub rising : Rising col lo hi

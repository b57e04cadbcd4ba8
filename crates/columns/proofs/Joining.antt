-- Lists joined: all empty, the empty ones in front, the next one, those from one on
use mathlib.Core.Path.{◌≡◌, refl, ap}
use Prim.Native.Nat.{ℕ, zero, suc, ◌+◌, ◌-◌, ◌≤◌, ◌<◌}
use native.Mathlib.Omega.{arith}
use mathlib.Core.List.{List, [], ◌++◌}
use Rattle.columns.specs.Below.{joined}

-- lists joined: all empty, the empty ones in front, the next one
pub joined_none : {A : Type 0} (lists : ℕ → List A) (i n : ℕ) → ((k : ℕ) → i ≤ k → k < i + n → lists k ≡ []) → joined lists i n ≡ []
unfolding joined
joined_none lists i zero h = refl
joined_none lists i (suc n) h = rw (h i (omega arith) (omega arith)) (joined_none lists (suc i) n (λ k a b. h k (omega arith) (omega arith)))

pub joined_skip : {A : Type 0} (lists : ℕ → List A) (i g n : ℕ) → ((k : ℕ) → i ≤ k → k < i + g → lists k ≡ []) → joined lists i (g + n) ≡ joined lists (i + g) n
unfolding joined
joined_skip lists i zero n h = let a : zero + n ≡ n = omega arith in let b : i + zero ≡ i = omega arith in rw (a, b)
joined_skip lists i (suc g) n h =
    let a : suc g + n ≡ suc (g + n) = omega arith in
    let b : i + suc g ≡ suc i + g = omega arith in
    rw (a, b, h i (omega arith) (omega arith)) (joined_skip lists (suc i) g n (λ k x y. h k (omega arith) (omega arith)))

pub joined_next : {A : Type 0} (lists : ℕ → List A) (i m : ℕ) → i < m → joined lists i (m - i) ≡ lists i ++ joined lists (i + 1) (m - (i + 1))
unfolding joined
joined_next lists i m h =
    let a : m - i ≡ suc (m - (i + 1)) = omega arith in
    let b : i + 1 ≡ suc i = omega arith in
    rw (a, b)

-- a part of the lists joined, from the i-th of m on
abbrev pub from_on : {A : Type 0} → (ℕ → List A) → ℕ → ℕ → List A
from_on lists m i = joined lists i (m - i)

pub from_on_all : {A : Type 0} (lists : ℕ → List A) (m : ℕ) → joined lists 0 m ≡ from_on lists m 0
from_on_all lists m = let a : m ≡ m - 0 = omega arith in ap (joined lists 0) a

pub from_on_end : {A : Type 0} (lists : ℕ → List A) (m i : ℕ) → m ≤ i → from_on lists m i ≡ []
from_on_end lists m i h = joined_none lists i (m - i) (λ k a b. absurd (omega (arith, h, a, b)))

-- Chains of weights rise strictly, hold no weight twice, and at numerators up to 2007 have at most 9,495 members above zero
use mathlib.Core.Path.{◌≡◌, sym, ap, ◌∙◌}
use mathlib.Core.List.{List, [], ◌∷◌}
use Prim.Native.Nat.{ℕ, zero, suc, ◌+◌, ◌-◌, ◌*◌, ◌^◌, ◌≤◌, ◌<◌, suc-le-suc}
use native.Mathlib.Nat.{le_trans, le_of_eq, le_of_lt, le_antisymm, lt_of_not-le, not-le_of_lt, lt_trans}
use native.Mathlib.Nat.{le_of_suc-le-suc, not-suc-le-zero, one-mul, mul_comm, mul_assoc, mul_left_comm, mul-le-mul, mul-le-mul_left, mul-le-mul_right}
use native.Mathlib.Nat.{mul-lt-mul_of_pos_right, pow-zero, pow-suc, pow-le-pow_left, one-le-pow}
use native.Mathlib.Omega.{arith}
use lib.Dec.{lit≤, lit<}
use lib.Pow.{pow-add}
use lib.ListN.{length, get_or}
use lib.Ieee.{Float, nan}
use Rattle.numbers.specs.Weight.{Finite, finite, infinite_units, units_of}
use Rattle.numbers.specs.Chain.{ChainFrom, Chain, longest}
use Rattle.numbers.proofs.Units.{units_below}
use Rattle.numbers.proofs.Normalised.{exceeds_exact, exceeds_rises, exceeds_above_zero}

-- ---- the chain rises strictly
after_first : (n : ℕ) → n ≤ 2048 → (w : Float) (ws : List Float) → Finite w → ChainFrom n w ws → (j : ℕ) → j < length ws → units_of w < units_of (get_or ws j nan)
after_first n h w [] f c j l = absurd (not-suc-le-zero l)
after_first n h w (v ∷ vs) f c zero l = exceeds_rises n h c.0 (finite f) c.1
after_first n h w (v ∷ vs) f c (suc j) l = lt_trans (exceeds_rises n h c.0 (finite f) c.1) (after_first n h v vs c.0 c.2 j (le_of_suc-le-suc l))

rises_from : (n : ℕ) → n ≤ 2048 → (w : Float) (ws : List Float) → Finite w → ChainFrom n w ws → (i j : ℕ) → i < j → j < suc (length ws)
    → units_of (get_or (w ∷ ws) i nan) < units_of (get_or (w ∷ ws) j nan)
rises_from n h w ws f c i zero l m = absurd (not-suc-le-zero l)
rises_from n h w ws f c zero (suc j) l m = after_first n h w ws f c j (le_of_suc-le-suc m)
rises_from n h w [] f c (suc i) (suc j) l m = absurd (not-suc-le-zero (le_of_suc-le-suc m))
rises_from n h w (v ∷ vs) f c (suc i) (suc j) l m = rises_from n h v vs c.0 c.2 i j (le_of_suc-le-suc l) (le_of_suc-le-suc m)

pub chain_rises : (n : ℕ) → n ≤ 2048 → (ws : List Float) → Chain n ws → (i j : ℕ) → i < j → j < length ws → units_of (get_or ws i nan) < units_of (get_or ws j nan)
chain_rises n h [] c i j l m = absurd (not-suc-le-zero m)
chain_rises n h (w ∷ ws) c i j l m = rises_from n h w ws c.0 c.1 i j l m

-- ---- no weight stands in it twice
pub chain_once : (n : ℕ) → n ≤ 2048 → (ws : List Float) → Chain n ws → (i j : ℕ) → i < length ws → j < length ws → get_or ws i nan ≡ get_or ws j nan → i ≡ j
chain_once n h ws c i j k l e =
    le_antisymm (at_most (λ m. apart (units_of (get_or ws i nan)) (units_of (get_or ws j nan)) (ap units_of e) (chain_rises n h ws c j i m k)))
    (at_most (λ m. apart (units_of (get_or ws j nan)) (units_of (get_or ws i nan)) (sym (ap units_of e)) (chain_rises n h ws c i j m l)))
  where
    at_most : {a b : ℕ} → (b < a → ⊥) → a ≤ b
    at_most f = le_of_suc-le-suc (lt_of_not-le f)

    apart : (a b : ℕ) → a ≡ b → b < a → ⊥
    apart a b e l = omega arith

-- ---- how much it rises: k steps multiply the units by more than (2048 / n) ^ k
last : Float → List Float → Float
last w [] = w
last w (v ∷ vs) = last v vs

step : (p q a b x y z : ℕ) → p * a < q * b → b * x ≤ z * y → a * (x * p) ≤ z * (y * q)
step p q a b x y z h k =
    le_trans (le_of_eq (mul_left_comm a x p ∙ mul_comm x (a * p) ∙ ap (λ (w : ℕ). w * x) (mul_comm a p)))
    (le_trans (mul-le-mul_right x (le_of_lt h))
    (le_trans (le_of_eq (mul_assoc q b x))
    (le_trans (mul-le-mul_left q k) (le_of_eq (mul_left_comm q z y ∙ ap (λ (w : ℕ). z * w) (mul_comm q y))))))

growth : (n : ℕ) → n ≤ 2048 → (w : Float) (ws : List Float) → Finite w → ChainFrom n w ws → units_of w * 2048 ^ length ws ≤ units_of (last w ws) * n ^ length ws
unfolding last
growth n h w [] f c = le_of_eq (ap (λ (z : ℕ). units_of w * z) (pow-zero 2048 ∙ sym (pow-zero n)))
growth n h w (v ∷ vs) f c =
    let k = length vs in
    le_trans (le_of_eq (ap (λ (z : ℕ). units_of w * z) (pow-suc 2048 k)))
    (le_trans (step 2048 n (units_of w) (units_of v) (2048 ^ k) (n ^ k) (units_of (last v vs)) (exceeds_exact n h c.0 (finite f) c.1)
    (growth n h v vs c.0 c.2))
    (le_of_eq (ap (λ (z : ℕ). units_of (last v vs) * z) (sym (pow-suc n k)))))

last_below : (n : ℕ) (w : Float) (ws : List Float) → Finite w → ChainFrom n w ws → units_of (last w ws) < infinite_units
unfolding last
last_below n w [] f c = units_below f
last_below n w (v ∷ vs) f c = last_below n v vs c.0 c.2

-- ---- from 1 unit to fewer than 2 to the power 277 there are fewer than 9,495 such steps
-- one comparison of two numbers of over 104,000 binary digits, computed
room : infinite_units * 2007 ^ longest ≤ 2048 ^ longest
room = lit≤ tt

joined : (k m : ℕ) → m ≤ k → m + (k - m) ≡ k
joined k m h = omega arith

steps_few : (p q t m k a z : ℕ) → q ≤ p → 0 < q → t * q ^ m ≤ p ^ m → 0 < a → z < t → a * p ^ k ≤ z * q ^ k → k < m
steps_few p q t m k a z le Q big A Z g =
    lt_of_not-le (λ (h : m ≤ k).
    let r = k - m in
    let enough : t * q ^ k ≤ p ^ k =
    le_trans (le_of_eq (ap (λ (x : ℕ). t * q ^ x) (sym (joined k m h)) ∙ ap (λ (x : ℕ). t * x) (pow-add q m r) ∙ sym (mul_assoc t (q ^ m) (q ^ r))))
    (le_trans (mul-le-mul big (pow-le-pow_left le r)) (le_of_eq (sym (pow-add p m r) ∙ ap (λ (x : ℕ). p ^ x) (joined k m h)))) in
    let short : z * q ^ k < t * q ^ k = mul-lt-mul_of_pos_right Z (one-le-pow k q Q) in
    let least : p ^ k ≤ a * p ^ k = le_trans (le_of_eq (sym (one-mul (p ^ k)))) (mul-le-mul_right (p ^ k) A) in
    not-le_of_lt short (le_trans enough (le_trans least g)))

-- a chain whose first weight is above zero
from_above_zero : (n : ℕ) → n ≤ 2007 → (w : Float) (ws : List Float) → Finite w → 0 < units_of w → ChainFrom n w ws → length ws < longest
from_above_zero n h w ws f z c =
    let k = length ws in
    let g : units_of w * 2048 ^ k ≤ units_of (last w ws) * 2007 ^ k = le_trans (growth n (le_trans h (lit≤ tt)) w ws f c)
    (mul-le-mul_left (units_of (last w ws)) (pow-le-pow_left h k)) in
    steps_few 2048 2007 infinite_units longest k (units_of w) (units_of (last w ws)) (lit≤ tt) (lit< tt) room z (last_below n w ws f c) g

pub chain_few : (n : ℕ) → n ≤ 2007 → (w : Float) (ws : List Float) → 0 < units_of w → Chain n (w ∷ ws) → length (w ∷ ws) ≤ longest
chain_few n h w ws z c = from_above_zero n h w ws c.0 z c.1

-- any chain: only its first weight can be zero
pub chain_bound : (n : ℕ) → n ≤ 2007 → (ws : List Float) → Chain n ws → length ws ≤ 10000
chain_bound n h [] c = lit≤ tt
chain_bound n h (w ∷ []) c = lit≤ tt
chain_bound n h (w ∷ (v ∷ vs)) c =
    le_trans (suc-le-suc (from_above_zero n h v vs c.1.0 (exceeds_above_zero n (le_trans h (lit≤ tt)) c.1.0 (finite c.0) c.1.1) c.1.2))
    (lit≤ tt)

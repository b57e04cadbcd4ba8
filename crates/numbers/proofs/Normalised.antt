-- The normalised weight is finite, and the weight test gives the exact inequality over units
use mathlib.Core.Path.{◌≡◌, refl, sym, ap, ◌∙◌, subst, subst₂}
use Prim.Native.Nat.{ℕ, ◌+◌, ◌*◌, ◌^◌, ◌≤◌, ◌<◌, zero-le}
use native.Mathlib.Nat.{le_trans, le_of_eq, lt_of_lt_of_le, lt_of_le_of_lt, mul_comm, mul_assoc, mul_left_comm, mul-pos}
use native.Mathlib.Nat.{mul-le-mul_right, lt_of_mul-lt-mul_right}
use mathlib.Core.Bool.{Bool, false, not, cond}
use lib.IntN.{pos}
use lib.Dec.{T, nltb→le, lit<}
use lib.Pow.{pow_pos}
use lib.Ieee.{Float, binary32, round, div, lt, fits, of_int}
use lib.Ieee.Exact.{round_exact}
use lib.Ieee.Scale.{round_same}
use Rattle.numbers.specs.Weight.{Finite, number, Weight, finite, infinite_units, units_of}
use Rattle.numbers.specs.Normal.{largest, normalised, fraction, exceeds}
use Rattle.columns.proofs.Tests.{cond_both}
use Rattle.numbers.proofs.Units.{units_below, units_order, units_lt, finite_of_units}
use Rattle.numbers.proofs.Rounding.{rounded, round_weight, below_round, value_units}
use Rattle.numbers.proofs.Operations.{product_round, product_weight, quotient_weight, whole_number, whole_finite}

-- ---- the cap
pub largest_finite : Finite largest
unfolding fits
largest_finite = number tt

capped_finite : (x : Float) → Weight x → Finite (cond (lt largest x) largest x)
capped_finite x p =
    cond_both Finite (lt largest x) largest x (λ _. largest_finite)
    (λ t. finite_of_units p (lt_of_le_of_lt (nltb→le (units_of largest) (units_of x) (subst (λ (s : Bool). T (not s)) (units_order (finite largest_finite) p) t))
    (units_below largest_finite)))

-- a count of 1 to 2 to the power 24 is a finite weight above zero
count_pos : (n : ℕ) → 0 < n → n ≤ 2 ^ 24 → 0 < units_of (of_int binary32 (pos n))
count_pos n a b = subst (λ (u : ℕ). 0 < u) (sym (whole_number n b)) (mul-pos a (pow_pos 149))

-- the normalised weight of a weight is finite, whatever the weight
pub normalised_finite : {w : Float} (insts k : ℕ) → Weight w → 0 < insts + k → insts + k ≤ 2 ^ 24 → Finite (normalised w insts k)
unfolding normalised
normalised_finite {w} insts k p a b =
    capped_finite (div binary32 w (of_int binary32 (pos (insts + k)))) (quotient_weight p (whole_finite (insts + k) b) (count_pos (insts + k) a b))

-- ---- numerator / 2048, exactly: numerator times 2 to the power 138 units
in_units : (n : ℕ) → n * 2 ^ 149 ≡ n * 2 ^ 138 * 2048
in_units n = sym (mul_assoc n (2 ^ 138) 2048)

fraction_value : (n : ℕ) → n ≤ 2048 → units_of (fraction n) ≡ n * 2 ^ 138
unfolding fraction
fraction_value n h =
    ap units_of (round_same binary32 false n 2048 (n * 2 ^ 138) (2 ^ 149) (lit< tt) (pow_pos 149) (in_units n))
    ∙ value_units (round binary32 false (n * 2 ^ 138) (2 ^ 149)) (n * 2 ^ 138)
    (round_exact binary32 false (n * 2 ^ 138) (2 ^ 149) n 138 (pow_pos 149) (lt_of_le_of_lt h (lit< tt))
    (lt_of_le_of_lt (mul-le-mul_right (2 ^ 138) h) (lit< tt)) refl)

fraction_finite : (n : ℕ) → n ≤ 2048 → Finite (fraction n)
unfolding fraction
fraction_finite n h =
    finite_of_units (round_weight n 2048) (subst (λ (u : ℕ). u < infinite_units) (sym (fraction_value n h))
    (lt_of_le_of_lt (mul-le-mul_right (2 ^ 138) h) (lit< tt)))

-- ---- the weight test over units: w met, v the weight that passes
cancel : (w v n p : ℕ) → 0 < p → w * (p * 2048 * (p * 2048)) < v * (n * p) * (p * 2048) → 2048 * w < n * v
cancel w v n p P h =
    lt_of_mul-lt-mul_right p (lt_of_mul-lt-mul_right (p * 2048) (subst₂ (λ (x y : ℕ). x < y) (left w p) (right v n p) h))
  where
    left : (w p : ℕ) → w * (p * 2048 * (p * 2048)) ≡ 2048 * w * p * (p * 2048)
    left w p =
        sym (mul_assoc w (p * 2048) (p * 2048)) ∙ ap (λ (z : ℕ). z * (p * 2048))
        (mul_left_comm w p 2048 ∙ mul_comm p (w * 2048) ∙ ap (λ (z : ℕ). z * p) (mul_comm w 2048))

    right : (v n p : ℕ) → v * (n * p) * (p * 2048) ≡ n * v * p * (p * 2048)
    right v n p = ap (λ (z : ℕ). z * (p * 2048)) (mul_left_comm v n p ∙ sym (mul_assoc n v p))

pub exceeds_exact : {v w : Float} (n : ℕ) → n ≤ 2048 → Finite v → Weight w → T (exceeds n v w) → 2048 * units_of w < n * units_of v
unfolding exceeds rounded
exceeds_exact {v} {w} n h f p t =
    let g = fraction_finite n h in
    let a = units_of v * units_of (fraction n) in
    let r : units_of w < rounded a (2 ^ 149 * 2 ^ 149) = subst (λ (u : ℕ). units_of w < u) (ap units_of (product_round f g)) (units_lt p (product_weight f g) t) in
    let e : units_of w * (2 ^ 149 * 2 ^ 149) < a * 2 ^ 149 = below_round p a (2 ^ 149 * 2 ^ 149) (mul-pos (pow_pos 149) (pow_pos 149)) r in
    cancel (units_of w) (units_of v) n (2 ^ 138) (pow_pos 138)
    (subst (λ (u : ℕ). units_of w * (2 ^ 149 * 2 ^ 149) < units_of v * u * 2 ^ 149) (fraction_value n h) e)

-- so what passes is strictly heavier, and above zero
rises : (w v n : ℕ) → n ≤ 2048 → 2048 * w < n * v → w < v
rises w v n h e =
    lt_of_mul-lt-mul_right 2048 (lt_of_lt_of_le (lt_of_le_of_lt (le_of_eq (mul_comm w 2048)) e) (le_trans (mul-le-mul_right v h) (le_of_eq (mul_comm 2048 v))))

pub exceeds_rises : {v w : Float} (n : ℕ) → n ≤ 2048 → Finite v → Weight w → T (exceeds n v w) → units_of w < units_of v
exceeds_rises {v} {w} n h f p t = rises (units_of w) (units_of v) n h (exceeds_exact n h f p t)

pub exceeds_above_zero : {v w : Float} (n : ℕ) → n ≤ 2048 → Finite v → Weight w → T (exceeds n v w) → 0 < units_of v
exceeds_above_zero n h f p t = lt_of_le_of_lt zero-le (exceeds_rises n h f p t)

-- a lighter weight is exceeded too
pub exceeds_lighter : {v w u : Float} (n : ℕ) → n ≤ 2048 → Finite v → Weight w → Weight u → units_of u ≤ units_of w → T (exceeds n v w) → T (exceeds n v u)
unfolding exceeds
exceeds_lighter n h f p q le t =
    let g = product_weight f (fraction_finite n h) in
    Rattle.numbers.proofs.Units.lt_units q g (lt_of_le_of_lt le (units_lt p g t))

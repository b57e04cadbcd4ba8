-- Sum, difference, product and quotient of weights: each is one rounding of the exact units, and a weight again
use mathlib.Core.Path.{◌≡◌, refl, sym, ap, ◌∙◌, subst}
use Prim.Native.Nat.{ℕ, zero, suc, ◌+◌, ◌-◌, ◌*◌, ◌/◌, ◌^◌, ◌≤◌, ◌<◌}
use native.Mathlib.Nat.{le_trans, le_of_eq, le_antisymm, le_of_lt, lt_of_le_of_lt, lt_irrefl, add_comm, add-mul, mul-sub, mul_comm, mul-one, mul_assoc}
use native.Mathlib.Nat.{mul_right_comm, mul-mul-mul_comm, mul-pos, mul-div_cancel, mul-le-mul_right, le_of_mul-le-mul_right}
use native.Mathlib.Omega.{arith}
use mathlib.Core.Bool.{true, false, cond}
use lib.IntN.{ℤ, pos}
use lib.Dec.{T, ltb, eqb, eqb-suc-zero, lit<}
use lib.Arith.{le→nltb}
use lib.Pow.{pow_pos}
use lib.Ieee.{Float, nan, inf, fin, binary32, up, down, round, neg, sum, add, sub, mul, div, fits, of_int, of_bits}
use lib.Ieee.Fits.{up_pos, down_pos}
use lib.Ieee.Bits.{is_false}
use lib.Ieee.Back.{round_whole}
use lib.Ieee.Exact.{HasValue, round_exact}
use lib.Ieee.Positive.{first_pos}
use lib.Ieee.Scale.{round_same}
use Rattle.numbers.specs.Weight.{Finite, number, Weight, infinite, finite, infinite_units, units_of}
use Rattle.columns.proofs.Tests.{cond_false}
use Rattle.numbers.proofs.Units.{units_exact, units_below, units_most, units_infinite, units_inj, finite_of_units}
use Rattle.numbers.proofs.Rounding.{rounded, round_weight, round_at_most, round_at_least, value_units}

-- ---- fractions in units: x units are the fraction a / d where x * d ≡ a * l
sub_times : (a b l : ℕ) → (a - b) * l ≡ a * l - b * l
sub_times a b l = mul_comm (a - b) l ∙ mul-sub l a b ∙ ap (λ (z : ℕ). z - l * b) (mul_comm l a) ∙ ap (λ (z : ℕ). a * l - z) (mul_comm l b)

module _ (l x y a b d e : ℕ) (p : x * d ≡ a * l) (q : y * e ≡ b * l) where
  left_part : a * e * l ≡ x * (d * e)
  left_part = mul_right_comm a e l ∙ ap (λ (z : ℕ). z * e) (sym p) ∙ mul_assoc x d e

  right_part : b * d * l ≡ y * (d * e)
  right_part = mul_right_comm b d l ∙ ap (λ (z : ℕ). z * d) (sym q) ∙ mul_right_comm y e d ∙ mul_assoc y d e

  sum_counts : (a * e + b * d) * l ≡ (x + y) * (d * e)
  sum_counts = add-mul (a * e) (b * d) l ∙ ap (λ (z : ℕ). z + b * d * l) left_part ∙ ap (λ (z : ℕ). x * (d * e) + z) right_part ∙ sym (add-mul x y (d * e))

  difference_counts : (a * e - b * d) * l ≡ (x - y) * (d * e)
  difference_counts =
      sub_times (a * e) (b * d) l ∙ ap (λ (z : ℕ). z - b * d * l) left_part ∙ ap (λ (z : ℕ). x * (d * e) - z) right_part ∙ sym (sub_times x y (d * e))

  product_counts : a * b * (l * l) ≡ x * y * (d * e)
  product_counts = mul-mul-mul_comm a b l l ∙ ap (λ (z : ℕ). z * (b * l)) (sym p) ∙ ap (λ (z : ℕ). x * d * z) (sym q) ∙ mul-mul-mul_comm x d y e

  quotient_counts : a * e * y ≡ x * (b * d)
  quotient_counts =
      mul_assoc a e y ∙ ap (λ (z : ℕ). a * z) (mul_comm e y ∙ q ∙ mul_comm b l) ∙ sym (mul_assoc a l b) ∙ ap (λ (z : ℕ). z * b) (sym p) ∙ mul_assoc x d b
      ∙ ap (λ (z : ℕ). x * z) (mul_comm d b)

-- ---- finite operands: one rounding of the exact units
pub sum_round : {x y : Float} → Finite x → Finite y → add binary32 x y ≡ round binary32 false (units_of x + units_of y) (2 ^ 149)
unfolding add
sum_round (number {m} {e} f) (number {m = n} {e = d} g) =
    let x = units_of (fin false m e) in
    let y = units_of (fin false n d) in
    round_same binary32 false (m * up e * down d + n * up d * down e) (down e * down d) (x + y) (2 ^ 149) (mul-pos (down_pos e) (down_pos d)) (pow_pos 149)
    (sum_counts (2 ^ 149) x y (m * up e) (n * up d) (down e) (down d) (units_exact m e f) (units_exact n d g))

pub product_round : {x y : Float} → Finite x → Finite y → mul binary32 x y ≡ round binary32 false (units_of x * units_of y) (2 ^ 149 * 2 ^ 149)
unfolding mul
product_round (number {m} {e} f) (number {m = n} {e = d} g) =
    let x = units_of (fin false m e) in
    let y = units_of (fin false n d) in
    round_same binary32 false (m * up e * (n * up d)) (down e * down d) (x * y) (2 ^ 149 * 2 ^ 149) (mul-pos (down_pos e) (down_pos d))
    (mul-pos (pow_pos 149) (pow_pos 149))
    (product_counts (2 ^ 149) x y (m * up e) (n * up d) (down e) (down d) (units_exact m e f) (units_exact n d g))

-- a finite weight above zero has digits
digits_pos : (n : ℕ) (d : ℤ) → T (fits binary32 (fin false n d)) → 0 < units_of (fin false n d) → 0 < n
digits_pos n d g h = first_pos n (up d) (first_pos (n * up d) (2 ^ 149) (subst (λ (z : ℕ). 0 < z) (units_exact n d g) (mul-pos h (down_pos d))))

quotient_fin : (m : ℕ) (e : ℤ) (n : ℕ) (d : ℤ) → 0 < n → div binary32 (fin false m e) (fin false n d)
    ≡ round binary32 false (m * up e * down d) (n * up d * down e)
unfolding div
quotient_fin m e zero d h = absurd (lt_irrefl 0 h)
quotient_fin m e (suc n) d h = cond_false (cond (eqb m 0) nan (inf false)) (round binary32 false (m * up e * down d) (suc n * up d * down e)) (eqb-suc-zero n)

pub quotient_round : {x y : Float} → Finite x → Finite y → 0 < units_of y → div binary32 x y ≡ round binary32 false (units_of x) (units_of y)
quotient_round (number {m} {e} f) (number {m = n} {e = d} g) h =
    let x = units_of (fin false m e) in
    let y = units_of (fin false n d) in
    let z = digits_pos n d g h in
    quotient_fin m e n d z
    ∙ round_same binary32 false (m * up e * down d) (n * up d * down e) x y (mul-pos (mul-pos z (up_pos d)) (down_pos e)) h
    (quotient_counts (2 ^ 149) x y (m * up e) (n * up d) (down e) (down d) (units_exact m e f) (units_exact n d g))

-- the difference with a weight that is no heavier
difference_fin : (a b c : ℕ) → b ≤ a → sum binary32 false a true b c ≡ round binary32 false (a - b) c
unfolding sum
difference_fin a b c h = cond_false (round binary32 true (b - a) c) (round binary32 false (a - b) c) (is_false (ltb a b) (le→nltb a b h))

pub difference_round : {x y : Float} → Finite x → Finite y → units_of y ≤ units_of x → sub binary32 x y ≡ round binary32 false (units_of x - units_of y) (2 ^ 149)
unfolding sub add neg
difference_round (number {m} {e} f) (number {m = n} {e = d} g) h =
    let x = units_of (fin false m e) in
    let y = units_of (fin false n d) in
    let a = m * up e * down d in
    let b = n * up d * down e in
    let c = down e * down d in
    let p = left_part (2 ^ 149) x y (m * up e) (n * up d) (down e) (down d) (units_exact m e f) (units_exact n d g) in
    let q = right_part (2 ^ 149) x y (m * up e) (n * up d) (down e) (down d) (units_exact m e f) (units_exact n d g) in
    let le : b ≤ a = le_of_mul-le-mul_right (le_trans (le_of_eq q) (le_trans (mul-le-mul_right c h) (le_of_eq (sym p)))) (pow_pos 149) in
    difference_fin a b c le
    ∙ round_same binary32 false (a - b) c (x - y) (2 ^ 149) (mul-pos (down_pos e) (down_pos d)) (pow_pos 149)
    (difference_counts (2 ^ 149) x y (m * up e) (n * up d) (down e) (down d) (units_exact m e f) (units_exact n d g))

-- ---- weights stay weights
-- the sum of any two weights
sum_infinite_left : {y : Float} → Weight y → add binary32 (inf false) y ≡ inf false
unfolding add
sum_infinite_left infinite = refl
sum_infinite_left (finite (number g)) = refl

sum_infinite_right : {x : Float} → Finite x → add binary32 x (inf false) ≡ inf false
unfolding add
sum_infinite_right (number f) = refl

pub sum_weight : {x y : Float} → Weight x → Weight y → Weight (add binary32 x y)
sum_weight infinite q = subst Weight (sym (sum_infinite_left q)) infinite
sum_weight (finite f) infinite = subst Weight (sym (sum_infinite_right f)) infinite
sum_weight {x} {y} (finite f) (finite g) = subst Weight (sym (sum_round f g)) (round_weight (units_of x + units_of y) (2 ^ 149))

-- the product of two finite weights
pub product_weight : {x y : Float} → Finite x → Finite y → Weight (mul binary32 x y)
product_weight {x} {y} f g = subst Weight (sym (product_round f g)) (round_weight (units_of x * units_of y) (2 ^ 149 * 2 ^ 149))

-- the quotient of a weight by a finite one above zero
quotient_infinite : {y : Float} → Finite y → div binary32 (inf false) y ≡ inf false
unfolding div
quotient_infinite (number g) = refl

pub quotient_weight : {x y : Float} → Weight x → Finite y → 0 < units_of y → Weight (div binary32 x y)
quotient_weight infinite g h = subst Weight (sym (quotient_infinite g)) infinite
quotient_weight {x} {y} (finite f) g h = subst Weight (sym (quotient_round f g h)) (round_weight (units_of x) (units_of y))

-- the difference with a weight that is no heavier: finite, and no heavier than the first
pub difference_finite : {x y : Float} → Finite x → Finite y → units_of y ≤ units_of x → Finite (sub binary32 x y) × (units_of (sub binary32 x y) ≤ units_of x)
unfolding rounded
difference_finite {x} {y} f g h =
    let e = difference_round f g h in
    let w : Weight (sub binary32 x y) = subst Weight (sym e) (round_weight (units_of x - units_of y) (2 ^ 149)) in
    let b : units_of (sub binary32 x y) ≤ units_of x = le_trans (le_of_eq (ap units_of e))
    (round_at_most (finite f) (units_of x - units_of y) (2 ^ 149) (pow_pos 149) (mul-le-mul_right (2 ^ 149) (less (units_of x) (units_of y)))) in
    (finite_of_units w (lt_of_le_of_lt b (units_below f)), b)
  where
    less : (a b : ℕ) → a - b ≤ a
    less a b = omega arith

-- ---- the units of a sum, also where a weight is infinite
rounded_infinite : (n : ℕ) → infinite_units ≤ n → rounded n (2 ^ 149) ≡ infinite_units
rounded_infinite n h =
    le_antisymm (unfold rounded in units_most (round_weight n (2 ^ 149)))
    (le_trans (le_of_eq (sym units_infinite)) (round_at_least infinite n (2 ^ 149) (pow_pos 149)
    (mul-le-mul_right (2 ^ 149) (le_trans (le_of_eq units_infinite) h))))

grows_left : (a b : ℕ) → a ≤ a + b
grows_left a b = omega arith

grows_right : (a b : ℕ) → b ≤ a + b
grows_right a b = omega arith

pub sum_units : {x y : Float} → Weight x → Weight y → units_of (add binary32 x y) ≡ rounded (units_of x + units_of y) (2 ^ 149)
sum_units {y = y} infinite q =
    ap units_of (sum_infinite_left q) ∙ units_infinite ∙ sym (rounded_infinite (units_of (inf false) + units_of y)
    (le_trans (le_of_eq (sym units_infinite)) (grows_left (units_of (inf false)) (units_of y))))
sum_units {x} (finite f) infinite =
    ap units_of (sum_infinite_right f) ∙ units_infinite ∙ sym
    (rounded_infinite (units_of x + units_of (inf false)) (le_trans (le_of_eq (sym units_infinite)) (grows_right (units_of x) (units_of (inf false)))))
sum_units (finite f) (finite g) = unfold rounded in ap units_of (sum_round f g)

-- a sum commutes, and is no lighter than its first part
pub sum_commutes : {x y : Float} → Weight x → Weight y → add binary32 x y ≡ add binary32 y x
sum_commutes {x} {y} p q =
    units_inj (sum_weight p q) (sum_weight q p)
    (sum_units p q ∙ ap (λ (n : ℕ). rounded n (2 ^ 149)) (add_comm (units_of x) (units_of y)) ∙ sym (sum_units q p))

pub sum_grows : {x y : Float} → Weight x → Weight y → units_of x ≤ units_of (add binary32 x y)
sum_grows {x} {y} p q =
    le_trans (round_at_least p (units_of x + units_of y) (2 ^ 149) (pow_pos 149) (mul-le-mul_right (2 ^ 149) (grows_left (units_of x) (units_of y))))
    (le_of_eq (sym (sum_units p q)))

-- ---- whole numbers
value_whole : (x : Float) (n : ℕ) → HasValue x false n 1 → units_of x ≡ n * 2 ^ 149
unfolding units_of
value_whole nan n v = absurd v
value_whole (inf s) n v = absurd v
value_whole (fin s m e) n v =
    ap (λ (z : ℕ). z * 2 ^ 149 / down e) (sym (mul-one (m * up e)) ∙ v.1) ∙ ap (λ (z : ℕ). z / down e) (mul_right_comm n (down e) (2 ^ 149))
    ∙ mul-div_cancel (n * 2 ^ 149) (down_pos e)

pub whole_weight : (n : ℕ) → Weight (of_int binary32 (pos n))
unfolding of_int
whole_weight n = round_weight n 1

pub whole_number : (n : ℕ) → n ≤ 2 ^ 24 → units_of (of_int binary32 (pos n)) ≡ n * 2 ^ 149
unfolding of_int
whole_number n h = value_whole (round binary32 false n 1) n (round_whole binary32 false n h)

pub whole_finite : (n : ℕ) → n ≤ 2 ^ 24 → Finite (of_int binary32 (pos n))
whole_finite n h =
    finite_of_units (whole_weight n) (subst (λ (u : ℕ). u < infinite_units) (sym (whole_number n h)) (lt_of_le_of_lt (mul-le-mul_right (2 ^ 149) h) (lit< tt)))

-- a whole number in two parts, high * 65536 + low: the product is exact, so the sum is the one rounding of the whole number
scale : Float
scale = of_bits binary32 1199570944

scale_finite : Finite scale
unfolding scale of_bits fits
scale_finite = number tt

scale_units : units_of scale ≡ 2 ^ 165
unfolding scale of_bits units_of
scale_units = refl

high_units : (h : ℕ) → h < 2 ^ 24 → units_of (mul binary32 (of_int binary32 (pos h)) scale) ≡ h * 2 ^ 165
high_units h l =
    let g = le_of_lt l in
    ap units_of
    (product_round (whole_finite h g) scale_finite
    ∙ ap (λ (x : ℕ). round binary32 false (x * units_of scale) (2 ^ 149 * 2 ^ 149)) (whole_number h g)
    ∙ ap (λ (y : ℕ). round binary32 false (h * 2 ^ 149 * y) (2 ^ 149 * 2 ^ 149)) scale_units
    ∙ round_same binary32 false (h * 2 ^ 149 * 2 ^ 165) (2 ^ 149 * 2 ^ 149) (h * 2 ^ 165) (2 ^ 149) (mul-pos (pow_pos 149) (pow_pos 149)) (pow_pos 149)
    (regroup h (2 ^ 149) (2 ^ 165)))
    ∙ value_units (round binary32 false (h * 2 ^ 165) (2 ^ 149)) (h * 2 ^ 165)
    (round_exact binary32 false (h * 2 ^ 165) (2 ^ 149) h 165 (pow_pos 149) l (lt_of_le_of_lt (mul-le-mul_right (2 ^ 165) g) (lit< tt)) refl)
  where
    regroup : (h l k : ℕ) → h * l * k * l ≡ h * k * (l * l)
    regroup h l k = ap (λ (z : ℕ). z * l) (mul_right_comm h l k) ∙ mul_assoc (h * k) l l

pub whole_parts : (n h r : ℕ) → h < 2 ^ 24 → r ≤ 2 ^ 24 → h * 65536 + r ≡ n
    → add binary32 (mul binary32 (of_int binary32 (pos h)) (of_bits binary32 1199570944)) (of_int binary32 (pos r)) ≡ of_int binary32 (pos n)
unfolding scale
whole_parts n h r l k e =
    let high = mul binary32 (of_int binary32 (pos h)) scale in
    let u = high_units h l in
    let f : Finite high = finite_of_units (product_weight (whole_finite h (le_of_lt l)) scale_finite)
    (subst (λ (x : ℕ). x < infinite_units) (sym u) (lt_of_le_of_lt (mul-le-mul_right (2 ^ 165) (le_of_lt l)) (lit< tt))) in
    sum_round f (whole_finite r k)
    ∙ ap (λ (x : ℕ). round binary32 false (x + units_of (of_int binary32 (pos r))) (2 ^ 149)) u
    ∙ ap (λ (x : ℕ). round binary32 false (h * 2 ^ 165 + x) (2 ^ 149)) (whole_number r k)
    ∙ round_same binary32 false (h * 2 ^ 165 + r * 2 ^ 149) (2 ^ 149) n 1 (pow_pos 149) (lit< tt) (mul-one (h * 2 ^ 165 + r * 2 ^ 149) ∙ joined)
    ∙ unfold of_int in refl
  where
    joined : h * 2 ^ 165 + r * 2 ^ 149 ≡ n * 2 ^ 149
    joined = ap (λ (z : ℕ). z + r * 2 ^ 149) (sym (mul_assoc h 65536 (2 ^ 149))) ∙ sym (add-mul (h * 65536) r (2 ^ 149)) ∙ ap (λ (z : ℕ). z * 2 ^ 149) e

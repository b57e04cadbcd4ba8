-- Weights in units of 2 to the power -149: whole numbers, exactly; in the same order; and each number is one weight's
use mathlib.Core.Path.{◌≡◌, refl, sym, ap, ◌∙◌, subst, subst₂}
use Prim.Native.Nat.{ℕ, zero, suc, ◌+◌, ◌-◌, ◌*◌, ◌/◌, ◌%◌, ◌^◌, ◌≤◌, ◌<◌}
use native.Mathlib.Nat.{le_trans, le_of_eq, le_of_lt, le_of_suc-le-suc, lt_of_not-le, not-le_of_lt, lt_irrefl, mul-one, one-mul, zero-mul, mul_assoc}
use native.Mathlib.Nat.{mul_right_comm, mul-pos, mul-div_cancel, mul-le-mul_right, mul-lt-mul_of_pos_right, lt_of_mul-lt-mul_right}
use native.Mathlib.Omega.{arith}
use mathlib.Core.Bool.{false}
use lib.IntN.{ℤ, pos, negsuc}
use lib.Dec.{T, leb, ltb, eqb, leb→le, ltb→lt, eqb→eq, lt→ltb, lit≤, lit<}
use lib.Arith.{le→nltb}
use lib.Pow.{pow-add, pow_pos, pow-lt}
use lib.Ieee.{Float, inf, fin, binary32, up, down, size, fits, lt, to_bits, of_bits}
use lib.Ieee.Fits.{up_pos, down_pos}
use lib.Ieee.Bits.{is_true, is_false, of_bits-to_bits}
use Rattle.numbers.specs.Weight.{Finite, number, Weight, infinite, finite, infinite_units, units_of, zero_weight}
use Rattle.columns.proofs.Tests.{ltb_same, and_four}

-- ---- what binary32 asks of m * 2 ^ e
pub record Holds (m : ℕ) (e : ℤ) : Type 0 where
  pub digits : m < 2 ^ 24
  pub place : down e ≤ 2 ^ 149
  pub range : m * up e < 2 ^ 128 * down e

one_times : (a b : ℕ) → 0 < a → a * b ≡ 1 → b ≤ 1
one_times a b h e = le_trans (le_of_eq (sym (one-mul b))) (le_trans (mul-le-mul_right b h) (le_of_eq e))

pub fits_holds : (m : ℕ) (e : ℤ) → T (fits binary32 (fin false m e)) → Holds m e
unfolding fits
fits_holds zero e h =
    record {
      digits = lit< tt;
      place = le_trans (one_times (up e) (down e) (up_pos e) (eqb→eq (up e * down e) 1 h)) (lit≤ tt);
      range = subst (λ (x : ℕ). x < 2 ^ 128 * down e) (sym (zero-mul (up e))) (mul-pos (pow_pos 128) (down_pos e));
    }
fits_holds (suc m) e h =
    let p = and_four (eqb (suc m % 2) 1) (ltb (suc m) (2 ^ 24)) (leb (down e) (2 ^ 149)) (ltb (suc m * up e) (2 ^ 128 * down e)) h in
    record {
      digits = ltb→lt (suc m) (2 ^ 24) p.1;
      place = leb→le (down e) (2 ^ 149) p.2;
      range = ltb→lt (suc m * up e) (2 ^ 128 * down e) p.3;
    }

-- ---- exact
power_order : (a b : ℕ) → 2 ^ a ≤ 2 ^ b → a ≤ b
power_order a b h = le_of_suc-le-suc (lt_of_not-le (λ (g : suc b ≤ a). not-le_of_lt (pow-lt g) h))

rest : (k l : ℕ) → k ≤ l → l - k + k ≡ l
rest k l h = omega arith

-- 2 ^ e is a whole number of units of 2 ^ -l, where its denominator is at most 2 ^ l
whole_units : (l : ℕ) (e : ℤ) → down e ≤ 2 ^ l → (j : ℕ) × (up e * 2 ^ l ≡ 2 ^ j * down e)
whole_units l (pos k) h = (k + l, sym (pow-add 2 k l) ∙ sym (mul-one (2 ^ (k + l))))
whole_units l (negsuc k) h =
    let g = power_order (suc k) l h in
    (l - suc k, one-mul (2 ^ l) ∙ ap (λ (x : ℕ). 2 ^ x) (sym (rest (suc k) l g)) ∙ pow-add 2 (l - suc k) (suc k))

-- a finite weight's units are m * 2 ^ j for some j, and nothing is cut off
pub units_whole : (m : ℕ) (e : ℤ) → T (fits binary32 (fin false m e)) → (j : ℕ) × (units_of (fin false m e) ≡ m * 2 ^ j)
    × (units_of (fin false m e) * down e ≡ m * up e * 2 ^ 149)
unfolding units_of
units_whole m e h =
    let w = whole_units 149 e (fits_holds m e h).place in
    let exact : m * up e * 2 ^ 149 ≡ m * 2 ^ w.0 * down e = mul_assoc m (up e) (2 ^ 149) ∙ ap (λ (z : ℕ). m * z) w.1
    ∙ sym (mul_assoc m (2 ^ w.0) (down e)) in
    let count : m * up e * 2 ^ 149 / down e ≡ m * 2 ^ w.0 = ap (λ (z : ℕ). z / down e) exact ∙ mul-div_cancel (m * 2 ^ w.0) (down_pos e) in
    (w.0, count, ap (λ (z : ℕ). z * down e) count ∙ sym exact)

pub units_exact : (m : ℕ) (e : ℤ) → T (fits binary32 (fin false m e)) → units_of (fin false m e) * down e ≡ m * up e * 2 ^ 149
units_exact m e h = (units_whole m e h).2

-- ---- order: two numbers that are a / l and b / l, in other terms
carry : (a b x y l c : ℕ) → 0 < l → a * l ≡ x * c → b * l ≡ y * c → a < b → x < y
carry a b x y l c L p q h = lt_of_mul-lt-mul_right c (subst₂ (λ (u v : ℕ). u < v) p q (mul-lt-mul_of_pos_right h L))

below_range : (u d a l t : ℕ) → 0 < l → 0 < d → u * d ≡ a * l → a < t * d → u < t * l
below_range u d a l t L D e h = carry a (t * d) u (t * l) l d L (sym e) (mul_right_comm t d l) h

-- a finite weight has fewer units than an infinity counts
pub units_below : {x : Float} → Finite x → units_of x < infinite_units
units_below (number {m} {e} h) =
    below_range (units_of (fin false m e)) (down e) (m * up e) (2 ^ 149) (2 ^ 128) (pow_pos 149) (down_pos e) (units_exact m e h) (fits_holds m e h).range

finite_order : (m : ℕ) (e : ℤ) (n : ℕ) (d : ℤ) → T (fits binary32 (fin false m e)) → T (fits binary32 (fin false n d))
    → ltb (m * up e * down d) (n * up d * down e) ≡ ltb (units_of (fin false m e)) (units_of (fin false n d))
finite_order m e n d f g =
    let x = units_of (fin false m e) in
    let y = units_of (fin false n d) in
    let c = down e * down d in
    let p : m * up e * down d * 2 ^ 149 ≡ x * c = mul_right_comm (m * up e) (down d) (2 ^ 149) ∙ ap (λ (z : ℕ). z * down d) (sym (units_exact m e f))
    ∙ mul_assoc x (down e) (down d) in
    let q : n * up d * down e * 2 ^ 149 ≡ y * c = mul_right_comm (n * up d) (down e) (2 ^ 149) ∙ ap (λ (z : ℕ). z * down e) (sym (units_exact n d g))
    ∙ mul_right_comm y (down d) (down e) ∙ mul_assoc y (down e) (down d) in
    ltb_same (m * up e * down d) (n * up d * down e) x y
    (carry (m * up e * down d) (n * up d * down e) x y (2 ^ 149) c (pow_pos 149) p q)
    (carry x y (m * up e * down d) (n * up d * down e) c (2 ^ 149) (mul-pos (down_pos e) (down_pos d)) (sym p) (sym q))

-- the order of weights is the order of their units
pub units_order : {x y : Float} → Weight x → Weight y → lt x y ≡ ltb (units_of x) (units_of y)
unfolding lt
units_order infinite infinite = unfold units_of in refl
units_order infinite (finite (number {m = n} {e = d} g)) =
    unfold units_of in sym (is_false (ltb infinite_units (units_of (fin false n d)))
    (le→nltb infinite_units (units_of (fin false n d)) (le_of_lt (units_below (number g)))))
units_order (finite (number {m} {e} f)) infinite =
    unfold units_of in sym (is_true (ltb (units_of (fin false m e)) infinite_units) (lt→ltb (units_of (fin false m e)) infinite_units (units_below (number f))))
units_order (finite (number {m} {e} f)) (finite (number {m = n} {e = d} g)) = finite_order m e n d f g

pub units_lt : {x y : Float} → Weight x → Weight y → T (lt x y) → units_of x < units_of y
units_lt {x} {y} p q h = ltb→lt (units_of x) (units_of y) (subst T (units_order p q) h)

pub lt_units : {x y : Float} → Weight x → Weight y → units_of x < units_of y → T (lt x y)
lt_units {x} {y} p q h = subst T (sym (units_order p q)) (lt→ltb (units_of x) (units_of y) h)

-- ---- one to one: a weight's bits come from its units alone
unfoldable pub bits_of_units : ℕ → ℕ
bits_of_units n = 0 + (size n - 24) * 2 ^ 23 + n / 2 ^ (size n - 24)

pub bits_from_units : {x : Float} → Weight x → to_bits binary32 x ≡ bits_of_units (units_of x)
unfolding to_bits units_of bits_of_units
bits_from_units infinite = refl
bits_from_units (finite (number h)) = refl

pub weight_fits : {x : Float} → Weight x → T (fits binary32 x)
weight_fits infinite = unfold fits in tt
weight_fits (finite (number h)) = h

pub units_inj : {x y : Float} → Weight x → Weight y → units_of x ≡ units_of y → x ≡ y
units_inj {x} {y} p q e =
    sym (of_bits-to_bits binary32 x (weight_fits p))
    ∙ ap (of_bits binary32) (bits_from_units p ∙ ap bits_of_units e ∙ sym (bits_from_units q))
    ∙ of_bits-to_bits binary32 y (weight_fits q)

-- ---- finite, or not
pub units_infinite : units_of (inf false) ≡ infinite_units
unfolding units_of
units_infinite = refl

pub units_most : {x : Float} → Weight x → units_of x ≤ infinite_units
units_most infinite = le_of_eq units_infinite
units_most (finite f) = le_of_lt (units_below f)

pub finite_of_units : {x : Float} → Weight x → units_of x < infinite_units → Finite x
finite_of_units infinite h = absurd (lt_irrefl infinite_units (subst (λ (u : ℕ). u < infinite_units) units_infinite h))
finite_of_units (finite f) h = f

-- ---- zero
pub zero_finite : Finite zero_weight
unfolding fits
zero_finite = number tt

pub zero_units : units_of zero_weight ≡ 0
unfolding units_of
zero_units = refl

-- nothing is lighter than zero
pub zero_least : (x : Float) → units_of zero_weight ≤ units_of x
zero_least x = subst (λ (u : ℕ). u ≤ units_of x) (sym zero_units) Prim.Native.Nat.zero-le

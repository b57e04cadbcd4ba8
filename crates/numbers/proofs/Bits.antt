-- Bits of weights: those up to infinity's are the weights' bits, each of one weight, in the weights' order
use mathlib.Core.Path.{◌≡◌, refl, sym, ap, ◌∙◌, subst, subst₂}
use mathlib.Core.Logic.{◌⊎◌, inl, inr}
use Prim.Native.Nat.{ℕ, zero, suc, ◌+◌, ◌-◌, ◌*◌, ◌/◌, ◌%◌, ◌^◌, ◌≤◌, ◌<◌}
use native.Mathlib.Nat.{le_refl, le_trans, le_of_eq, le_of_lt, le_of_suc-le-suc, lt_of_lt_of_le, lt_of_le_of_lt, lt_of_not-le, not-le_of_lt, not-suc-le-zero}
use native.Mathlib.Nat.{mod-eq_of_lt, mod-lt, mul-one, suc_inj, div-add-mod', mul-le-mul, mul-lt-mul_of_pos_right, pow-suc, eq-or-lt_of_le}
use native.Mathlib.Decide.{dec_lt}
use native.Mathlib.Omega.{arith}
use mathlib.Core.Bool.{Bool, true, false, not, cond}
use lib.IntN.{ℤ}
use lib.Dec.{T, leb, ltb, eqb, leb→le, lit≤, lit<, eqb→eq}
use lib.Pow.{pow_pos, pow_mono}
use lib.Ieee.{Float, nan, inf, fin, binary32, up, down, odd, size, fits, lt, is_nan, nan_bits, of_fields, of_bits, to_bits}
use lib.Ieee.Digits.{size-le}
use lib.Ieee.Exact.{odd_sign}
use lib.Ieee.Fits.{kept-lt}
use lib.Ieee.Bits.{of_bits-fits, of_bits-to_bits, to_bits-of_bits, nan_bits_is}
use borrow.Author.Tests.{lt-leb, le-leb, eq-eqb}
use Rattle.numbers.specs.Weight.{Finite, number, Weight, infinite, finite, infinite_units, units_of, zero_weight, weight_limit, frequency_limit, limit_bits, value_from}
use Rattle.numbers.specs.Weight.{value_of}
use Rattle.std.specs.Prelude.{Some, None, unwrap_or}
use Rattle.numbers.specs.declared.weights.Limit.{Limit}
use Rattle.numbers.specs.declared.weights.Limit.TheVariants as Limit·is
use Rattle.columns.proofs.Tests.{cond_both, cond_true, cond_false, ltb_same}
use Rattle.numbers.proofs.Units.{bits_of_units, bits_from_units, weight_fits, units_order, units_infinite, units_below, finite_of_units, zero_finite}
use Rattle.numbers.proofs.Rounding.{plain, weight_of, odd_plain, value_units}

-- ---- a weight by the fields of its bits: the exponent x and the digits t
from_fields : ℕ → ℕ → Float
from_fields zero t = odd 24 false t 0 149
from_fields (suc x) t = cond (eqb (suc x) 255) (inf false) (odd 24 false (2 ^ 23 + t) x 149)

fields_same : (x t : ℕ) → (x ≡ 255 → t ≡ 0) → of_fields binary32 false x t ≡ from_fields x t
unfolding of_fields from_fields
fields_same zero t h = refl
fields_same (suc x) t h = go (eqb (suc x) 255) (λ p. h (eqb→eq (suc x) 255 p))
  where
    go : (a : Bool) → (T a → t ≡ 0)
        → cond a (cond (eqb t 0) (inf false) nan) (odd 24 false (2 ^ 23 + t) x 149) ≡ cond a (inf false) (odd 24 false (2 ^ 23 + t) x 149)
    go true p = cond_true (inf false) nan (eq-eqb t 0 (p tt))
    go false p = refl

no_digits : (b x t : ℕ) → b ≤ weight_limit → x * 2 ^ 23 + t ≡ b → x ≡ 255 → t ≡ 0
no_digits b x t h e k = omega arith

positive : (b : ℕ) → b ≤ weight_limit → b < 2 ^ 31
positive b h = omega arith

bits_fields : (b : ℕ) → b ≤ weight_limit → of_bits binary32 b ≡ from_fields (b / 2 ^ 23) (b % 2 ^ 23)
unfolding of_bits
bits_fields b h =
    ap (λ (s : Bool). of_fields binary32 s (b % 2 ^ 31 / 2 ^ 23) (b % 2 ^ 23)) (lt-leb (2 ^ 31) b (positive b h))
    ∙ ap (λ (n : ℕ). of_fields binary32 false (n / 2 ^ 23) (b % 2 ^ 23)) (mod-eq_of_lt (positive b h))
    ∙ fields_same (b / 2 ^ 23) (b % 2 ^ 23) (no_digits b (b / 2 ^ 23) (b % 2 ^ 23) h (div-add-mod' b (2 ^ 23)))

fields_plain : (x t : ℕ) → T (plain (from_fields x t))
unfolding from_fields
fields_plain zero t = odd_plain 24 t 0 149
fields_plain (suc x) t =
    cond_both (λ (v : Float). T (plain v)) (eqb (suc x) 255) (inf false) (odd 24 false (2 ^ 23 + t) x 149) (λ _. tt) (λ _. odd_plain 24 (2 ^ 23 + t) x 149)

-- bits up to infinity's are a weight's
pub bits_weight : (b : ℕ) → b ≤ weight_limit → Weight (of_bits binary32 b)
bits_weight b h =
    weight_of (of_bits binary32 b) (of_bits-fits binary32 b) (subst (λ (v : Float). T (plain v)) (sym (bits_fields b h)) (fields_plain (b / 2 ^ 23) (b % 2 ^ 23)))

-- ---- units by the fields of the bits
abbrev pub field_units : ℕ → ℕ → ℕ
field_units zero t = t
field_units (suc x) t = (2 ^ 23 + t) * 2 ^ x

odd_units : (q k : ℕ) → units_of (odd 24 false q k 149) ≡ q * 2 ^ k
odd_units q k = value_units (odd 24 false q k 149) (q * 2 ^ k) (odd_sign 24 false q k 149)

fields_units : (x t : ℕ) → (x ≡ 255 → t ≡ 0) → units_of (from_fields x t) ≡ field_units x t
unfolding from_fields
fields_units zero t h = odd_units t 0 ∙ mul-one t
fields_units (suc x) t h =
    cond_both (λ (v : Float). units_of v ≡ (2 ^ 23 + t) * 2 ^ x) (eqb (suc x) 255) (inf false) (odd 24 false (2 ^ 23 + t) x 149)
    (λ p. top (eqb→eq (suc x) 255 p)) (λ _. odd_units (2 ^ 23 + t) x)
  where
    top : suc x ≡ 255 → units_of (inf false) ≡ (2 ^ 23 + t) * 2 ^ x
    top p = units_infinite ∙ sym (ap (λ (n : ℕ). (2 ^ 23 + n) * 2 ^ x) (h p) ∙ ap (λ (n : ℕ). 2 ^ 23 * 2 ^ n) (suc_inj p))

pub bits_units : (b : ℕ) → b ≤ weight_limit → units_of (of_bits binary32 b) ≡ field_units (b / 2 ^ 23) (b % 2 ^ 23)
bits_units b h = ap units_of (bits_fields b h) ∙ fields_units (b / 2 ^ 23) (b % 2 ^ 23) (no_digits b (b / 2 ^ 23) (b % 2 ^ 23) h (div-add-mod' b (2 ^ 23)))

-- ---- the order of bits is the order of weights
twice : (p : ℕ) → 2 ^ 24 * p ≡ 2 ^ 23 * (p * 2)
twice p = omega arith

more : (t : ℕ) → t < 2 ^ 23 → 2 ^ 23 + t < 2 ^ 24
more t h = omega arith

fields_upper : (x t : ℕ) → t < 2 ^ 23 → field_units x t < 2 ^ 23 * 2 ^ x
fields_upper zero t h = h
fields_upper (suc x) t h =
    lt_of_lt_of_le (mul-lt-mul_of_pos_right (more t h) (pow_pos x)) (le_of_eq (twice (2 ^ x) ∙ ap (λ (z : ℕ). 2 ^ 23 * z) (sym (pow-suc 2 x))))

at_least : (t : ℕ) → 2 ^ 23 ≤ 2 ^ 23 + t
at_least t = omega arith

fields_lower : (x y t : ℕ) → x < y → 2 ^ 23 * 2 ^ x ≤ field_units y t
fields_lower x zero t h = absurd (not-suc-le-zero h)
fields_lower x (suc y) t h = mul-le-mul (at_least t) (pow_mono (le_of_suc-le-suc h))

fields_step : (x t u : ℕ) → t < u → field_units x t < field_units x u
fields_step zero t u h = h
fields_step (suc x) t u h = mul-lt-mul_of_pos_right (shift t u h) (pow_pos x)
  where
    shift : (t u : ℕ) → t < u → 2 ^ 23 + t < 2 ^ 23 + u
    shift t u h = omega arith

-- the fields of a lower number: a lower exponent, or the same with lower digits
fields_lt : (a b x y t u : ℕ) → a < b → x * 2 ^ 23 + t ≡ a → y * 2 ^ 23 + u ≡ b → t < 2 ^ 23 → u < 2 ^ 23 → (x < y) ⊎ ((x ≡ y) × (t < u))
fields_lt a b x y t u h p q r s = go (dec_lt x y)
  where
    same : (x < y → ⊥) → (x ≡ y) × (t < u)
    same n = omega arith

    go : Dec (x < y) → (x < y) ⊎ ((x ≡ y) × (t < u))
    go (yes l) = inl l
    go (no n) = inr (same n)

fields_order : (a b : ℕ) → a < b → field_units (a / 2 ^ 23) (a % 2 ^ 23) < field_units (b / 2 ^ 23) (b % 2 ^ 23)
fields_order a b h =
    let x = a / 2 ^ 23 in
    let y = b / 2 ^ 23 in
    let t = a % 2 ^ 23 in
    let u = b % 2 ^ 23 in
    let l : t < 2 ^ 23 = mod-lt a (lit< tt) in
    let m : u < 2 ^ 23 = mod-lt b (lit< tt) in
    elim (fields_lt a b x y t u h (div-add-mod' a (2 ^ 23)) (div-add-mod' b (2 ^ 23)) l m) [
      | inl g ↦ lt_of_lt_of_le (fields_upper x t l) (fields_lower x y u g)
      | inr g ↦ subst (λ (z : ℕ). field_units x t < field_units z u) g.0 (fields_step x t u g.1)
    ]

bits_rise : (a b : ℕ) → b ≤ weight_limit → a < b → units_of (of_bits binary32 a) < units_of (of_bits binary32 b)
bits_rise a b h l = subst₂ (λ (x y : ℕ). x < y) (sym (bits_units a (le_trans (le_of_lt l) h))) (sym (bits_units b h)) (fields_order a b l)

-- higher bits are no lighter weight
pub bits_monotone : (a b : ℕ) → b ≤ weight_limit → a ≤ b → units_of (of_bits binary32 a) ≤ units_of (of_bits binary32 b)
bits_monotone a b h l =
    elim (eq-or-lt_of_le l) [ inl e ↦ le_of_eq (ap (λ (z : ℕ). units_of (of_bits binary32 z)) e) | inr m ↦ le_of_lt (bits_rise a b h m) ]

bits_fall : (a b : ℕ) → a ≤ weight_limit → units_of (of_bits binary32 a) < units_of (of_bits binary32 b) → a < b
bits_fall a b h l = lt_of_not-le (λ g. not-le_of_lt l (bits_monotone b a h g))

pub bits_order : (a b : ℕ) → a ≤ weight_limit → b ≤ weight_limit → lt (of_bits binary32 a) (of_bits binary32 b) ≡ ltb a b
bits_order a b h k =
    units_order (bits_weight a h) (bits_weight b k)
    ∙ ltb_same (units_of (of_bits binary32 a)) (units_of (of_bits binary32 b)) a b (bits_fall a b h) (bits_rise a b k)

-- ---- there and back
not_nan : {x : Float} → Weight x → T (not (is_nan x))
unfolding is_nan
not_nan infinite = tt
not_nan (finite (number f)) = tt

pub bits_not_nan : (b : ℕ) → b ≤ weight_limit → T (not (nan_bits binary32 b))
bits_not_nan b h = subst (λ (s : Bool). T (not s)) (sym (nan_bits_is binary32 b)) (not_nan (bits_weight b h))

pub bits_back : (b : ℕ) → b ≤ weight_limit → to_bits binary32 (of_bits binary32 b) ≡ b
bits_back b h = to_bits-of_bits binary32 b (lt_of_le_of_lt h (lit< tt)) (not_nan (bits_weight b h))

pub weight_back : {x : Float} → Weight x → of_bits binary32 (to_bits binary32 x) ≡ x
weight_back {x} p = of_bits-to_bits binary32 x (weight_fits p)

-- a weight's bits are at most infinity's
most : (k q : ℕ) → k ≤ 253 → q < 2 ^ 24 → 0 + k * 2 ^ 23 + q ≤ weight_limit
most k q h g = omega arith

spare : (z : ℕ) → z ≤ 277 → z - 24 ≤ 253
spare z h = omega arith

units_bits : (n : ℕ) → n < infinite_units → bits_of_units n ≤ weight_limit
unfolding bits_of_units
units_bits n h = most (size n - 24) (n / 2 ^ (size n - 24)) (spare (size n) (size-le n 277 h)) (kept-lt 24 n)

pub weight_bits : {x : Float} → Weight x → to_bits binary32 x ≤ weight_limit
weight_bits infinite = unfold to_bits in le_refl weight_limit
weight_bits {x} (finite f) = subst (λ (n : ℕ). n ≤ weight_limit) (sym (bits_from_units (finite f))) (units_bits (units_of x) (units_below f))

-- ---- values read from bits
pub value_weight : (limit bits : ℕ) → limit ≤ weight_limit → Weight (value_of limit bits)
unfolding value_of
value_weight limit bits h =
    cond_both Weight (leb bits limit) (of_bits binary32 bits) zero_weight (λ t. bits_weight bits (le_trans (leb→le bits limit t) h)) (λ _. finite zero_finite)

infinite_bits : of_bits binary32 weight_limit ≡ inf false
unfolding of_bits
infinite_bits = refl

pub value_finite : (limit bits : ℕ) → limit ≤ frequency_limit → Finite (value_of limit bits)
unfolding value_of
value_finite limit bits h =
    cond_both Finite (leb bits limit) (of_bits binary32 bits) zero_weight (λ t. below bits (le_trans (leb→le bits limit t) h)) (λ _. zero_finite)
  where
    below : (b : ℕ) → b ≤ frequency_limit → Finite (of_bits binary32 b)
    below b g =
        finite_of_units (bits_weight b (le_trans g (lit≤ tt)))
        (lt_of_lt_of_le (bits_rise b weight_limit (le_refl weight_limit) (lt_of_le_of_lt g (lit< tt))) (le_of_eq (ap units_of infinite_bits ∙ units_infinite)))

pub value_is : (limit bits : ℕ) → bits ≤ limit → value_of limit bits ≡ of_bits binary32 bits
unfolding value_of
value_is limit bits h = cond_true (of_bits binary32 bits) zero_weight (le-leb bits limit h)

pub value_beyond : (limit bits : ℕ) → limit < bits → value_of limit bits ≡ zero_weight
unfolding value_of
value_beyond limit bits h = cond_false (of_bits binary32 bits) zero_weight (lt-leb bits limit h)

-- values within a limit are in the order of their bits
pub value_order : (limit a b : ℕ) → limit ≤ weight_limit → a ≤ limit → b ≤ limit → lt (value_of limit a) (value_of limit b) ≡ ltb a b
value_order limit a b h p q =
    ap (λ (x : Float). lt x (value_of limit b)) (value_is limit a p) ∙ ap (lt (of_bits binary32 a)) (value_is limit b q)
    ∙ bits_order a b (le_trans p h) (le_trans q h)

-- no limit lies above the bits of infinity
pub limit_bound : (l : Limit) → limit_bits l ≤ weight_limit
limit_bound Limit·is.Weight = omega arith
limit_bound Limit·is.Frequency = omega arith
limit_bound Limit·is.Cost = omega arith

-- the value of bits, and zero where there is none
pub value_or_zero : (limit bits : ℕ) → unwrap_or (value_from limit bits) zero_weight ≡ value_of limit bits
unfolding value_from value_of
value_or_zero limit bits = go (leb bits limit)
  where
    go : (t : Bool) → unwrap_or (cond t (Some (of_bits binary32 bits)) None) zero_weight ≡ cond t (of_bits binary32 bits) zero_weight
    go true = refl
    go false = refl

-- the value of a weight's bits is the weight
pub value_back : {w : Float} → Weight w → value_of weight_limit (to_bits binary32 w) ≡ w
value_back {w} p = value_is weight_limit (to_bits binary32 w) (weight_bits p) ∙ weight_back p

-- ---- what is no weight has bits too
-- a NaN's
pub nan_bits_lem : (x : Float) → x ≡ nan → 2143289344 ≡ to_bits binary32 x
unfolding to_bits
nan_bits_lem x e = ap (to_bits binary32) (sym e)

-- without its sign a value is a weight
pub fits_unsigned : (m : ℕ) (e : ℤ) → T (fits binary32 (fin true m e)) → T (fits binary32 (fin false m e))
unfolding fits
fits_unsigned zero e f = f
fits_unsigned (suc m) e f = f

-- whose bits are its own but for the sign's
pub bits_unsigned : (m : ℕ) (e : ℤ) → T (fits binary32 (fin true m e)) → to_bits binary32 (fin true m e) % 2 ^ 31 ≡ to_bits binary32 (fin false m e)
unfolding to_bits
bits_unsigned m e f =
    let k = size (m * up e * 2 ^ 149 / down e) - 24 in
    unsigned (k * 2 ^ 23) (m * up e * 2 ^ 149 / down e / 2 ^ k) (weight_bits (finite (number (fits_unsigned m e f))))
  where
    unsigned : (a b : ℕ) → 0 + a + b ≤ weight_limit → (2 ^ 31 + a + b) % 2 ^ 31 ≡ 0 + a + b
    unsigned a b h = omega arith

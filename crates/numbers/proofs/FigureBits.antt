-- The H figure from a weight's bits: the ceiling from exponent 150 on, and below that the digits times 1000, shifted
use mathlib.Core.Path.{◌≡◌, refl, sym, ap, ap₂, ◌∙◌}
use Prim.Native.Nat.{ℕ, zero, suc, ◌+◌, ◌-◌, ◌*◌, ◌/◌, ◌%◌, ◌^◌, ◌≤◌, ◌<◌, min, max, compare}
use native.Mathlib.Nat.{le_refl, le_trans, le_of_lt, lt_of_le_of_lt, not-suc-le-zero, le_of_suc-le-suc, mul-le-mul, mul_assoc, one-mul, zero-mul}
use native.Mathlib.Nat.{mod-le, div-le_self, le-div_iff_mul-le, mod-eq_of_lt}
use native.Mathlib.Omega.{arith}
use mathlib.Core.Bool.{true, false}
use lib.Dec.{T, lit≤, lit<}
use lib.Ieee.{Float, nan, inf, fin, binary32, fits, of_bits, to_bits}
use lib.Ieee.Nearest.{closest, closest_mono, closest_same, nearest-ge}
use lib.Pow.{pow-add, pow_pos, pow_mono}
use Rattle.numbers.specs.Weight.{number, finite, units_of, weight_limit, value_of}
use Rattle.numbers.specs.Figure.{ceiling, figure_of, figure}
use Rattle.numbers.proofs.Bits.{field_units, bits_units, value_is, value_beyond, value_back, weight_bits, fits_unsigned, bits_unsigned}

-- ---- a figure from the exponent and the digits of the bits
abbrev pub field_figure : ℕ → ℕ → ℕ
field_figure x t = figure_of (1000 * field_units x t) (2 ^ 149)

pub figure_bits : (b : ℕ) → b ≤ weight_limit → field_figure (b / 2 ^ 23) (b % 2 ^ 23) ≡ figure (value_of weight_limit b)
unfolding figure
figure_bits b h = sym (ap (λ (u : ℕ). figure_of (1000 * u) (2 ^ 149)) (ap units_of (value_is weight_limit b h) ∙ bits_units b h))

-- what is no weight counts as zero
pub figure_beyond : (b : ℕ) → weight_limit < b → 0 ≡ figure (value_of weight_limit b)
unfolding figure figure_of units_of
figure_beyond b h = sym (ap figure (value_beyond weight_limit b h))

-- equal fractions show the same figure
figure_same : (a b c d : ℕ) → 0 < b → 0 < d → a * d ≡ c * b → min a 1 ≡ min c 1 → figure_of a b ≡ figure_of c d
unfolding figure_of
figure_same a b c d p q e k = ap₂ (λ (x y : ℕ). min (max x y) ceiling) k (closest_same a b c d p q e)

-- ---- below 2 to the power 34, less than a half of 2 to the power 36 or more
pub figure_none : (n s : ℕ) → n ≡ 0 → 0 ≡ figure_of n (2 ^ s)
unfolding figure_of
figure_none n s e = sym (ap (λ (x : ℕ). figure_of x (2 ^ s)) e ∙ figure_same 0 (2 ^ s) 0 1 (pow_pos s) (lit< tt) (sym (zero-mul (2 ^ s))) refl)

one_of : (n h : ℕ) → 0 < n → h ≤ 0 → 1 ≡ min (max (min n 1) h) ceiling
one_of n h p l = omega arith

pub figure_least : (n s : ℕ) → 0 < n → n < 2 ^ 34 → 36 ≤ s → 1 ≡ figure_of n (2 ^ s)
unfolding figure_of
figure_least n s p l k =
    one_of n (closest n (2 ^ s)) p
    (closest_mono n (2 ^ s) (2 ^ 34) (2 ^ 36) (pow_pos s) (lit< tt) (mul-le-mul (le_of_lt l) (pow_mono k)))

-- ---- a smaller power of 2 is the shifted 1, and its figure is that of the nearest whole number
pub one_shifted : (s : ℕ) → s < 36 → 1 * 2 ^ s % 2 ^ 64 ≡ 2 ^ s
one_shifted s h = ap (λ (x : ℕ). x % 2 ^ 64) (one-mul (2 ^ s)) ∙ mod-eq_of_lt (lt_of_le_of_lt (pow_mono (le_of_lt h)) (lit< tt))

pub rest_fits : (n s : ℕ) → n < 2 ^ 34 → n % (1 * 2 ^ s % 2 ^ 64) * 2 < 2 ^ 64
rest_fits n s h = let l = mod-le n (1 * 2 ^ s % 2 ^ 64) in omega (arith, h, l)

pub whole_fits : (n s : ℕ) → n < 2 ^ 34 → n / (1 * 2 ^ s % 2 ^ 64) < 2 ^ 63
whole_fits n s h = let l = div-le_self n (1 * 2 ^ s % 2 ^ 64) in omega (arith, h, l)

pub figure_by : (n s h : ℕ) → s < 36 → h ≡ closest n (1 * 2 ^ s % 2 ^ 64) → figure_of n (2 ^ s) ≡ min (max (min n 1) h) ceiling
unfolding figure_of
figure_by n s h k e = ap (λ (x : ℕ). min (max (min n 1) x) ceiling) (sym (e ∙ ap (closest n) (one_shifted s k)))

-- ---- an exponent of 150 or more: the weight is 2 to the power 23 or more
full : (a q h : ℕ) → ceiling ≤ q → q ≤ h → ceiling ≡ min (max a h) ceiling
full a q h k l = omega arith

at_least : (t : ℕ) → 2 ^ 23 ≤ 2 ^ 23 + t
at_least t = omega arith

pub figure_full : (x t : ℕ) → 150 ≤ x → ceiling ≡ field_figure x t
unfolding figure_of
figure_full zero t h = absurd (not-suc-le-zero h)
figure_full (suc y) t h =
    let a = 1000 * ((2 ^ 23 + t) * 2 ^ y) in
    full (min a 1) (a / 2 ^ 149) (closest a (2 ^ 149))
    ((le-div_iff_mul-le (pow_pos 149)).1 (le_trans (lit≤ tt) (mul-le-mul (le_refl 1000) (mul-le-mul (at_least t) (pow_mono (le_of_suc-le-suc h))))))
    (nearest-ge (a / 2 ^ 149) (compare (a % 2 ^ 149 * 2) (2 ^ 149)))

-- ---- an exponent below that and not 0: the digits shifted by what the exponent leaves of 150
left_over : (y : ℕ) → suc y < 150 → 149 ≡ y + (150 - suc y)
left_over y h = omega arith

some_digits : (t : ℕ) → min (1000 * (2 ^ 23 + t)) 1 ≡ 1
some_digits t = omega arith

above_zero : (n : ℕ) → 0 < n → min (1000 * n) 1 ≡ 1
above_zero n h = omega arith

pub figure_shifted : (x t : ℕ) → 0 < x → x < 150 → figure_of (1000 * (2 ^ 23 + t)) (2 ^ (150 - x)) ≡ field_figure x t
figure_shifted zero t p h = absurd (not-suc-le-zero p)
figure_shifted (suc y) t p h =
    figure_same (1000 * (2 ^ 23 + t)) (2 ^ (150 - suc y)) (1000 * ((2 ^ 23 + t) * 2 ^ y)) (2 ^ 149) (pow_pos (150 - suc y)) (pow_pos 149)
    (ap (λ (z : ℕ). 1000 * (2 ^ 23 + t) * z) (ap (λ (z : ℕ). 2 ^ z) (left_over y h) ∙ pow-add 2 y (150 - suc y))
    ∙ sym (mul_assoc (1000 * (2 ^ 23 + t)) (2 ^ y) (2 ^ (150 - suc y)))
    ∙ ap (λ (z : ℕ). z * 2 ^ (150 - suc y)) (mul_assoc 1000 (2 ^ 23 + t) (2 ^ y)))
    (some_digits t ∙ sym (above_zero ((2 ^ 23 + t) * 2 ^ y) (le_trans (lit≤ tt) (mul-le-mul (at_least t) (pow_pos y)))))

-- ---- the figure of a value, from its bits without their sign
pub figure_unsigned : (w : Float) → T (fits binary32 w) → figure (value_of weight_limit (to_bits binary32 w % 2 ^ 31)) ≡ figure w
unfolding to_bits figure units_of value_of of_bits
figure_unsigned nan f = refl
figure_unsigned (inf true) f = refl
figure_unsigned (inf false) f = refl
figure_unsigned (fin true m e) f =
    ap (λ (b : ℕ). figure (value_of weight_limit b)) (bits_unsigned m e f) ∙ ap figure (value_back (finite (number (fits_unsigned m e f))))
figure_unsigned (fin false m e) f =
    let p = finite (number f) in
    ap (λ (b : ℕ). figure (value_of weight_limit b)) (mod-eq_of_lt (lt_of_le_of_lt (weight_bits p) (lit< tt))) ∙ ap figure (value_back p)

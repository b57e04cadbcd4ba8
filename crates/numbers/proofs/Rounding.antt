-- Rounding to binary32, in units: it gives a weight, keeps the order and leaves every weight alone, so a weight below the rounded value is below the exact one
use mathlib.Core.Path.{◌≡◌, refl, sym, ap, ◌∙◌, subst}
use mathlib.Core.Logic.{inl, inr}
use Prim.Native.Nat.{ℕ, zero, suc, ◌*◌, ◌/◌, ◌^◌, ◌≤◌, ◌<◌}
use native.Mathlib.Nat.{le_trans, le_of_eq, le_of_lt, lt_of_not-le, not-le_of_lt, lt_irrefl, mul-div_cancel}
use mathlib.Core.Bool.{Bool, true, false, not}
use lib.Dec.{T, ltb, eqb, ltb→lt, eqb→eq, nltb→le, not_T}
use lib.Pow.{pow_pos}
use lib.Ieee.{Float, nan, inf, fin, binary32, up, down, odd, units, round, fits, lt, le, eq}
use lib.Ieee.Fits.{and_l, down_pos, round-fits, round_is}
use lib.Ieee.Exact.{HasValue, round_exact}
use lib.Ieee.Order.{round_mono}
use Rattle.numbers.specs.Weight.{number, Weight, infinite, finite, infinite_units, units_of}
use Rattle.columns.proofs.Tests.{cond_both, or_T}
use Rattle.numbers.proofs.Units.{fits_holds, units_whole, units_below, units_order, units_lt}

-- ---- a rounded fraction is a weight
-- neither negative nor a NaN
abbrev pub plain : Float → Bool
plain nan = false
plain (inf s) = not s
plain (fin s m e) = not s

pub weight_of : (x : Float) → T (fits binary32 x) → T (plain x) → Weight x
weight_of nan f p = absurd p
weight_of (inf true) f p = absurd p
weight_of (inf false) f p = infinite
weight_of (fin true m e) f p = absurd p
weight_of (fin false m e) f p = finite (number f)

pub odd_plain : (d q k l : ℕ) → T (plain (odd d false q k l))
unfolding odd
odd_plain d zero k l = tt
odd_plain d (suc q) k l = tt

units_plain : (q k : ℕ) → T (plain (units binary32 false q k))
unfolding units
units_plain q k =
    cond_both (λ (x : Float). T (plain x)) (ltb (q * 2 ^ k) infinite_units) (odd 25 false q k 149) (inf false) (λ _. odd_plain 25 q k 149) (λ _. tt)

pub round_weight : (a c : ℕ) → Weight (round binary32 false a c)
round_weight a c =
    weight_of (round binary32 false a c) (round-fits binary32 false a c)
    (subst (λ (x : Float). T (plain x)) (sym (round_is binary32 false a c)) (units_plain _ _))

-- the units of a / c, rounded
unfoldable pub rounded : ℕ → ℕ → ℕ
rounded a c = units_of (round binary32 false a c)

-- ---- rounding keeps the order
-- weights that are equal are not in order
eq_no_lt : {x y : Float} → Weight x → Weight y → T (eq x y) → T (lt y x) → ⊥
unfolding eq lt
eq_no_lt infinite infinite h k = k
eq_no_lt infinite (finite (number g)) h k = h
eq_no_lt (finite (number f)) infinite h k = h
eq_no_lt (finite (number {m} {e} f)) (finite (number {m = n} {e = d} g)) h k =
    let a = m * up e * down d in
    let b = n * up d * down e in
    let z : a ≡ b = eqb→eq a b (and_l (eqb a b) true h) in
    lt_irrefl a (subst (λ (x : ℕ). x < a) (sym z) (ltb→lt b a k))

le_units : {x y : Float} → Weight x → Weight y → T (le x y) → units_of x ≤ units_of y
unfolding le
le_units {x} {y} p q h =
    elim ((or_T (lt x y) (eq x y)).0 h) [
      | inl a ↦ le_of_lt (units_lt p q a)
      | inr a ↦ nltb→le (units_of y) (units_of x) (subst (λ (t : Bool). T (not t)) (units_order q p) (not_T (lt y x) (eq_no_lt p q a)))
    ]

pub round_monotone : (a b c d : ℕ) → 0 < b → 0 < d → a * d ≤ c * b → rounded a b ≤ rounded c d
unfolding rounded
round_monotone a b c d B D h = le_units (round_weight a b) (round_weight c d) (round_mono binary32 a b c d B D h)

-- ---- rounding leaves a weight alone
pub value_units : (x : Float) (g : ℕ) → HasValue x false g (2 ^ 149) → units_of x ≡ g
unfolding units_of
value_units nan g h = absurd h
value_units (inf s) g h = absurd h
value_units (fin s m e) g h = ap (λ (z : ℕ). z / down e) h.1 ∙ mul-div_cancel g (down_pos e)

pub round_fixed : {w : Float} → Weight w → rounded (units_of w) (2 ^ 149) ≡ units_of w
unfolding rounded
round_fixed infinite = unfold units_of round in refl
round_fixed (finite (number {m} {e} f)) =
    let u = units_of (fin false m e) in
    let w = units_whole m e f in
    value_units (round binary32 false u (2 ^ 149)) u
    (round_exact binary32 false u (2 ^ 149) m w.0 (pow_pos 149) (fits_holds m e f).digits
    (subst (λ (z : ℕ). z < infinite_units) w.1 (units_below (number f))) (ap (λ (z : ℕ). z * 2 ^ 149) w.1))

-- ---- against a weight, rounding changes no order
-- what is at most a weight, exactly, is so when rounded
pub round_at_most : {w : Float} → Weight w → (a c : ℕ) → 0 < c → a * 2 ^ 149 ≤ units_of w * c → rounded a c ≤ units_of w
round_at_most {w} p a c C g = le_trans (round_monotone a c (units_of w) (2 ^ 149) C (pow_pos 149) g) (le_of_eq (round_fixed p))

-- and what is at least a weight
pub round_at_least : {w : Float} → Weight w → (a c : ℕ) → 0 < c → units_of w * c ≤ a * 2 ^ 149 → units_of w ≤ rounded a c
round_at_least {w} p a c C g = le_trans (le_of_eq (sym (round_fixed p))) (round_monotone (units_of w) (2 ^ 149) a c (pow_pos 149) C g)

-- so a weight below the rounded value is below the exact one
pub below_round : {w : Float} → Weight w → (a c : ℕ) → 0 < c → units_of w < rounded a c → units_of w * c < a * 2 ^ 149
below_round p a c C h = lt_of_not-le (λ g. not-le_of_lt h (round_at_most p a c C g))

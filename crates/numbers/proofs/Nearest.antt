-- A fraction to the nearest whole number, ties to even: by how twice the rest compares, how far it is from the fraction, and that it is the only one so near
use mathlib.Core.Path.{◌≡◌, refl, sym, ap, subst}
use mathlib.Core.Logic.{◌⊎◌, inl, inr}
use Prim.Native.Nat.{ℕ, zero, suc, ◌+◌, ◌*◌, ◌/◌, ◌%◌, ◌≤◌, ◌<◌, compare, Ordering}
use Prim.Native.Nat.compare
use native.Mathlib.Nat.{add-mul, suc-mul, one-mul, mul-le-mul_right, mod-lt, div-add-mod'}
use native.Mathlib.Omega.{arith}
use lib.Ieee.{nearest}
use lib.Ieee.Nearest.{closest}
use Rattle.columns.proofs.Firsts.{split}
use Rattle.numbers.specs.Figure.{apart}

-- ---- how twice a rest compares with what is one
abbrev Compares : ℕ → ℕ → Ordering → Type 0
Compares a b Ordering.lt = a < b
Compares a b Ordering.eq = a ≡ b
Compares a b Ordering.gt = b < a

compares : (a b : ℕ) → Compares a b (compare a b)
compares zero zero = subst (Compares 0 0) (sym compare.zero-zero) refl
compares zero (suc b) = subst (Compares 0 (suc b)) (sym (compare.zero-suc b)) (omega arith)
compares (suc a) zero = subst (Compares (suc a) 0) (sym (compare.suc-zero a)) (omega arith)
compares (suc a) (suc b) = subst (Compares (suc a) (suc b)) (sym (compare.suc-suc a b)) (next (compare a b) (compares a b))
  where
    next : (o : Ordering) → Compares a b o → Compares (suc a) (suc b) o
    next Ordering.lt h = omega (arith, h)
    next Ordering.eq h = ap suc h
    next Ordering.gt h = omega (arith, h)

-- two numbers compare in one way
compares_once : (a b : ℕ) (o p : Ordering) → Compares a b o → Compares a b p → o ≡ p
compares_once a b Ordering.lt Ordering.lt h k = refl
compares_once a b Ordering.eq Ordering.eq h k = refl
compares_once a b Ordering.gt Ordering.gt h k = refl
compares_once a b Ordering.lt Ordering.eq h k = absurd (omega (arith, h, k))
compares_once a b Ordering.lt Ordering.gt h k = absurd (omega (arith, h, k))
compares_once a b Ordering.eq Ordering.lt h k = absurd (omega (arith, h, k))
compares_once a b Ordering.eq Ordering.gt h k = absurd (omega (arith, h, k))
compares_once a b Ordering.gt Ordering.lt h k = absurd (omega (arith, h, k))
compares_once a b Ordering.gt Ordering.eq h k = absurd (omega (arith, h, k))

-- so how they compare says which whole number is the nearest
pub nearest_by : (w a b : ℕ) (o : Ordering) → Compares a b o → nearest w o ≡ nearest w (compare a b)
nearest_by w a b o h = ap (nearest w) (compares_once a b o (compare a b) h (compares a b))

-- ---- a fraction's nearest whole number is at most a half from it, and even where it is a half
abbrev pub Near : ℕ → ℕ → ℕ → Type 0
Near a b n = (2 * apart (n * b) a ≤ b) × (2 * apart (n * b) a ≡ b → n % 2 ≡ 0)

nearest_near : (q r b : ℕ) (o : Ordering) → Compares (r * 2) b o → r < b → Near (q * b + r) b (nearest q o)
nearest_near q r b Ordering.lt h l = (omega (arith, h), λ e. absurd (omega (arith, h, e)))
nearest_near q r b Ordering.gt h l =
    let s = suc-mul q b in
    (omega (arith, h, s, l), λ e. absurd (omega (arith, h, s, l, e)))
nearest_near q r b Ordering.eq h l =
    let s : (q + q % 2) * b ≡ q * b + q % 2 * b = add-mul q (q % 2) b in
    (go (q % 2) (omega arith) s, λ e. omega arith)
  where
    go : (m : ℕ) → m < 2 → (q + m) * b ≡ q * b + m * b → 2 * apart ((q + m) * b) (q * b + r) ≤ b
    go zero k s = omega (arith, h, s)
    go (suc zero) k s = let t = one-mul b in omega (arith, h, s, t)
    go (suc (suc m)) k s = absurd (omega (arith, k))

pub closest_near : (a b : ℕ) → 0 < b → Near a b (closest a b)
closest_near a b p =
    subst (λ (z : ℕ). Near z b (closest a b)) (div-add-mod' a b)
    (nearest_near (a / b) (a % b) b (compare (a % b * 2) b) (compares (a % b * 2) b) (mod-lt a p))

-- two whole numbers that are both at most a half away are the same: at a half both are even, and then one is not the next
pub near_once : (a one G H : ℕ) → 0 < one → Near a one G → Near a one H → G < H → ⊥
near_once a one G H o g h l = go (split (suc G) H)
  where
    go : (suc G < H) ⊎ (H ≤ suc G) → ⊥
    go (inl m) =
        let x = g.0 in
        let y = h.0 in
        let up = suc-mul G one in
        let more = suc-mul (suc G) one in
        let z = mul-le-mul_right one m in
        omega (arith, x, y, up, more, z, o)
    go (inr m) =
        let x = g.0 in
        let y = h.0 in
        let up = suc-mul G one in
        let z = mul-le-mul_right one l in
        let e = g.1 (omega (arith, x, y, up, z)) in
        let f = h.1 (omega (arith, x, y, up, z)) in
        omega (arith, l, m, e, f)

-- The heavier of two weights and the heaviest of a list: a weight, no lighter than any of them, one of them or zero, and the only such weight
use mathlib.Core.Path.{◌≡◌, refl, sym, ap, ◌∙◌, subst}
use mathlib.Core.Logic.{◌⊎◌, inl, inr}
use mathlib.Core.List.{List, [], ◌∷◌, ◌++◌}
use Prim.Native.Nat.{ℕ, ◌≤◌, ◌<◌, max, zero-le}
use native.Mathlib.Nat.{le_trans, le_of_eq, le_antisymm}
use native.Mathlib.Omega.{arith}
use mathlib.Core.Bool.{Bool, not}
use lib.Dec.{T, ltb→lt, nltb→le}
use lib.Ieee.{Float, lt}
use Rattle.numbers.specs.Weight.{Weight, finite, units_of, zero_weight, heavier, heaviest, Weights, Among}
use Rattle.columns.proofs.Tests.{cond_both}
use Rattle.columns.proofs.OneOf.{OneOf}
use Rattle.numbers.proofs.Units.{units_order, units_inj, zero_finite, zero_units}

-- ---- two weights
pub heavier_weight : {a b : Float} → Weight a → Weight b → Weight (heavier a b)
heavier_weight {a} {b} p q = cond_both Weight (lt a b) b a (λ _. q) (λ _. p)

pub heavier_units : {a b : Float} → Weight a → Weight b → units_of (heavier a b) ≡ max (units_of a) (units_of b)
heavier_units {a} {b} p q =
    cond_both (λ (x : Float). units_of x ≡ max (units_of a) (units_of b)) (lt a b) b a
    (λ t. second (units_of a) (units_of b) (ltb→lt (units_of a) (units_of b) (subst T (units_order p q) t)))
    (λ t. first (units_of a) (units_of b) (nltb→le (units_of a) (units_of b) (subst (λ (s : Bool). T (not s)) (units_order p q) t)))
  where
    second : (x y : ℕ) → x < y → y ≡ max x y
    second x y h = omega arith

    first : (x y : ℕ) → y ≤ x → x ≡ max x y
    first x y h = omega arith

-- one of the two
pub heavier_among : (a b : Float) → (heavier a b ≡ a) ⊎ (heavier a b ≡ b)
heavier_among a b = cond_both (λ (x : Float). (x ≡ a) ⊎ (x ≡ b)) (lt a b) b a (λ _. inr refl) (λ _. inl refl)

-- ---- a list of weights
pub heaviest_weight : (ws : List Float) → Weights ws → Weight (heaviest ws)
heaviest_weight [] p = finite zero_finite
heaviest_weight (w ∷ ws) p = heavier_weight (heaviest_weight ws p.1) p.0

-- a list has a weight if one of its items is that weight
pub among_one : (w : Float) → OneOf (Among w) (λ (v : Float). w ≡ v)
among_one w = record { none = λ a. a; next = λ v vs. (λ a. a, λ a. a) }

-- the heaviest is zero or one of them
pub heaviest_among : (ws : List Float) → (heaviest ws ≡ zero_weight) ⊎ Among (heaviest ws) ws
heaviest_among [] = inl refl
heaviest_among (w ∷ ws) =
    elim (heavier_among (heaviest ws) w) [
      | inl e ↦ elim (heaviest_among ws) [ inl f ↦ inl (e ∙ f) | inr f ↦ inr (inr (subst (λ (x : Float). Among x ws) (sym e) f)) ]
      | inr e ↦ inr (inl e)
    ]

-- no lighter than any of them
pub heaviest_above : (ws : List Float) → Weights ws → (w : Float) → Among w ws → units_of w ≤ units_of (heaviest ws)
heaviest_above [] p w a = absurd a
heaviest_above (v ∷ vs) p w a =
    let e = heavier_units (heaviest_weight vs p.1) p.0 in
    elim a [
      | inl q ↦ right (units_of w) (units_of (heaviest vs)) (units_of v) (units_of (heaviest (v ∷ vs))) (ap units_of q) e
      | inr q ↦ left (units_of w) (units_of (heaviest vs)) (units_of v) (units_of (heaviest (v ∷ vs))) (heaviest_above vs p.1 w q) e
    ]
  where
    right : (w h v r : ℕ) → w ≡ v → r ≡ max h v → w ≤ r
    right w h v r p q = omega arith

    left : (w h v r : ℕ) → w ≤ h → r ≡ max h v → w ≤ r
    left w h v r p q = omega arith

-- and no heavier than what none of them exceeds
pub heaviest_least : (ws : List Float) (n : ℕ) → ((w : Float) → Among w ws → units_of w ≤ n) → units_of (heaviest ws) ≤ n
heaviest_least ws n f =
    elim (heaviest_among ws) [ inl e ↦ le_trans (le_of_eq (ap units_of e ∙ zero_units)) zero-le | inr a ↦ f (heaviest ws) a ]

-- what stands among weights is one
pub among_weight : (ws : List Float) → Weights ws → (w : Float) → Among w ws → Weight w
among_weight [] p w a = absurd a
among_weight (v ∷ vs) p w a = elim a [ inl e ↦ subst Weight (sym e) p.0 | inr b ↦ among_weight vs p.1 w b ]

-- and the only weight that is both
pub heaviest_only : (ws : List Float) → Weights ws → (h : Float) → ((h ≡ zero_weight) ⊎ Among h ws) → ((w : Float) → Among w ws → units_of w ≤ units_of h)
    → h ≡ heaviest ws
heaviest_only ws p h a b =
    units_inj weight (heaviest_weight ws p) (le_antisymm upper (heaviest_least ws (units_of h) b))
  where
    weight : Weight h
    weight = elim a [ inl e ↦ subst Weight (sym e) (finite zero_finite) | inr m ↦ among_weight ws p h m ]

    upper : units_of h ≤ units_of (heaviest ws)
    upper = elim a [ inl e ↦ le_trans (le_of_eq (ap units_of e ∙ zero_units)) zero-le | inr m ↦ heaviest_above ws p h m ]

-- ---- two lists
pub weights_append : (xs ys : List Float) → Weights xs → Weights ys → Weights (xs ++ ys)
weights_append [] ys p q = q
weights_append (x ∷ xs) ys p q = (p.0, weights_append xs ys p.1 q)

pub heaviest_append : (xs ys : List Float) → Weights xs → Weights ys → heaviest (xs ++ ys) ≡ heavier (heaviest ys) (heaviest xs)
heaviest_append xs ys p q =
    units_inj (heaviest_weight (xs ++ ys) (weights_append xs ys p q)) (heavier_weight (heaviest_weight ys q) (heaviest_weight xs p))
    (go xs p ∙ sym (heavier_units (heaviest_weight ys q) (heaviest_weight xs p)))
  where
    regroup : (y x w r s : ℕ) → r ≡ max y x → s ≡ max x w → max r w ≡ max y s
    regroup y x w r s e f = omega arith

    nothing : (y z : ℕ) → z ≡ 0 → y ≡ max y z
    nothing y z e = omega arith

    go : (xs : List Float) → Weights xs → units_of (heaviest (xs ++ ys)) ≡ max (units_of (heaviest ys)) (units_of (heaviest xs))
    go [] p = nothing (units_of (heaviest ys)) (units_of zero_weight) zero_units
    go (x ∷ xs) p =
        heavier_units (heaviest_weight (xs ++ ys) (weights_append xs ys p.1 q)) p.0
        ∙ regroup (units_of (heaviest ys)) (units_of (heaviest xs)) (units_of x) (units_of (heaviest (xs ++ ys))) (units_of (heaviest (x ∷ xs))) (go xs p.1)
        (heavier_units (heaviest_weight xs p.1) p.0)

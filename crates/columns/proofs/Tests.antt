-- Tests as facts, and facts as tests
use mathlib.Core.Path.{◌≡◌, refl, sym}
use mathlib.Core.Logic.{◌⊎◌, inl, inr, ◌↔◌}
use mathlib.Core.Bool.{Bool, true, false, not, ◌&&◌, ◌||◌, cond, true≢false}
use Prim.Native.Nat.{ℕ, ◌<◌}
use native.Mathlib.Nat.{lt_trans}
use lib.Dec.{T, ltb, ltb→lt, lt→ltb, lit<}
use lib.Ieee.Fits.{and_l, and_r}

-- two tests that imply each other are equal
pub test_same : (a b : Bool) → (T a → T b) → (T b → T a) → a ≡ b
test_same true true f g = refl
test_same true false f g = absurd (f tt)
test_same false true f g = absurd (g tt)
test_same false false f g = refl

-- two comparisons that imply each other are equal
pub ltb_same : (a b x y : ℕ) → (a < b → x < y) → (x < y → a < b) → ltb a b ≡ ltb x y
ltb_same a b x y f g = test_same (ltb a b) (ltb x y) (λ t. lt→ltb x y (f (ltb→lt a b t))) (λ t. lt→ltb a b (g (ltb→lt x y t)))

-- one of two tests, and both
pub or_T : (a b : Bool) → T (a || b) ↔ (T a ⊎ T b)
or_T true b = (λ _. inl tt, λ _. tt)
or_T false true = (λ _. inr tt, λ _. tt)
or_T false false = (λ t. absurd t, λ t. elim t [ inl f ↦ f | inr f ↦ f ])

pub and_T : (a b : Bool) → T (a && b) ↔ (T a × T b)
and_T true b = (λ t. (tt, t), λ t. t.1)
and_T false b = (λ t. absurd t, λ t. t.0)

-- the four parts of a conjunction
pub and_four : (a b c d : Bool) → T (a && b && c && d) → T a × T b × T c × T d
and_four a b c d h =
    let abc = and_l (a && b && c) d h in
    let ab = and_l (a && b) c abc in
    (and_l a b ab, and_r a b ab, and_r (a && b) c abc, and_r (a && b && c) d h)

-- what holds of both choices holds of the choice; each may use the test's outcome
pub cond_both {ℓ} : {A : Type 0} (P : A → Type ℓ) (t : Bool) (x y : A) → (T t → P x) → (T (not t) → P y) → P (cond t x y)
cond_both P true x y f g = f tt
cond_both P false x y f g = g tt

pub cond_true : {A : Type 0} {t : Bool} (x y : A) → t ≡ true → cond t x y ≡ x
cond_true x y e = rw e

pub cond_false : {A : Type 0} {t : Bool} (x y : A) → t ≡ false → cond t x y ≡ y
cond_false x y e = rw e

-- asked by halves, or one after the other
pub halved : {A : Type 0} (two four : Bool) (x y z : A) → (T two → T four) → cond four (cond two x y) z ≡ cond two x (cond four y z)
halved true true x y z h = refl
halved true false x y z h = absurd (h tt)
halved false true x y z h = refl
halved false false x y z h = refl

pub two_four : (n : ℕ) → T (ltb n 2) → T (ltb n 4)
two_four n t = lt→ltb n 4 (lt_trans (ltb→lt n 2 t) (lit< tt))

-- "and" of two tests
pub and_left : (a b : Bool) → a ≡ false → (a && b) ≡ false
and_left true b e = absurd (true≢false e)
and_left false b e = refl

pub and_right : (a b : Bool) → b ≡ false → (a && b) ≡ false
and_right true b e = e
and_right false b e = refl

pub and_both : (a b : Bool) → a ≡ true → b ≡ true → (a && b) ≡ true
and_both true b p q = q
and_both false b p q = p

pub and_parts : (a b : Bool) → (a && b) ≡ true → (a ≡ true) × (b ≡ true)
and_parts true b p = (refl, p)
and_parts false b p = absurd (true≢false (sym p))

-- `prefers_left` goes by the frequencies, and on equal ones by the live instructions
use Rattle.std.proofs.Common.{◌≡◌, Bool, true, false, T, refl, arith}
use Rattle.std.specs.Float.{Float}
use Rattle.std.specs.Float.Ieee.{lt, eq}
use Rattle.std.proofs.lemmas.Float.{lt_irrefl, lt_trans, eq-not_lt, eq_flip, T_from_true}
use Rattle.growth.specs.Growth.{left_first}
use Rattle.growth.proofs.step.prefers_left.Goals as goal

refuted : (b : Bool) → (T b → ⊥) → b ≡ false
refuted true f = absurd (f tt)
refuted false f = refl

-- of two frequencies at most one is lower, and none if they are equal
lower_once : (x y : Float) → lt x y ≡ true → lt y x ≡ false
lower_once x y h = refuted (lt y x) (λ t. lt_irrefl x (lt_trans x y x (T_from_true (lt x y) h) t))

equal_none : (x y : Float) → eq x y ≡ true → lt y x ≡ false
equal_none x y h = refuted (lt y x) (eq-not_lt y x (eq_flip x y (T_from_true (eq x y) h)))

pub returns-in-Some-Less : goal.returns-in-Some-Less
unfolding left_first
returns-in-Some-Less c = grind (arith, lower_once)

pub returns-in_default : goal.returns-in_default
unfolding left_first
returns-in_default c = grind (arith, equal_none)

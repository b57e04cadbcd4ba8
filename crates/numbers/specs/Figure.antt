-- The H figure
use Rattle.std.specs.Prelude.{◌≡◌, ◌↔◌, ℕ, ◌+◌, ◌-◌, ◌*◌, ◌%◌, ◌^◌, ◌≤◌, ◌<◌, min, max, Float}
use Rattle.std.specs.Float.Ieee.Nearest.{closest}
use Rattle.numbers.specs.Weight.{units_of}

-- the H figure's ceiling
abbrev pub ceiling : ℕ
ceiling = 999999999

-- a / b as H shows it: to the nearest whole number, ties to even; 1 at least where it is above zero; the ceiling at most
unfoldable pub figure_of : ℕ → ℕ → ℕ
figure_of a b = min (max (min a 1) (closest a b)) ceiling

-- H: the weight times 1000 so shown, from its units of 2 to the power -149
unfoldable pub figure : Float → ℕ
unfolding figure_of
figure weight = figure_of (1000 * units_of weight) (2 ^ 149)

-- how far apart two whole numbers are
abbrev pub apart : ℕ → ℕ → ℕ
apart a b = (a - b) + (b - a)

-- a slight weight: above zero and below half a thousandth, in units of 2 to the power -149
abbrev pub Slight : ℕ → Type 0
Slight w = (0 < w) × (2000 * w < 2 ^ 149)

-- What an H figure tells of a weight of w units of 2 to the power -149. With a thousandth of 2 ^ 149 parts, the figure is H × 2 ^ 149 parts, and
-- the weight 1000 × w of them
pub record Tells (w H : ℕ) : Type 0 where
  -- it is at most a half from the true value, but of a slight weight and at the ceiling
  pub near : (Slight w → ⊥) → H < ceiling → 2 * apart (H * 2 ^ 149) (1000 * w) ≤ 2 ^ 149
  -- at a half it is even
  pub even : H < ceiling → 2 * apart (H * 2 ^ 149) (1000 * w) ≡ 2 ^ 149 → H % 2 ≡ 0
  -- of a slight weight it is 1
  pub slight : Slight w → H ≡ 1
  -- the ceiling stands for what rounds to it or above
  pub most : H ≤ ceiling
  pub full : (H ≡ ceiling) ↔ ((2 * ceiling - 1) * 2 ^ 149 < 2000 * w)
  -- it is 0 exactly if the weight is
  pub zero : (H ≡ 0) ↔ (w ≡ 0)

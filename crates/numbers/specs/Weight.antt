-- Weights: the binary32 values that are neither negative nor a NaN
use Rattle.std.specs.Prelude.{ℕ, ◌*◌, ◌/◌, ◌^◌, ◌≡◌, ◌⊎◌, false, cond, List, [], ◌∷◌, ℤ, pos, T, leb, Option, Some, None, Float}
use Rattle.std.specs.Float.{nan, inf, fin, binary32}
use Rattle.std.specs.Float.Ieee.{fits, up, down, lt, of_bits}
use Rattle.numbers.specs.declared.weights.Limit.{Limit}
use Rattle.numbers.specs.declared.weights.Limit.TheVariants as Limit·is

-- a finite weight
pub data Finite : Float → Type 0 where
  number : {m : ℕ} {e : ℤ} → T (fits binary32 (fin false m e)) → Finite (fin false m e)

-- a weight: finite or infinite
pub data Weight : Float → Type 0 where
  infinite : Weight (inf false)
  finite : {x : Float} → Finite x → Weight x

-- what an infinity counts in units: more than every finite weight has
abbrev pub infinite_units : ℕ
infinite_units = 2 ^ 277

-- a weight in units of 2 to the power -149, the smallest weight above zero
unfoldable pub units_of : Float → ℕ
units_of nan = 0
units_of (inf s) = infinite_units
units_of (fin s m e) = m * up e * 2 ^ 149 / down e

-- zero, the weight of nothing
abbrev pub zero_weight : Float
zero_weight = fin false 0 (pos 0)

-- the bits of infinity, of the largest frequency and of 65536.0
abbrev pub weight_limit : ℕ
weight_limit = 2139095040

abbrev pub frequency_limit : ℕ
frequency_limit = 2139095039

abbrev pub cost_limit : ℕ
cost_limit = 1199570944

-- the limit of a kind of value
abbrev pub limit_bits : Limit → ℕ
limit_bits Limit·is.Weight = weight_limit
limit_bits Limit·is.Frequency = frequency_limit
limit_bits Limit·is.Cost = cost_limit

-- the value of bits up to a limit, none above it
unfoldable pub value_from : ℕ → ℕ → Option Float
value_from limit bits = cond (leb bits limit) (Some (of_bits binary32 bits)) None

-- the value of bits up to a limit, and zero above it, which no accepted job has
unfoldable pub value_of : ℕ → ℕ → Float
value_of limit bits = cond (leb bits limit) (of_bits binary32 bits) zero_weight

-- the heavier of two weights
abbrev pub heavier : Float → Float → Float
heavier a b = cond (lt a b) b a

-- the heaviest of a list of weights, zero if there is none
abbrev pub heaviest : List Float → Float
heaviest [] = zero_weight
heaviest (w ∷ ws) = heavier (heaviest ws) w

-- each of a list is a weight
abbrev pub Weights : List Float → Type 0
Weights [] = Unit {0}
Weights (w ∷ ws) = Weight w × Weights ws

-- a weight stands in a list
abbrev pub Among : Float → List Float → Type 0
Among w [] = ⊥
Among w (v ∷ vs) = (w ≡ v) ⊎ Among w vs

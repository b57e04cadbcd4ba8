-- Chains of weights: each after the first passes the weight test over the one before
use Rattle.std.specs.Prelude.{ℕ, List, [], ◌∷◌, T, Float}
use Rattle.numbers.specs.Weight.{Finite}
use Rattle.numbers.specs.Normal.{exceeds}

-- a chain at a numerator that begins after weight w
abbrev pub ChainFrom : ℕ → Float → List Float → Type 0
ChainFrom numerator w [] = Unit {0}
ChainFrom numerator w (v ∷ vs) = Finite v × T (exceeds numerator v w) × ChainFrom numerator v vs

-- a chain at a numerator
abbrev pub Chain : ℕ → List Float → Type 0
Chain numerator [] = Unit {0}
Chain numerator (w ∷ ws) = Finite w × ChainFrom numerator w ws

-- no chain above zero has more members, at numerators up to 2007
abbrev pub longest : ℕ
longest = 9495

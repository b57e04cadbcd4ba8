-- The normalised weight and the weight test
use Rattle.std.specs.Prelude.{ℕ, ◌+◌, Bool, false, cond, pos, Float}
use Rattle.std.specs.Float.{fin, binary32}
use Rattle.std.specs.Float.Ieee.{round, div, mul, lt, of_int}

-- the largest finite f32
abbrev pub largest : Float
largest = fin false 16777215 (pos 104)

-- normalised weight: weight / (instructions + k), at most the largest finite f32
unfoldable pub normalised : Float → ℕ → ℕ → Float
normalised weight insts k =
    let quotient = div binary32 weight (of_int binary32 (pos (insts + k))) in
    cond (lt largest quotient) largest quotient

-- numerator / 2048
unfoldable pub fraction : ℕ → Float
fraction numerator = round binary32 false numerator 2048

-- weight test: the weight times numerator / 2048, rounded once, strictly exceeds the heaviest weight met
unfoldable pub exceeds : ℕ → Float → Float → Bool
exceeds numerator weight heaviest = lt heaviest (mul binary32 weight (fraction numerator))

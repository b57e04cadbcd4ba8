-- Sums of weights, added one after the other
use Rattle.std.specs.Prelude.{List, [], ◌∷◌, Float}
use Rattle.std.specs.Float.{binary32}
use Rattle.std.specs.Float.Ieee.{add}
use Rattle.numbers.specs.Weight.{zero_weight}

-- weights added to a weight, one after the other
unfoldable pub plus : Float → List Float → Float
plus w [] = w
plus w (v ∷ vs) = plus (add binary32 w v) vs

-- weights added in their order
abbrev pub total : List Float → Float
total [] = zero_weight
total (w ∷ ws) = plus w ws

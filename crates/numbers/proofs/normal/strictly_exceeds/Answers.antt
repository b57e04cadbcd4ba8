-- `strictly_exceeds` is its definition: the constant's bits are those of 2007 / 2048
use mathlib.Core.Path.{refl}
use lib.Ieee.{of_bits, round}
use Rattle.numbers.specs.Normal.{exceeds, fraction}
use Rattle.numbers.proofs.normal.strictly_exceeds.Goals as goal

pub returns : goal.returns
unfolding exceeds fraction of_bits round
returns c = refl

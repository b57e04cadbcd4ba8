-- `value_of` is zero exactly where there is no value
use mathlib.Core.Path.{ap, ◌∙◌}
use Rattle.std.specs.Prelude.{Option, Float, unwrap_or}
use lib.Ieee.{of_bits}
use Rattle.numbers.specs.Weight.{limit_bits, zero_weight}
use Rattle.numbers.proofs.Bits.{value_or_zero}
use Rattle.numbers.proofs.weights.Limit.value_of.Goals as goal

pub returns : goal.returns
unfolding of_bits
returns c =
    c.unwrap_or.ensures ∙ ap (λ (x : Option Float). unwrap_or x zero_weight) c.value_from_bits.ensures ∙ value_or_zero (limit_bits c.args.self) c.args.bits

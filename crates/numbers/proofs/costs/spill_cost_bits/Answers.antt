-- `spill_cost_bits` picks what its definition picks by the same tests
use lib.Ieee.{sub, of_bits, to_bits, is_nan}
use Rattle.numbers.specs.Cost.{cost_bits}
use Rattle.numbers.proofs.costs.spill_cost_bits.Goals as goal

pub float_to_bits-tied : goal.float_to_bits-tied
unfolding sub of_bits is_nan
float_to_bits-tied c = tt

pub returns : goal.returns
unfolding cost_bits to_bits sub of_bits
returns c = cc

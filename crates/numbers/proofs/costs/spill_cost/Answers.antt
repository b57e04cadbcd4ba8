-- `spill_cost` is the value of the bits that were picked
use mathlib.Core.Path.{ap, ◌∙◌}
use Rattle.numbers.specs.Weight.{cost_limit, value_of}
use Rattle.numbers.proofs.UseCosts.{bits_cost}
use Rattle.numbers.proofs.costs.spill_cost.Goals as goal

pub returns : goal.returns
returns c =
    c.value_of.ensures ∙ ap (value_of cost_limit) c.spill_cost_bits.ensures
    ∙ bits_cost c.args.kind c.args.cost

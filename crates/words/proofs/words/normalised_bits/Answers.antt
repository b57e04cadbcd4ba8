-- `normalised_bits` answers the bits of the weight's normalised weight
use mathlib.Core.Path.{ap, ◌∙◌}
use lib.Ieee.{Float, binary32, to_bits}
use Rattle.numbers.specs.Normal.{normalised}
use Rattle.words.proofs.words.normalised_bits.Goals as goal

pub returns : goal.returns
returns c =
    let args = c.args in
    c.bits_of.ensures ∙ ap (to_bits binary32) (c.normalize_spill_weight.ensures
    ∙ ap (λ (w : Float). normalised w args.live_insts args.k) c.value_of.ensures)

-- `thousandths_of` is the figure of the normalised weight, whose use weight is that of its own bits
use mathlib.Core.Path.{sym, ap, ◌∙◌}
use lib.Ieee.{Float, binary32}
use lib.Ieee.Bits.{of_bits-to_bits}
use denote.Floats.{passes}
use Rattle.numbers.specs.Normal.{normalised}
use Rattle.numbers.specs.Figure.{figure}
use Rattle.figures.proofs.figures.thousandths_of.Goals as goal

pub returns : goal.returns
returns c =
    let a = c.args in
    c.h_figure.ensures
    ∙ ap figure (c.normalize_spill_weight.ensures
    ∙ ap (λ (w : Float). normalised w a.live_insts a.k)
    (sym (of_bits-to_bits binary32 a.use_weight (passes _ c.well_formed.0.1))))

-- `h_figure` is the figure of the weight: its bits without their sign show it
use mathlib.Core.Path.{ap, ◌∙◌}
use Prim.Native.Nat.{ℕ, ◌%◌, ◌^◌}
use denote.Floats.{passes}
use Rattle.numbers.specs.Weight.{weight_limit, value_of}
use Rattle.numbers.specs.Figure.{figure}
use Rattle.numbers.proofs.FigureBits.{figure_unsigned}
use Rattle.numbers.proofs.normal.h_figure.Goals as goal

pub returns : goal.returns
returns c =
    c.figure_of_bits.ensures
    ∙ ap (λ (b : ℕ). figure (value_of weight_limit (b % 2 ^ 31))) c.bits_of.ensures
    ∙ figure_unsigned c.args.weight (passes _ c.well_formed.0.1)

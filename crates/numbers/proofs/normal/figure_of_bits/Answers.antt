-- `figure_of_bits` is the figure of the bits' value: each arm is one law of `Figure`, over the exponent and the digits of the bits
use mathlib.Core.Path.{sym, ap, ◌∙◌}
use Prim.Native.Nat.{ℕ, ◌/◌, ◌%◌, ◌^◌}
use native.Mathlib.Omega.{arith}
use Rattle.numbers.proofs.FigureBits.{field_figure, figure_bits, figure_beyond, figure_full, figure_shifted}
use Rattle.numbers.proofs.normal.figure_of_bits.Goals as goal

pub returns-then-bits-gt-WEIGHT_LIMIT : goal.returns-then-bits-gt-WEIGHT_LIMIT
returns-then-bits-gt-WEIGHT_LIMIT c = figure_beyond c.args.bits c.if-bits-gt-WEIGHT_LIMIT.true

pub returns-then-exponent-ge150 : goal.returns-then-exponent-ge150
returns-then-exponent-ge150 c =
    let b = c.args.bits in
    figure_full (b / 2 ^ 23) (b % 2 ^ 23) c.if-exponent-ge150.true ∙ figure_bits b c.if-bits-gt-WEIGHT_LIMIT.false

pub returns-then-exponent-eq0 : goal.returns-then-exponent-eq0
returns-then-exponent-eq0 c =
    let b = c.args.bits in
    c.figure_of.ensures ∙ ap (λ (x : ℕ). field_figure x (b % 2 ^ 23)) (sym c.if-exponent-eq0.true) ∙ figure_bits b c.if-bits-gt-WEIGHT_LIMIT.false

pub returns : goal.returns
returns c =
    let b = c.args.bits in
    c.figure_of-2.ensures ∙ figure_shifted (b / 2 ^ 23) (b % 2 ^ 23) (omega arith) (omega arith) ∙ figure_bits b c.if-bits-gt-WEIGHT_LIMIT.false

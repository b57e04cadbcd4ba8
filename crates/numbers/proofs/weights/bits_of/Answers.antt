-- `bits_of` answers the bits of what is no NaN, and one pattern for a NaN, which alone differs from itself
use mathlib.Core.Path.{◌≡◌, sym, ◌∙◌}
use mathlib.Core.Bool.{false, not, true≢false}
use lib.Dec.{T}
use lib.Ieee.{Float, nan, inf, fin, ne, is_nan}
use lib.Ieee.Compare.{differs_from_itself, nan_differs}
use denote.Floats.{passes}
use Rattle.numbers.proofs.Bits.{nan_bits_lem}
use Rattle.numbers.proofs.weights.bits_of.Goals as goal

not_nan : (x : Float) → ne x x ≡ false → T (not (is_nan x))
unfolding is_nan
not_nan nan e = absurd (true≢false (sym nan_differs ∙ e))
not_nan (inf s) e = tt
not_nan (fin s m e) h = tt

pub returns-then-w : goal.returns-then-w
returns-then-w c = nan_bits_lem c.args.w (differs_from_itself c.args.w (passes _ c.if-w.true))

pub float_to_bits-result : goal.float_to_bits-result
float_to_bits-result c = not_nan c.args.w c.if-w.false

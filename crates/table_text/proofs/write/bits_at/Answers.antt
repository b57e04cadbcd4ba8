-- `bits_at` answers the weight's bits, or 0 past the end
use mathlib.Core.Path.{◌≡◌, refl, sym, ap, ◌∙◌}
use lib.Ieee.{binary32, to_bits}
use lib.ListN.{get_or-eq_default}
use Rattle.numbers.specs.Weight.{zero_weight}
use Rattle.table_text.proofs.write.bits_at.Goals as goal

-- zero's bits
zero_bits : 0 ≡ to_bits binary32 zero_weight
unfolding to_bits
zero_bits = refl

pub returns : goal.returns
returns c = zero_bits ∙ ap (to_bits binary32) (sym (get_or-eq_default c.args.column.now zero_weight c.if-i-column.false))

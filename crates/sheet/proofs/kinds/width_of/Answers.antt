-- `kinds::width_of` meets its contract.
-- Assumes nothing.
use native.Mathlib.Omega.{arith}
use Rattle.sheet.specs.Kinds.{width}
use Rattle.sheet.proofs.KindLaws.{fields_few}
use Rattle.sheet.proofs.kinds.width_of.Goals as goal

pub overflow_mul-result : goal.overflow_mul-result
overflow_mul-result c = omega (arith, c.fields_of.ensures, fields_few c.args.k)

pub overflow_add-result : goal.overflow_add-result
overflow_add-result c = omega (arith, c.fields_of.ensures, fields_few c.args.k)

pub returns : goal.returns
unfolding width
returns c = omega (arith, c.fields_of.ensures)

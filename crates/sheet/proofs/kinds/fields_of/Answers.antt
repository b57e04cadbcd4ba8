-- `kinds::fields_of` meets its contract.
-- Assumes nothing.
use mathlib.Core.Path.{ap}
use Rattle.sheet.specs.declared.kinds.Kind.{Kind}
use Rattle.sheet.specs.Kinds.{fields}
use Rattle.sheet.proofs.kinds.fields_of.Goals as goal

pub returns : goal.returns
unfolding fields
returns c = ap (λ (x : Kind). x.fields) c.kind_at.ensures

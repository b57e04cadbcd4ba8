-- `kinds::limit_of` meets its contract.
-- Assumes nothing.
use mathlib.Core.Path.{ap}
use Rattle.sheet.specs.declared.kinds.Kind.{Kind}
use Rattle.sheet.specs.Kinds.{limit}
use Rattle.sheet.proofs.kinds.limit_of.Goals as goal

pub returns : goal.returns
unfolding limit
returns c = ap (λ (x : Kind). x.limit) c.kind_at.ensures

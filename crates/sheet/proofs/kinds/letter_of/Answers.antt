-- `kinds::letter_of` meets its contract.
-- Assumes nothing.
use mathlib.Core.Path.{ap}
use Rattle.sheet.specs.declared.kinds.Kind.{Kind}
use Rattle.sheet.specs.Kinds.{letter}
use Rattle.sheet.proofs.kinds.letter_of.Goals as goal

pub returns : goal.returns
unfolding letter
returns c = ap (λ (x : Kind). x.letter) c.kind_at.ensures

-- `kinds::cells_needed` meets its contract: the constant is what the table comes to.
-- Assumes nothing.
use mathlib.Core.Path.{refl}
use Rattle.sheet.specs.Kinds.{kind_at, fields, limit, base, cell_count}
use Rattle.sheet.proofs.kinds.cells_needed.Goals as goal

pub returns : goal.returns
unfolding cell_count base fields limit kind_at
returns c = refl

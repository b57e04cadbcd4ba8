-- `fill::base_of` meets its contract. The invariant: the sum is the start of the cells of the next kind.
-- Assumes nothing.
use mathlib.Core.Path.{◌≡◌}
use Rattle.sheet.specs.Kinds.{base}
use Rattle.sheet.proofs.fill.base_of.Given as goal

abbrev pub invariant-loop-j : goal.invariant-loop-j
invariant-loop-j l = l.at ≡ base l.j

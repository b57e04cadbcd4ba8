-- `fill::fill_all` meets its contract. The invariant: the kinds left, stored into the cells as they are, give the whole sheet.
-- Assumes nothing.
use Rattle.sheet.proofs.FillLaws.{Left}
use Rattle.sheet.proofs.fill.fill_all.Given as goal

abbrev pub invariant-loop-k : goal.invariant-loop-k
invariant-loop-k l = Left l.text l.initial.cells l.cells l.at l.k

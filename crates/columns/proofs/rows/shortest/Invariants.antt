-- `shortest`: the rows so far and the lengths to come are as short as all
use Rattle.std.proofs.Common.{◌≡◌, ◌∷◌, drop}
use Rattle.columns.specs.Table.{shortest}
use Rattle.columns.proofs.rows.shortest.Given as goal

abbrev pub invariant-loop-n : goal.invariant-loop-n
invariant-loop-n l = shortest (l.rows ∷ drop l.n-index l.rest) ≡ shortest l.lengths

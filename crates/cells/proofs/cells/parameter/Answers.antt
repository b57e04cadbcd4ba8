-- `cells::parameter` meets its contract: there is one line P
use native.Mathlib.Omega.{arith}
use mathlib.Core.Path.{ap}
use lib.ListN.{length}
use Rattle.cells.proofs.CellColumns.{column_long}
use Rattle.cells.proofs.cells.parameter.Goals as goal

pub bounds-p-0 : goal.bounds-p-0
bounds-p-0 c = omega (arith, ap length c.column-p.ensures, column_long c.requires.0 c.requires.1, c.requires.0.one)

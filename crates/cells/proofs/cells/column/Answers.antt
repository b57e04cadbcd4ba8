-- `cells::column` meets its contract: a column that a kind has lies inside the cells
use native.Mathlib.Omega.{arith}
use mathlib.Core.Path.{refl}
use Rattle.cells.proofs.CellColumns.{column_inside, column_part}
use Rattle.cells.proofs.cells.column.Goals as goal

pub overflow_add-to : goal.overflow_add-to
overflow_add-to c = omega (arith, column_inside c.requires.0 c.requires.1, c.column_of-from.ensures.0)

pub slice_bounds-result-end : goal.slice_bounds-result-end
slice_bounds-result-end c = omega (arith, column_inside c.requires.0 c.requires.1, c.column_of-from.ensures.0)

pub returns : goal.returns
returns c = column_part c.requires.0 c.requires.1 c.column_of-from.result _ c.column_of-from.ensures.0 refl

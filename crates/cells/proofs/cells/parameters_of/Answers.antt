-- `cells::parameters_of` meets its contract, number by number
use mathlib.Core.Path.{refl}
use Rattle.cells.proofs.CellColumns.{is_column}
use Rattle.cells.proofs.cells.parameters_of.Goals as goal

pub parameter-requires : goal.parameter-requires
parameter-requires c = (c.requires, is_column _ _ refl refl)

pub parameter-requires-2 : goal.parameter-requires-2
parameter-requires-2 c = (c.requires, is_column _ _ refl refl)

pub parameter-requires-3 : goal.parameter-requires-3
parameter-requires-3 c = (c.requires, is_column _ _ refl refl)

pub parameter-requires-4 : goal.parameter-requires-4
parameter-requires-4 c = (c.requires, is_column _ _ refl refl)

pub parameter-requires-5 : goal.parameter-requires-5
parameter-requires-5 c = (c.requires, is_column _ _ refl refl)

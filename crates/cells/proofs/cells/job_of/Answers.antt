-- `job_of` lends the columns that stand in the cells
use mathlib.Core.Path.{refl}
use Rattle.cells.proofs.CellColumns.{is_column}
use Rattle.cells.proofs.cells.job_of.Goals as goal

pub column-requires : goal.column-requires
column-requires c = (c.requires, is_column _ _ refl refl)

pub column-requires-2 : goal.column-requires-2
column-requires-2 c = (c.requires, is_column _ _ refl refl)

pub column-requires-3 : goal.column-requires-3
column-requires-3 c = (c.requires, is_column _ _ refl refl)

pub column-requires-4 : goal.column-requires-4
column-requires-4 c = (c.requires, is_column _ _ refl refl)

pub column-requires-5 : goal.column-requires-5
column-requires-5 c = (c.requires, is_column _ _ refl refl)

pub column-requires-6 : goal.column-requires-6
column-requires-6 c = (c.requires, is_column _ _ refl refl)

pub column-requires-7 : goal.column-requires-7
column-requires-7 c = (c.requires, is_column _ _ refl refl)

pub column-requires-8 : goal.column-requires-8
column-requires-8 c = (c.requires, is_column _ _ refl refl)

pub column-requires-9 : goal.column-requires-9
column-requires-9 c = (c.requires, is_column _ _ refl refl)

pub column-requires-10 : goal.column-requires-10
column-requires-10 c = (c.requires, is_column _ _ refl refl)

pub column-requires-11 : goal.column-requires-11
column-requires-11 c = (c.requires, is_column _ _ refl refl)

pub column-requires-12 : goal.column-requires-12
column-requires-12 c = (c.requires, is_column _ _ refl refl)

pub column-requires-13 : goal.column-requires-13
column-requires-13 c = (c.requires, is_column _ _ refl refl)

pub column-requires-14 : goal.column-requires-14
column-requires-14 c = (c.requires, is_column _ _ refl refl)

pub column-requires-15 : goal.column-requires-15
column-requires-15 c = (c.requires, is_column _ _ refl refl)

pub column-requires-16 : goal.column-requires-16
column-requires-16 c = (c.requires, is_column _ _ refl refl)

pub column-requires-17 : goal.column-requires-17
column-requires-17 c = (c.requires, is_column _ _ refl refl)

pub column-requires-18 : goal.column-requires-18
column-requires-18 c = (c.requires, is_column _ _ refl refl)

pub column-requires-19 : goal.column-requires-19
column-requires-19 c = (c.requires, is_column _ _ refl refl)

pub column-requires-20 : goal.column-requires-20
column-requires-20 c = (c.requires, is_column _ _ refl refl)

pub column-requires-21 : goal.column-requires-21
column-requires-21 c = (c.requires, is_column _ _ refl refl)

pub column-requires-22 : goal.column-requires-22
column-requires-22 c = (c.requires, is_column _ _ refl refl)

pub column-requires-23 : goal.column-requires-23
column-requires-23 c = (c.requires, is_column _ _ refl refl)

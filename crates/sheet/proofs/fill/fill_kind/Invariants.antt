-- `fill::fill_kind` meets its contract. The invariant: the columns left, stored into the cells as they are, give what all give.
-- Assumes nothing.
use Prim.Native.Nat.{◌-◌}
use mathlib.Core.Path.{◌≡◌}
use lib.ListN.{drop}
use Rattle.sheet.specs.Kinds.{fields}
use Rattle.sheet.specs.Lines.{rows_of}
use Rattle.sheet.specs.Cells.{stored_columns}
use Rattle.sheet.proofs.FillLaws.{Entries}
use Rattle.sheet.proofs.fill.fill_kind.Given as goal

abbrev pub invariant-loop-c : goal.invariant-loop-c
invariant-loop-c l =
    let rows = rows_of l.k l.count (drop l.at l.text) in
    Entries l.k l.n l.w l.most l.base × (stored_columns l.k rows l.c (fields l.k - l.c) l.cells ≡ stored_columns l.k rows 0 (fields l.k) l.initial.cells)

-- `fill::fill_column` meets its contract. The invariant: the cells stored, and the fields left behind them, give what all give.
-- Assumes nothing.
use Prim.Native.Nat.{◌-◌}
use mathlib.Core.Path.{◌≡◌}
use mathlib.Core.List.{◌++◌}
use lib.ListN.{length, take}
use Rattle.sheet.specs.Lines.{Readable, fields_at}
use Rattle.sheet.proofs.fill.fill_column.Given as goal

abbrev pub invariant-loop-cell : goal.invariant-loop-cell
invariant-loop-cell l =
    let n = length l.initial.column in
    let i = l.cell-index in
    Readable l.text l.p l.step (n - i) × (take i l.column ++ fields_at l.text l.p l.step (n - i) ≡ fields_at l.text l.from l.step n)

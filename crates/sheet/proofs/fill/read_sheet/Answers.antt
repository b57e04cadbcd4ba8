-- `fill::read_sheet` meets its contract, answer by answer.
-- Assumes nothing.
use native.Mathlib.Omega.{arith}
use Prim.Native.Nat.{◌≤◌}
use lib.ListN.{length}
use Rattle.sheet.specs.Kinds.{cell_count}
use Rattle.sheet.proofs.ReadLaws.{read_short, read_stored, read_refused}
use Rattle.sheet.proofs.fill.read_sheet.Goals as goal

pub returns-then-cells-cells_needed : goal.returns-then-cells-cells_needed
returns-then-cells-cells_needed c =
    let a = c.args in
    read_short a.text.now a.cells.now (omega (arith, c.cells_needed.ensures, c.if-cells-cells_needed.true))

pub returns-in_err-counts : goal.returns-in_err-counts
returns-in_err-counts c =
    let room : cell_count ≤ length c.args.cells.now = omega (arith, c.if-cells-cells_needed.false, c.cells_needed.ensures) in
    read_refused c.args.text.now c.args.cells.now room _ _ c.from_residual.ensures.1 c.in_err-counts.ensures

pub returns : goal.returns
returns c =
    let room : cell_count ≤ length c.args.cells.now = omega (arith, c.if-cells-cells_needed.false, c.cells_needed.ensures) in
    read_stored c.args.text.now c.args.cells.now room _ _ c.in_ok-counts.ensures c.fill_all.ensures

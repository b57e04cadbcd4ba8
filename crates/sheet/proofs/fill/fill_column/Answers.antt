-- `fill::fill_column` meets its contract. The invariant: the cells stored, and the fields left behind them, give what all give.
-- Assumes nothing.
use native.Mathlib.Omega.{arith}
use Prim.Native.Nat.{◌+◌, ◌-◌}
use lib.ListN.{length}
use Rattle.sheet.proofs.KindLaws.{widest_small}
use Rattle.sheet.proofs.FillLaws.{readable_more, fill_step, fill_end}
use Rattle.sheet.proofs.fill.fill_column.Goals as goal

pub overflow_add-p : goal.overflow_add-p
overflow_add-p c =
    omega (arith, (readable_more _ _ _ _ c.loop-cell.cell-index c.loop-cell-test.true c.loop-cell.invariant.0).0, widest_small)

pub loop-cell-preserved : goal.loop-cell-preserved
loop-cell-preserved c =
    let l = c.loop-cell in
    let a = c.args in
    let t = c.loop-cell-test.true in (
      (readable_more _ _ _ _ l.cell-index t l.invariant.0).2,
      fill_step a.text.now l.p a.step (length a.column.now) l.cell-index t l.column _ c.value_of.result (l.p + 11 - l.p) (omega arith) (omega arith)
          c.value_of.ensures l.invariant.1,
    )

pub returns : goal.returns
returns c =
    let l = c.loop-cell in
    let a = c.args in
    fill_end a.text.now l.column _ l.p a.step (length a.column.now) l.cell-index (omega arith) (omega arith) l.invariant.1

-- `write::put_row` meets its contract. The invariant: the row begins with the fields of the columns passed.
use mathlib.Core.Path.{ap, ◌∙◌}
use mathlib.Core.List.{List}
use Prim.Native.Nat.{ℕ}
use native.Mathlib.Omega.{arith}
use lib.ListN.{length-set}
use lib.Seq.{sets}
use Rattle.sheet.specs.Sheet.{line_text}
use Rattle.table_text.proofs.TextLaws.{row_step, row_end}
use Rattle.table_text.proofs.write.put_row.Goals as goal

pub loop-c-preserved : goal.loop-c-preserved
loop-c-preserved c =
    let l = c.loop-c in (
      length-set l.row _ _ ∙ l.invariant.0,
      row_step _ _ l.row l.c _ _ c.loop-c-test.true (omega (arith, c.requires.few, l.invariant.0)) c.field_at.ensures l.invariant.1,
    )

pub returns : goal.returns
returns c =
    let a = c.args in
    let l = c.loop-c in
    c.put_line.ensures
    ∙ ap (λ (x : List ℕ). sets a.out.now a.at (line_text a.letter x))
    (row_end a.columns.now a.i l.row l.c _ c.loop-c-test.false (omega arith) l.invariant.1)

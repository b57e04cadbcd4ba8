-- `write::put_rows` meets its contract. The invariant: the rows left, written behind those written, give what all give.
use native.Mathlib.Omega.{arith}
use native.Mathlib.Nat.{mul-suc}
use native.Mathlib.Numerals.{add-one}
use Prim.Native.Nat.{ℕ, ◌+◌, ◌*◌}
use mathlib.Core.Path.{◌≡◌, sym, ap, ◌∙◌}
use lib.ListN.{length}
use Rattle.table_text.specs.TablesText.{row_line}
use Rattle.table_text.proofs.TextLaws.{row_wide, rows_start, rows_step, rows_end}
use Rattle.table_text.proofs.write.put_rows.Goals as goal

pub loop-i-init : goal.loop-i-init
loop-i-init c =
    let a = c.args in
    rows_start (row_line a.letter a.columns.now) _ (row_wide a.columns.now a.letter) a.rows _ a.at a.out.now (omega arith)

pub loop-i-preserved : goal.loop-i-preserved
loop-i-preserved c =
    let a = c.args in
    let l = c.loop-i in
    let w = 2 + 11 * length a.columns.now in
    let m : w * (l.i + 1) ≡ w * l.i + w = ap (λ (j : ℕ). w * j) (add-one l.i) ∙ mul-suc w l.i in
    rows_step (row_line a.letter a.columns.now) w (row_wide a.columns.now a.letter) a.rows l.i (a.at + w * l.i) (a.at + w * (l.i + 1)) l.out
    c.put_row.new.out c.loop-i-test.true (omega arith) c.put_row.ensures
    ∙ l.invariant

pub returns : goal.returns
returns c =
    let a = c.args in
    let l = c.loop-i in
    let w = 2 + 11 * length a.columns.now in
    sym (rows_end (row_line a.letter a.columns.now) w (row_wide a.columns.now a.letter) a.rows l.i (a.at + w * l.i) l.out c.loop-i-test.false)
    ∙ l.invariant

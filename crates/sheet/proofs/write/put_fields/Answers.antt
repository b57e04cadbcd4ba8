-- `write::put_fields` meets its contract. The invariant: the fields left, written behind those written, give what all give.
-- Assumes nothing.
use native.Mathlib.Omega.{arith}
use mathlib.Core.Path.{sym, ◌∙◌}
use Rattle.sheet.proofs.WriteLaws.{fields_step, fields_end}
use Rattle.sheet.proofs.write.put_fields.Goals as goal

pub loop-n-preserved : goal.loop-n-preserved
loop-n-preserved c =
    let l = c.loop-n in
    let a = c.args in (
      omega arith,
      fields_step a.fields.now l.out c.put_number.new.out l.p l.n-index c.loop-n-test.true c.put_number.ensures ∙ l.invariant.1,
    )

pub returns : goal.returns
returns c =
    let l = c.loop-n in
    let a = c.args in
    sym (fields_end a.fields.now l.out l.p l.n-index c.loop-n-test.false) ∙ l.invariant.1

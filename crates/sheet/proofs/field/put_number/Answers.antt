-- `field::put_number` meets its contract. The invariant: the columns left, stored into the buffer as it is, give what all ten give.
-- Assumes nothing.
use native.Mathlib.Omega.{arith}
use mathlib.Core.Path.{◌∙◌}
use Rattle.sheet.proofs.FieldLaws.{put_step, put_end, put_whole}
use Rattle.sheet.proofs.field.put_number.Goals as goal

pub loop-i-preserved : goal.loop-i-preserved
loop-i-preserved c =
    let l = c.loop-i in
    let a = c.args in
    put_step l.out _ a.at l.i l.left c.digit_or_blank.result (omega arith) c.digit_or_blank.ensures l.invariant

pub returns : goal.returns
returns c =
    let l = c.loop-i in
    let a = c.args in
    put_end l.out _ a.at l.i l.left c.loop-i-test.false l.invariant ∙ put_whole a.out.now a.at a.n

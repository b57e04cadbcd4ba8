-- `field::digit_or_blank` meets its contract.
-- Assumes nothing.
use borrow.Author.Tests.{eq-eqb, ne_eqb}
use Rattle.sheet.specs.Field.{digit_or_blank}
use Rattle.sheet.proofs.field.digit_or_blank.Goals as goal

pub returns-then-n-eq0 : goal.returns-then-n-eq0
unfolding digit_or_blank
returns-then-n-eq0 c = rw (eq-eqb c.args.n 0 c.if-n-eq0.true)

pub returns : goal.returns
unfolding digit_or_blank
returns c = rw (ne_eqb c.args.n 0 c.if-n-eq0.false)

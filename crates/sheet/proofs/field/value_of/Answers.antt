-- `field::value_of` meets its contract. The invariant: the bytes left, read behind the number made so far, make the whole; the number is small.
-- Assumes nothing.
use native.Mathlib.Omega.{arith}
use mathlib.Core.Path.{refl}
use Rattle.sheet.specs.Field.{value}
use Rattle.sheet.proofs.FieldLaws.{value_step, value_end, bound_step}
use Rattle.sheet.proofs.field.value_of.Goals as goal

pub loop-c-init : goal.loop-c-init
unfolding value
loop-c-init c = (refl, omega arith)

pub loop-c-preserved : goal.loop-c-preserved
loop-c-preserved c =
    let l = c.loop-c in
    let s = c.args.s.now in (
      value_step s l.n l.c-index c.digit.result _ c.loop-c-test.true c.digit.ensures l.invariant.0,
      bound_step l.n c.digit.result l.c-index (omega (arith, c.digit.ensures, c.type_inv.s l.c-index)) l.invariant.1,
    )

pub returns : goal.returns
returns c = let l = c.loop-c in value_end c.args.s.now l.n l.c-index _ c.loop-c-test.false l.invariant.0

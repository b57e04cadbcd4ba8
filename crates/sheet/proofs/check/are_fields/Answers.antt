-- `check::are_fields` meets its contract. The invariant: all fields are sound exactly if those left are.
-- Assumes nothing.
use native.Mathlib.Omega.{arith}
use Prim.Native.Nat.{◌*◌, ◌+◌, ◌-◌}
use mathlib.Core.Path.{sym, ◌∙◌}
use Rattle.sheet.proofs.LineLaws.{fields_step, fields_stop, fields_end}
use Rattle.sheet.proofs.check.are_fields.Goals as goal

pub returns-then-not-is_field : goal.returns-then-not-is_field
returns-then-not-is_field c =
    let l = c.loop-c in
    let a = c.args in
    sym
    (fields_stop a.s.now a.n l.c (omega arith) (11 * l.c + 11 - 11 * l.c) (omega arith)
    (sym c.is_field.ensures ∙ c.if-not-is_field.true))
    ∙ l.invariant

pub loop-c-preserved : goal.loop-c-preserved
loop-c-preserved c =
    let l = c.loop-c in
    let a = c.args in
    fields_step a.s.now a.n l.c (omega arith) (11 * l.c + 11 - 11 * l.c) (omega arith)
    (sym c.is_field.ensures ∙ c.if-not-is_field.false)
    ∙ l.invariant

pub returns : goal.returns
returns c =
    let l = c.loop-c in
    let a = c.args in
    sym (fields_end a.s.now a.n l.c c.loop-c-test.false) ∙ l.invariant

-- `field::is_field` meets its contract.
-- Assumes nothing.
use native.Mathlib.Omega.{arith}
use Prim.Native.Nat.{◌≤◌}
use mathlib.Core.Path.{ap, ◌∙◌}
use lib.ListN.{length}
use borrow.Author.Tests.{eq-eqb, ne_eqb, le-leb, lt-leb}
use Rattle.std.specs.Str.{bytes_eq}
use Rattle.sheet.specs.Field.{field, value, is_field}
use Rattle.sheet.proofs.Lists.{sets_whole}
use Rattle.sheet.proofs.FieldLaws.{field_length}
use Rattle.sheet.proofs.field.is_field.Goals as goal

pub returns-then-s-ne-COLUMNS : goal.returns-then-s-ne-COLUMNS
unfolding is_field
returns-then-s-ne-COLUMNS c = rw (ne_eqb (length c.args.s.now) 11 c.if-s-ne-COLUMNS.true)

pub returns-then-n-gt4294967295 : goal.returns-then-n-gt4294967295
unfolding is_field
returns-then-n-gt4294967295 c =
    let s = c.args.s.now in
    rw (eq-eqb (length s) 11 c.if-s-ne-COLUMNS.false, lt-leb (value s) 4294967295 (omega arith))

pub returns : goal.returns
unfolding is_field
returns c =
    let s = c.args.s.now in
    let v : value s ≤ 4294967295 = omega arith in
    rw (eq-eqb (length s) 11 (omega arith), le-leb (value s) 4294967295 v)
    (c.same.ensures ∙ ap (bytes_eq s) (c.put_number.ensures ∙ sets_whole _ _ (field_length _) ∙ ap field c.value_of-n.ensures))

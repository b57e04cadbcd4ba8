-- `write::write_line` meets its contract: the letter, the fields and the line feed, one behind the other.
-- Assumes nothing.
use native.Mathlib.Omega.{arith}
use lib.ListN.{length}
use Prim.Native.Nat.{◌+◌, ◌*◌, ◌≤◌}
use Rattle.sheet.specs.Sheet.{line_text}
use Rattle.sheet.proofs.WriteLaws.{wrote_none, wrote_all, line_length}
use Rattle.sheet.proofs.write.write_line.Goals as goal

pub returns-then-out-lt2 : goal.returns-then-out-lt2
returns-then-out-lt2 c =
    let a = c.args in
    wrote_none (line_text a.letter a.fields.now) a.out.now _ (line_length a.letter a.fields.now) (omega arith)

pub returns-then-out-fields : goal.returns-then-out-fields
returns-then-out-fields c =
    let a = c.args in
    wrote_none (line_text a.letter a.fields.now) a.out.now _ (line_length a.letter a.fields.now) (omega arith)

pub returns : goal.returns
returns c =
    let a = c.args in
    let e : 1 + 11 * length a.fields.now + 1 ≤ length a.out.now = omega arith in
    wrote_all (line_text a.letter a.fields.now) a.out.now _ _ (line_length a.letter a.fields.now) e c.put_line.ensures

-- `write::put_line` meets its contract: the line is written to the front of what stands behind the place
use native.Mathlib.Omega.{arith}
use Rattle.sheet.specs.Sheet.{line_text}
use Rattle.sheet.proofs.WriteLaws.{line_length}
use Rattle.table_text.proofs.TextLaws.{behind_ok, behind_put}
use Rattle.table_text.proofs.write.put_line.Goals as goal

pub unwrap-requires : goal.unwrap-requires
unwrap-requires c =
    let w = c.write_line in
    let a = c.args in
    behind_ok a.out.now w.new.out a.at (line_text a.letter a.fields.now) w.result
    (omega (arith, c.requires, line_length a.letter a.fields.now)) w.ensures

pub returns : goal.returns
returns c =
    let w = c.write_line in
    let a = c.args in
    behind_put a.out.now w.new.out a.at (line_text a.letter a.fields.now) w.result
    (omega (arith, c.requires, line_length a.letter a.fields.now)) w.ensures

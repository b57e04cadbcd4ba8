-- `write::put_line` meets its contract: the letter, the fields and the line feed, one behind the other.
-- Assumes nothing.
use native.Mathlib.Omega.{arith}
use lib.ListN.{length, set}
use Prim.Native.Nat.{◌+◌, ◌*◌}
use mathlib.Core.Path.{refl}
use mathlib.Core.List.{[], ◌∷◌}
use Rattle.sheet.specs.Sheet.{fields_text}
use Rattle.sheet.proofs.WriteLaws.{put_none, put_more, put_as, fields_length, line_text_lem}
use Rattle.sheet.proofs.write.put_line.Goals as goal

pub returns : goal.returns
returns c =
    let a = c.args in
    let o = a.out.now in
    let n = 11 * length a.fields.now in
    let p₁ = put_more o o (set o a.at a.letter) a.at [] (a.letter ∷ []) 0 1 a.at (put_none o a.at) (omega arith)
    refl refl in
    let p₂ = put_more o (set o a.at a.letter) c.put_fields.new.out a.at (a.letter ∷ [])
    (fields_text a.fields.now) 1 n (a.at + 1) p₁ refl (fields_length a.fields.now) c.put_fields.ensures in
    let p₃ = put_more o c.put_fields.new.out (set c.put_fields.new.out (a.at + 1 + n) 10) a.at _ (10 ∷ []) (1 + n) 1
    (a.at + 1 + n) p₂ (omega arith) refl refl in
    put_as o _ a.at _ _ (1 + n + 1) p₃ (line_text_lem a.letter a.fields.now)

-- `write::put_ends` meets its contract: its pieces, one behind the other.
-- Assumes nothing.
use mathlib.Core.Path.{refl}
use mathlib.Core.List.{[], ◌∷◌}
use lib.ListN.{set}
use Rattle.sheet.specs.Answer.{end_text}
use Rattle.sheet.proofs.WriteLaws.{put_none, put_more, put_as, ends_text_lem, end_length}
use Rattle.sheet.proofs.write.put_ends.Goals as goal

pub returns : goal.returns
returns c =
    let a = c.args in
    let o = a.out.now in
    let p₁ = put_more o o (set o 0 81) 0 [] (81 ∷ []) 0 1 0 (put_none o 0) refl refl refl in
    let p₂ = put_more o (set o 0 81) _ 0 _ (end_text a.left) 1 11 1 p₁ refl (end_length a.left) c.put_end.ensures in
    let p₃ = put_more o _ _ 0 _ (end_text a.right) 12 11 12 p₂ refl (end_length a.right) c.put_end-2.ensures in
    put_as o _ 0 _ _ 23 p₃ (ends_text_lem a.left a.right)

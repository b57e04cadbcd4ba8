-- `write::put_weights` meets its contract: its pieces, one behind the other.
-- Assumes nothing.
use mathlib.Core.Path.{refl}
use mathlib.Core.List.{[], ◌∷◌}
use lib.ListN.{set}
use Rattle.sheet.specs.Sheet.{fields_text}
use Rattle.sheet.specs.Answer.{weights_text}
use Rattle.sheet.proofs.WriteLaws.{put_none, put_more, put_as, fields_length}
use Rattle.sheet.proofs.write.put_weights.Goals as goal

pub returns : goal.returns
unfolding weights_text
returns c =
    let a = c.args in
    let o = a.out.now in
    let fields = a.weight ∷ a.insts ∷ a.met ∷ a.cost ∷ [] in
    let p₁ = put_more o o _ 23 [] (fields_text fields) 0 44 23 (put_none o 23) refl (fields_length fields)
    c.put_fields.ensures in
    let p₂ = put_more o _ (set c.put_fields.new.out 67 10) 23 _ (10 ∷ []) 44 1 67 p₁ refl refl refl in
    put_as o _ 23 _ _ 45 p₂ refl

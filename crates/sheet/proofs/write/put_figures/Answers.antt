-- `write::put_figures` meets its contract: its pieces, one behind the other.
-- Assumes nothing.
use mathlib.Core.Path.{refl}
use mathlib.Core.List.{[], ◌∷◌}
use Rattle.sheet.specs.Sheet.{line_text}
use Rattle.sheet.specs.Answer.{ends_text, weights_text, figures_text}
use Rattle.sheet.proofs.WriteLaws.{put_none, put_more, put_as, ends_length, weights_length, line_length_one}
use Rattle.sheet.proofs.write.put_figures.Goals as goal

pub returns : goal.returns
unfolding figures_text
returns c =
    let a = c.args in
    let f = a.f in
    let o = a.out.now in
    let p₁ = put_more o o _ 0 [] (ends_text f.left f.right) 0 23 0 (put_none o 0) refl (ends_length f.left f.right)
    c.put_ends.ensures in
    let p₂ = put_more o _ _ 0 _ (weights_text f.use_weight f.live_insts f.interference_weight f.split_cost)
    23 45 23 p₁ refl (weights_length f.use_weight f.live_insts f.interference_weight f.split_cost)
    c.put_weights.ensures in
    let p₃ = put_more o _ _ 0 _ (line_text 72 (f.thousandths ∷ [])) 68 13 68 p₂ refl (line_length_one 72 f.thousandths)
    c.put_line.ensures in
    put_as o _ 0 _ _ 81 p₃ refl

-- `count` is the length of the shortest column
use mathlib.Core.Path.{sym, ◌∙◌}
use Rattle.links.proofs.Rows.{blocks_length}
use Rattle.links.proofs.blocks.count.Goals as goal

pub returns : goal.returns
returns c = let s = c.args in c.shortest.ensures ∙ sym (blocks_length s.freq.now s.first.now s.end.now)

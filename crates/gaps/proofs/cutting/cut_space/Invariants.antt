-- `cut_space` stores the gaps of a space: what is left, stored into the columns as they are, gives what all of them give
use mathlib.Core.Path.{◌≡◌}
use lib.ListN.{length}
use Rattle.links.specs.Links.{beside}
use Rattle.gaps.specs.Lent.{cut_in, uncut}
use Rattle.gaps.proofs.Spaces.{Storing}
use Rattle.gaps.proofs.cutting.cut_space.Given as goal

abbrev pub invariant-loop-lower : goal.invariant-loop-lower
invariant-loop-lower l = Storing l.side l.freq l.edges l.links l.s l.n (cut_in l.initial.gaps) (cut_in l.gaps) l.b.0 l.at l.edge.0 l.w
    × (uncut l.gaps ≡ uncut l.initial.gaps)

abbrev pub decreases-loop-lower : goal.decreases-loop-lower
decreases-loop-lower l = beside l.side (length l.links) l.b.0

-- `walk_unit` looks at the unit's rows ahead, one after the other: what is known is what the rows passed count
use Prim.Native.Nat.{◌-◌, ◌≤◌}
use lib.ListN.{length}
use Rattle.links.specs.Links.{on_side}
use Rattle.walks.specs.Standing.{StandsIn, Sound, segment_begin}
use Rattle.walks.proofs.OneUnit.{Walking}
use Rattle.walks.proofs.walk.walk_unit.Given as goal

abbrev pub invariant-loop-reservations : goal.invariant-loop-reservations
invariant-loop-reservations l =
    (l.i ≤ length l.fn.reserved.rows)
    × (Sound l.fn.reserved l.s l.initial.met → StandsIn l.side l.fn.reserved.rows l.u.0 (segment_begin l.side l.s) l.at
    → Walking l.side l.fn.reserved l.s l.u.0 l.initial.met l.i l.met)

-- rows ahead
abbrev pub decreases-loop-reservations : goal.decreases-loop-reservations
decreases-loop-reservations l = on_side l.side l.i (l.n - l.i)

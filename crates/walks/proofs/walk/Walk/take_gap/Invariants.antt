-- `take_gap` takes the gap segments of the gap one after the other: what is known is what those passed meet
use Prim.Native.Nat.{ℕ, ◌+◌, ◌-◌, ◌≤◌}
use lib.Ieee.{Float}
use lib.ListN.{length}
use Rattle.numbers.specs.Weight.{Weight}
use Rattle.links.specs.declared.lower.Side.{Side}
use Rattle.links.specs.Links.{on_side}
use Rattle.overlaps.specs.GapSegments.{SegmentColumns}
use Rattle.walks.specs.declared.meeting.Register.{Register}
use Rattle.walks.specs.declared.walk.Walk.{Walk}
use Rattle.walks.specs.Meeting.{Reserved}
use Rattle.walks.specs.Ways.{first_end}
use Rattle.walks.specs.Standing.{PlacesInside}
use Rattle.walks.specs.Gaps.{At, met_before, Walkable}
use Rattle.walks.proofs.GapWalk.{Going}
use Rattle.walks.proofs.walk.Walk.take_gap.Given as goal

-- what the walk relies on
pub record Relies (side : Side) (p : Register) (t : Reserved) (g : SegmentColumns) (gap : ℕ) (w : Float) (walk : Walk) : Type 0 where
  pub walkable : Walkable t g
  pub weight : Weight w
  pub at : At side p t.rows g (first_end side gap (gap + 1)) walk

abbrev pub invariant-loop-segments : goal.invariant-loop-segments
invariant-loop-segments l =
    (l.i ≤ l.segments.used)
    × PlacesInside l.register (length l.reserved.rows) l.self
    × (Relies l.side l.register l.reserved l.segments l.gap l.fn.heaviest l.initial.self
    → Going l.side l.register l.reserved l.segments l.gap (met_before l.fn.heaviest) l.i l.self l.met)

-- rows ahead
abbrev pub decreases-loop-segments : goal.decreases-loop-segments
decreases-loop-segments l = on_side l.side l.i (l.segments.used - l.i)

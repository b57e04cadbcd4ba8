-- `take_segment` walks the register's units one after the other: what is known is what the units before v count
use mathlib.Core.Path.{◌≡◌}
use Prim.Native.Nat.{ℕ, ◌+◌, ◌≤◌}
use lib.ListN.{length}
use Rattle.links.specs.declared.lower.Side.{Side}
use Rattle.walks.specs.declared.meeting.Met.{Met}
use Rattle.walks.specs.declared.meeting.GapSegment.{GapSegment}
use Rattle.walks.specs.declared.meeting.Register.{Register}
use Rattle.walks.specs.declared.walk.Walk.{Walk}
use Rattle.walks.specs.Meeting.{Reserved}
use Rattle.walks.specs.Standing.{StandsIn, StandsInUnits, Sound, segment_begin, segment_end}
use Rattle.walks.proofs.Seen.{Seen}
use Rattle.walks.proofs.Counted.{RowsOf, counted, first_units}
use Rattle.walks.proofs.AllUnits.{Walked}
use Rattle.walks.proofs.walk.Walk.take_segment.Given as goal

-- a place within the rows
abbrev pub Inside : Reserved → ℕ → ℕ → Type 0
Inside t u x = x ≤ length t.rows

-- where a unit's walk stands
abbrev pub StandsAt : Side → Register → Reserved → ℕ → ℕ → ℕ → Type 0
StandsAt side p t point u x = StandsIn side t.rows (p.first.0 + u) point x

-- the units before v have been walked, and what was met is what they count
abbrev pub Units : Side → Register → Reserved → GapSegment → Walk → Walk → Met → Met → ℕ → Type 0
Units side p t s w₀ w m₀ m v =
    (w.next ≡ w₀.next)
    × Walked p.units (Inside t) (Inside t) w.at v
    × (Sound t s m₀ → StandsInUnits side p t.rows (segment_begin side s) w₀
    → Walked p.units (StandsAt side p t (segment_begin side s)) (StandsAt side p t (segment_end side s)) w.at v
    × Seen (counted t s) (RowsOf (first_units p v) t) m₀ m)

abbrev pub invariant-loop-v : goal.invariant-loop-v
invariant-loop-v l = Units l.side l.register l.reserved l.s l.initial.self l.self l.initial.met l.met l.v

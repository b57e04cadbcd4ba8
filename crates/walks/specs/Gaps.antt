-- The gap segments of a gap, and where a walker stands among them
use Rattle.std.specs.Prelude.{◌≡◌, ℕ, ◌+◌, ◌≤◌, ◌<◌, Bool, false, ◌||◌, List, eqb, Float, length, get_or, take}
use Rattle.overlaps.specs.GapSegments.{SegmentColumns, segment_columns}
use Rattle.columns.specs.Below.{picked}
use Rattle.numbers.specs.Weight.{Weight, heavier, heaviest}
use Rattle.jobs.specs.declared.rows.Reservation.{Reservation}
use Rattle.walks.specs.declared.meeting.GapSegment.{GapSegment}
use Rattle.walks.specs.declared.meeting.Register.{Register}
use Rattle.walks.specs.declared.meeting.Met.{Met}
use Rattle.walks.specs.declared.walk.Walk.{Walk}
use Rattle.walks.specs.declared.walk.Took.{Took}
use Rattle.walks.specs.declared.both.Walkers.{Walkers}
use Rattle.walks.specs.declared.both.TookGap.{TookGap}
use Rattle.links.specs.declared.lower.Side.{Side}
use Rattle.links.specs.Links.{on_side}
use Rattle.walks.specs.Meeting.{Reserved, fixed_met_any, weights_met_all}
use Rattle.walks.specs.Ways.{other_side, first_end, last_end, AnyAhead, row_ahead}
use Rattle.walks.specs.Standing.{Ready, Known, StandsInUnits, PlacesInside}

-- the gap segment that row i of three columns holds
abbrev pub gap_segment_row : List ℕ → List ℕ → List ℕ → ℕ → GapSegment
gap_segment_row from to value i = record { from = record { 0 = get_or from i 0 }; to = record { 0 = get_or to i 0 }; value = record { 0 = get_or value i 0 } }

-- row i of the columns
abbrev pub segment_in : SegmentColumns → ℕ → GapSegment
segment_in g i = gap_segment_row g.from g.to g.value i

-- row i is of a gap
abbrev pub of_gap : SegmentColumns → ℕ → ℕ → Bool
of_gap g gap i = eqb (get_or g.gap i 0) gap

-- the gap segments of a gap
abbrev pub segments_of_gap : SegmentColumns → ℕ → List GapSegment
segments_of_gap g gap = picked (of_gap g gap) (segment_in g) g.used

-- the first n rows of the columns, and columns that have them
abbrev pub first_segments : ℕ → SegmentColumns → SegmentColumns
first_segments n g = segment_columns (take n g.from) (take n g.to) (take n g.value) (take n g.gap) (length (take n g.from))

pub record HasSegments (n : ℕ) (g : SegmentColumns) : Type 0 where
  pub from : n ≤ length g.from
  pub to : n ≤ length g.to
  pub value : n ≤ length g.value
  pub gap : n ≤ length g.gap

-- columns that have the rows used; the place behind the last row is a 64-bit number
pub record HasRows (g : SegmentColumns) : Type 0 where
  pub few : g.used < 18446744073709551615
  pub from_long : g.used ≤ length g.from
  pub to_long : g.used ≤ length g.to
  pub value_long : g.used ≤ length g.value
  pub gap_long : g.used ≤ length g.gap

-- rows in order: gaps do not fall, and the gap segments are nonempty, ordered and disjoint
pub record OrderedGaps (g : SegmentColumns) : Type 0 where
  pub gaps : (i k : ℕ) → i ≤ k → k < g.used → get_or g.gap i 0 ≤ get_or g.gap k 0
  pub nonempty : (k : ℕ) → k < g.used → get_or g.from k 0 < get_or g.to k 0
  pub apart : (i k : ℕ) → i < k → k < g.used → get_or g.to i 0 ≤ get_or g.from k 0

-- the rows of the gaps from one on begin at `next`
pub record GapsFrom (g : SegmentColumns) (gap next : ℕ) : Type 0 where
  pub inside : next ≤ g.used
  pub before : (k : ℕ) → k < next → get_or g.gap k 0 < gap
  pub later : (k : ℕ) → next ≤ k → k < g.used → gap ≤ get_or g.gap k 0

-- where the gap segment of a row begins, on the way to a side
abbrev pub begin_at : Side → SegmentColumns → ℕ → ℕ
begin_at side g i = first_end side (get_or g.from i 0) (get_or g.to i 0)

-- a walk stands at an edge among the gaps: the rows ahead are those of the gaps ahead, and it stands where the first of them begins
pub record At (side : Side) (p : Register) (rows : List Reservation) (g : SegmentColumns) (edge : ℕ) (w : Walk) : Type 0 where
  pub place : GapsFrom g edge w.next
  pub stands : AnyAhead side w.next g.used → StandsInUnits side p rows (begin_at side g (row_ahead side w.next)) w

-- the heaviest of a weight and of those that the gap segments of a gap meet
abbrev pub heaviest_in_gap : Register → Reserved → SegmentColumns → ℕ → Float → Float
heaviest_in_gap p t g gap w = heavier w (heaviest (weights_met_all p t (segments_of_gap g gap)))

-- what was met, and with it what the gap segments of a gap meet
abbrev pub gap_met : Register → Reserved → SegmentColumns → ℕ → Met → Met
gap_met p t g gap m = record { fixed = m.fixed || fixed_met_any p t (segments_of_gap g gap); heaviest = heaviest_in_gap p t g gap m.heaviest }

-- nothing was met yet but a weight
abbrev pub met_before : Float → Met
met_before w = record { fixed = false; heaviest = w }

-- what a walk needs to trap on nothing: a known register, columns that have their rows, and places among them
pub record Fits (p : Register) (t : Reserved) (g : SegmentColumns) (w : Walk) : Type 0 where
  pub known : Known p
  pub long : HasRows g
  pub next : w.next ≤ g.used
  pub places : PlacesInside p (length t.rows) w

-- what it relies on to be right: reservations, fixed uses and gap segments in order
pub record Walkable (t : Reserved) (g : SegmentColumns) : Type 0 where
  pub ready : Ready t
  pub ordered : OrderedGaps g

-- the gap segments of a gap taken, from its near edge to its far one
pub record Exact (side : Side) (p : Register) (t : Reserved) (g : SegmentColumns) (gap : ℕ) (w : Float) (r : Took) : Type 0 where
  pub met : r.met ≡ gap_met p t g gap (met_before w)
  pub at : At side p t.rows g (last_end side gap (gap + 1)) r.walk

-- what a walk that takes a gap answers: it fits again, and is exact if it stood at the gap's near edge
pub record Takes (side : Side) (p : Register) (t : Reserved) (g : SegmentColumns) (gap : ℕ) (w : Float) (walk : Walk) (r : Took) : Type 0 where
  pub fits : Fits p t g r.walk
  pub exact : Walkable t g → Weight w → At side p t.rows g (first_end side gap (gap + 1)) walk → Exact side p t g gap w r

-- the walk of a side
abbrev pub walk_on : Side → Walkers → Walk
walk_on side ws = on_side side ws.left ws.right

-- both walks fit
pub record FitsBoth (p : Register) (t : Reserved) (g : SegmentColumns) (ws : Walkers) : Type 0 where
  pub on : (side : Side) → Fits p t g (walk_on side ws)

-- the walk of a side takes a gap, and the other stays where it is
pub record TakesBoth (side : Side) (p : Register) (t : Reserved) (g : SegmentColumns) (gap : ℕ) (w : Float) (ws : Walkers) (r : TookGap) : Type 0 where
  pub takes : Takes side p t g gap w (walk_on side ws) (record { met = r.met; walk = walk_on side r.walkers })
  pub stays : walk_on (other_side side) r.walkers ≡ walk_on (other_side side) ws

-- For contracts of private functions: one try of growth, of gap segments and reservations in columns
use Rattle.std.specs.Prelude.{◌≡◌, ℕ, ◌+◌, ◌≤◌, ◌<◌, cond, List, eqb, Float, length}
use Rattle.numbers.specs.Weight.{Weight}
use Rattle.links.specs.declared.lower.Side.{Side}
use Rattle.links.specs.Links.{on_side}
use Rattle.walks.specs.declared.meeting.Register.{Register}
use Rattle.walks.specs.declared.both.Walkers.{Walkers}
use Rattle.walks.specs.Meeting.{Reserved, fixed_met_any}
use Rattle.walks.specs.Ways.{other_side, first_end, last_end}
use Rattle.walks.specs.Gaps.{segments_of_gap, heaviest_in_gap, At, Walkable, walk_on, FitsBoth}
use Rattle.overlaps.specs.GapSegments.{SegmentColumns}
use Rattle.growth.specs.Growth.{gap_outside}
use Rattle.growth.specs.Columns.{number_at, float_at, span_of, CountFits, tried_with}
use Rattle.growth.specs.declared.step.Growth.{Growth}
use Rattle.growth.specs.declared.step.Tried.{Tried}
use Rattle.region.specs.declared.one_try.Attempt.{Attempt}

-- the gap just outside on a side
abbrev pub gap_on : Side → Growth → ℕ
gap_on side growth = gap_outside side (span_of growth.region)

-- the instructions that a gap adds to a region: its live ones, and 1 for the best use's own gap
abbrev pub insts_at : List ℕ → ℕ → ℕ → ℕ
insts_at lives own gap = cond (eqb gap own) 1 (number_at lives gap)

-- there is a gap on a side, of gaps with these weights and live instructions
pub record Triable (side : Side) (weights : List Float) (lives : List ℕ) (growth : Growth) : Type 0 where
  pub some : on_side side 1 0 ≤ growth.region.left
  pub weight : gap_on side growth < length weights
  pub live : gap_on side growth < length lives
  pub few : gap_on side growth < 4294967295

-- the try of the gap on a side
abbrev pub tried_on : Side → Register → Reserved → SegmentColumns → List Float → List ℕ → ℕ → ℕ → Growth → Tried
tried_on side p t g weights lives own k growth =
    let gap = gap_on side growth in
    tried_with side gap growth.region (float_at weights gap) (insts_at lives own gap) (fixed_met_any p t (segments_of_gap g gap))
    (heaviest_in_gap p t g gap growth.region.heaviest) k

-- what a try relies on: rows in order, a weight, a count that fits, and the side's walk at the gap's near edge
pub record Relies (side : Side) (p : Register) (t : Reserved) (g : SegmentColumns) (lives : List ℕ) (own : ℕ) (growth : Growth) (ws : Walkers) : Type 0 where
  pub walkable : Walkable t g
  pub heaviest : Weight growth.region.heaviest
  pub count : CountFits growth.region (insts_at lives own (gap_on side growth))
  pub at : At side p t.rows g (first_end side (gap_on side growth) (gap_on side growth + 1)) (walk_on side ws)

-- the try is right, and the side's walk stands at the gap's far edge
pub record Right (side : Side) (weights : List Float) (lives : List ℕ) (own : ℕ) (g : SegmentColumns) (t : Reserved) (p : Register) (k : ℕ) (growth : Growth)
    (r : Attempt) : Type 0 where
  pub tried : r.tried ≡ tried_on side p t g weights lives own k growth
  pub at : At side p t.rows g (last_end side (gap_on side growth) (gap_on side growth + 1)) (walk_on side r.walkers)

-- what a try answers: the walkers fit again, the other one has not moved, and all is right if what it relies on holds
pub record Attempts (side : Side) (weights : List Float) (lives : List ℕ) (own : ℕ) (g : SegmentColumns) (t : Reserved) (p : Register) (k : ℕ)
    (growth : Growth) (ws : Walkers) (r : Attempt) : Type 0 where
  pub fits : FitsBoth p t g r.walkers
  pub stays : walk_on (other_side side) r.walkers ≡ walk_on (other_side side) ws
  pub right : Relies side p t g lives own growth ws → Right side weights lives own g t p k growth r

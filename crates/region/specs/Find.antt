-- What growth sees of gaps, gap segments and reservations in columns; and, for contracts of private functions, where growth and its walkers stand
use Rattle.std.specs.Prelude.{◌≡◌, ℕ, ◌≤◌, ◌<◌, Bool, false, cond, List, ltb, Float, length, get_or, take, Some, None}
use Rattle.links.specs.declared.lower.Side.{Side}
use Rattle.links.specs.declared.lower.Side.TheVariants.{Next}
use Rattle.links.specs.Links.{on_side}
use Rattle.walks.specs.declared.meeting.Register.{Register}
use Rattle.walks.specs.declared.both.Walkers.{Walkers}
use Rattle.walks.specs.Meeting.{Reserved, fixed_met_any, weights_met_all}
use Rattle.walks.specs.Standing.{Known}
use Rattle.walks.specs.Gaps.{segments_of_gap, HasRows, Walkable, At, walk_on, FitsBoth}
use Rattle.overlaps.specs.GapSegments.{SegmentColumns}
use Rattle.growth.specs.Growth.{GapsSeen, side_tried}
use Rattle.growth.specs.Proposal.{proposal_with, region_of}
use Rattle.growth.specs.Demand.{SoundGaps}
use Rattle.growth.specs.Columns.{seen_in, span_of, state_of, no_growth, InsideGaps, Going}
use Rattle.growth.specs.declared.step.Grown.{Grown}
use Rattle.growth.specs.declared.step.Growth.{Growth}

-- what growth sees: the gaps in columns, and of each gap what its gap segments meet among the register's reservations
abbrev pub seen_by : Register → Reserved → SegmentColumns → List ℕ → List Float → List ℕ → List Float → ℕ → ℕ → GapsSeen
seen_by p t g froms weights lives freqs own k =
    seen_in froms weights lives freqs (length froms) own
    (λ (gap : ℕ). fixed_met_any p t (segments_of_gap g gap)) (λ (gap : ℕ). weights_met_all p t (segments_of_gap g gap)) k

-- the gaps that growth reads: where each begins, its weight, its live instructions and the lowest frequency in it
pub record GapRows : Type 0 where
  pub froms : List ℕ
  pub weights : List Float
  pub lives : List ℕ
  pub freqs : List Float

abbrev pub gap_rows : List ℕ → List Float → List ℕ → List Float → GapRows
gap_rows froms weights lives freqs = record { froms = froms; weights = weights; lives = lives; freqs = freqs }

-- the first n, and columns that have them
abbrev pub first_gaps : ℕ → GapRows → GapRows
first_gaps n g = gap_rows (take n g.froms) (take n g.weights) (take n g.lives) (take n g.freqs)

pub record HasGaps (n : ℕ) (g : GapRows) : Type 0 where
  pub from : n ≤ length g.froms
  pub weight : n ≤ length g.weights
  pub live : n ≤ length g.lives
  pub freq : n ≤ length g.freqs

-- what growth sees of them
abbrev pub seen_of : Register → Reserved → SegmentColumns → GapRows → ℕ → ℕ → GapsSeen
seen_of p t g gaps own k = seen_by p t g gaps.froms gaps.weights gaps.lives gaps.freqs own k

-- what growth relies on: sound gaps in columns as long as there are gaps
pub record InTable (seen : GapsSeen) (weights : List Float) (lives : List ℕ) (freqs : List Float) : Type 0 where
  pub sound : SoundGaps seen
  pub few : seen.count < 4294967295
  pub weights_long : length weights ≡ seen.count
  pub lives_long : length lives ≡ seen.count
  pub freqs_long : length freqs ≡ seen.count

-- the same of rows
abbrev pub InRows : Register → Reserved → SegmentColumns → GapRows → ℕ → ℕ → Type 0
InRows p t g gaps own k = InTable (seen_of p t g gaps own k) gaps.weights gaps.lives gaps.freqs

-- rows that the columns of gaps and those of gap segments have
pub record RowsInside (gaps : ℕ) (froms : List ℕ) (weights : List Float) (lives : List ℕ) (freqs : List Float)
    (segments : ℕ) (segment_froms segment_tos segment_values segment_gaps : List ℕ) : Type 0 where
  pub from : gaps ≤ length froms
  pub weight : gaps ≤ length weights
  pub live : gaps ≤ length lives
  pub freq : gaps ≤ length freqs
  pub segment_from : segments ≤ length segment_froms
  pub segment_to : segments ≤ length segment_tos
  pub segment_value : segments ≤ length segment_values
  pub segment_gap : segments ≤ length segment_gaps

-- ---- for contracts of private functions
-- what walks rely on: a known register, columns that have their rows, of 32-bit points, and all in order
pub record Walking (p : Register) (t : Reserved) (g : SegmentColumns) : Type 0 where
  pub known : Known p
  pub long : HasRows g
  pub small : (k : ℕ) → get_or g.to k 0 ≤ 4294967295
  pub walkable : Walkable t g

-- before the first try both walkers stand at the own gap's left edge
pub record Begun (p : Register) (t : Reserved) (g : SegmentColumns) (own : ℕ) (ws : Walkers) : Type 0 where
  pub walkable : Walkable t g
  pub fits : FitsBoth p t g ws
  pub at : (side : Side) → At side p t.rows g own (walk_on side ws)

-- growth's end and its walk on a side, and whether the side is barred
abbrev pub edge_on : Side → Grown → ℕ
edge_on side g = on_side side g.left g.right

abbrev pub barred_at : Side → Growth → Bool
barred_at side growth = on_side side growth.left_barred growth.right_barred

-- a try is due on a side: that of the own gap, or the one whose turn it is
pub data Due (seen : GapsSeen) (growth : Growth) (side : Side) : Type 0 where
  own_try : growth ≡ no_growth seen.own → side ≡ Next → Due seen growth side
  its_turn : Going seen growth → Some side ≡ side_tried seen.count seen.freq seen.live (state_of growth) → Due seen growth side

-- growth with walkers that fit, at each end that is not barred
pub record Reached (p : Register) (t : Reserved) (g : SegmentColumns) (growth : Growth) (ws : Walkers) : Type 0 where
  pub fits : FitsBoth p t g ws
  pub at : (side : Side) → barred_at side growth ≡ false → At side p t.rows g (edge_on side growth.region) (walk_on side ws)

-- the region with which growth ends: its proposal is the answer, or there is none if it has no gap
pub record Answers (seen : GapsSeen) (r : Grown) : Type 0 where
  pub inside : r.left < r.right → InsideGaps seen.count r
  pub found : r.left < r.right → Some (proposal_with seen.count seen.first seen.freq (span_of r) r.heaviest) ≡ region_of seen
  pub nothing : r.right ≤ r.left → None ≡ region_of seen

-- where a row's gap segment begins, and past the last one the last point
unfoldable pub point_at : List ℕ → ℕ → ℕ
point_at froms next = cond (ltb next (length froms)) (get_or froms next 0) 4294967295

-- The use table and the best use
use Rattle.std.specs.Prelude.{ℕ, zero, suc, ◌+◌, ◌-◌, ◌*◌, ◌/◌, ◌≤◌, ◌<◌, Bool, false, not, ◌&&◌, ◌||◌, cond, List, [], ◌∷◌, ◌++◌, leb, eqb, Float, length, get_or}
use Rattle.std.specs.Float.{binary32}
use Rattle.std.specs.Float.Ieee.{lt, eq, add, mul}
use Rattle.numbers.specs.Weight.{Weight, units_of, zero_weight, heaviest, frequency_limit, value_of}
use Rattle.numbers.specs.Cost.{reload_cost, move_cost, spill_cost, scaled}
use Rattle.numbers.specs.declared.costs.RematScales.{RematScales}
use Rattle.columns.specs.First.{first_below}
use Rattle.links.specs.Blocks.{BlockRow, block_at, block_of}
use Rattle.jobs.specs.Rows.{no_segment, no_use, live_out, fixed_def}
use Rattle.jobs.specs.Lines.{list_of}
use Rattle.jobs.specs.declared.rows.Segment.{Segment}
use Rattle.jobs.specs.declared.rows.Use.{Use}
use Rattle.use_rows.specs.declared.row.Part.{Part}
use Rattle.use_rows.specs.declared.row.Part.TheVariants as Part·is
use Rattle.use_rows.specs.declared.row.SplitUse.{SplitUse}
use Rattle.std.specs.Prelude.{Option}
use Rattle.std.specs.Prelude.{Some}
use Rattle.std.specs.Prelude.{None}

-- the weight to which a use at p adds: the right one if 4(p+1) is its segment's start, the left one if 4p is its end, else the main one
unfoldable pub part_of : Segment → ℕ → Part
part_of s p = cond (eqb (4 * (p + 1)) s.start) Part·is.Right (cond (eqb (4 * p) s.end) Part·is.Left Part·is.Main)

-- the row of an instruction at which nothing counts
abbrev pub no_weights : ℕ → SplitUse
no_weights p = record { inst = record { 0 = p }; weight = zero_weight; left_weight = zero_weight; right_weight = zero_weight }

-- a row with a weight added to one of its three
unfoldable pub added_to_row : SplitUse → Part → Float → SplitUse
added_to_row u Part·is.Main w =
    record { inst = u.inst; weight = add binary32 u.weight w; left_weight = u.left_weight; right_weight = u.right_weight }
added_to_row u Part·is.Left w =
    record { inst = u.inst; weight = u.weight; left_weight = add binary32 u.left_weight w; right_weight = u.right_weight }
added_to_row u Part·is.Right w =
    record { inst = u.inst; weight = u.weight; left_weight = u.left_weight; right_weight = add binary32 u.right_weight w }

-- the uses as the use table sees them: whether use u counts, its instruction, its part and its weight
pub record Seen : Type 0 where
  pub counts : ℕ → Bool
  pub inst : ℕ → ℕ
  pub part : ℕ → Part
  pub weight : ℕ → Float

-- use u counts at instruction p
abbrev pub counts_at : Seen → ℕ → ℕ → Bool
counts_at seen p u = seen.counts u && eqb (seen.inst u) p

-- some use below n counts at instruction p
unfoldable pub carries : Seen → ℕ → ℕ → Bool
carries seen zero p = false
carries seen (suc n) p = carries seen n p || counts_at seen p n

-- the row of instruction p: the weights of the uses below n that count there, added in use order
unfoldable pub split_use : Seen → ℕ → ℕ → SplitUse
split_use seen zero p = no_weights p
split_use seen (suc n) p = cond (counts_at seen p n) (added_to_row (split_use seen n p) (seen.part n) (seen.weight n)) (split_use seen n p)

-- instruction p has a row: it is the first or the last instruction, or some use counts there
abbrev pub has_row : Seen → ℕ → ℕ → ℕ → ℕ → Bool
has_row seen n first last p = eqb p first || eqb p last || carries seen n p

-- the rows of k instructions from p on, in order
unfoldable pub rows_from : Seen → ℕ → ℕ → ℕ → ℕ → ℕ → List SplitUse
rows_from seen n first last p zero = []
rows_from seen n first last p (suc k) =
    rows_from seen n first last p k ++ cond (has_row seen n first last (p + k)) (split_use seen n (p + k) ∷ []) []

-- the use table of n uses: the rows from the first to the last instruction
unfoldable pub use_table : Seen → ℕ → ℕ → ℕ → List SplitUse
use_table seen n first last = rows_from seen n first last first (last + 1 - first)

-- what a job's use table is made of: uses, segments, rematerialisation codes of the values, their scales, blocks
pub record Source : Type 0 where
  pub uses : List Use
  pub segments : List Segment
  pub codes : List ℕ
  pub scales : RematScales
  pub blocks : List BlockRow

abbrev pub source_of : List Use → List Segment → List ℕ → RematScales → List BlockRow → Source
source_of uses segments codes scales blocks = record { uses = uses; segments = segments; codes = codes; scales = scales; blocks = blocks }

-- the segment of use u
abbrev pub segment_of : Source → ℕ → Segment
segment_of job u = get_or job.segments (list_of job.segments u) no_segment

-- a use's cost, scaled by the code of its segment's value
unfoldable pub cost_of : Source → ℕ → Float
cost_of job u =
    scaled (get_or job.codes (segment_of job u).value 0) job.scales
    (spill_cost reload_cost move_cost (get_or job.uses u no_use).kind (get_or job.uses u no_use).cost)

-- the frequency of the block of an instruction
unfoldable pub frequency_at : List BlockRow → ℕ → Float
frequency_at blocks p = value_of frequency_limit (block_at blocks (block_of blocks p)).frequency

-- a job's uses as the use table sees them: one counts if its cost isn't zero; its weight is cost × block frequency
abbrev pub seen_of : Source → Seen
seen_of job =
    record {
      counts = λ (u : ℕ). not (eq (cost_of job u) zero_weight);
      inst = λ (u : ℕ). (get_or job.uses u no_use).position;
      part = λ (u : ℕ). part_of (segment_of job u) (get_or job.uses u no_use).position;
      weight = λ (u : ℕ). mul binary32 (cost_of job u) (frequency_at job.blocks (get_or job.uses u no_use).position);
    }

-- the first instruction of a segment: that of its start, or the one before it with a fixed def
abbrev pub start_inst : Segment → ℕ
start_inst s = s.start / 4 - cond (fixed_def s.flags) 1 0

-- the last instruction of a segment: the one before its end if it is live-out, else that of the last use in its list
abbrev pub end_inst : List Use → Segment → ℕ
end_inst uses s = cond (live_out s.flags) (s.end / 4 - 1) (get_or uses (s.end_use - 1) no_use).position

-- the first instruction, that of the first segment
unfoldable pub first_inst : List Segment → ℕ
first_inst segments = start_inst (get_or segments 0 no_segment)

-- the last instruction, that of the last segment
unfoldable pub last_inst : List Use → List Segment → ℕ
last_inst uses segments = end_inst uses (get_or segments (length segments - 1) no_segment)

-- a job's use table
abbrev pub use_table_of : Source → List SplitUse
use_table_of job = use_table (seen_of job) (length job.uses) (first_inst job.segments) (last_inst job.uses job.segments)

-- every row of a column is a weight
abbrev pub AllWeights : List Float → Type 0
AllWeights weights = (k : ℕ) → k < length weights → Weight (get_or weights k zero_weight)

-- row i has the largest main weight
abbrev pub is_largest : List Float → ℕ → Bool
is_largest weights i = not (lt (get_or weights i zero_weight) (heaviest weights))

-- the best use: the earliest of the largest main weight, if that is above zero; none in a table of one row
unfoldable pub best_use : List Float → Option ℕ
best_use weights =
    cond (leb (length weights) 1) None
    (cond (lt zero_weight (heaviest weights)) (Some (first_below (is_largest weights) (length weights))) None)

-- a best use among main weights: the largest, above zero, earliest on ties, in a table of more than one row
pub record IsBest (ws : List Float) (best : ℕ) : Type 0 where
  pub several : 1 < length ws
  pub inside : best < length ws
  pub above_zero : 0 < units_of (get_or ws best zero_weight)
  pub largest : (k : ℕ) → k < length ws → units_of (get_or ws k zero_weight) ≤ units_of (get_or ws best zero_weight)
  pub earliest : (k : ℕ) → k < best → units_of (get_or ws k zero_weight) < units_of (get_or ws best zero_weight)

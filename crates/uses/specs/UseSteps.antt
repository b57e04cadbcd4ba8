-- From the block of a use to that of the next, over all listed uses: how far back, for which uses, and how far in all
use Rattle.std.specs.Prelude.{ℕ, ◌+◌, ◌*◌, ◌≤◌, ◌<◌, ◌≡◌, Bool, true, ◌&&◌, cond, List, eqb, length, get_or}
use Rattle.columns.specs.Below.{sum_below}
use Rattle.numbers.specs.Figure.{apart}
use Rattle.links.specs.Blocks.{BlockRow, block_of}
use Rattle.jobs.specs.Rows.{no_segment, no_use, fixed_def}
use Rattle.jobs.specs.Lines.{list_of}
use Rattle.jobs.specs.declared.rows.Segment.{Segment}
use Rattle.jobs.specs.declared.rows.Use.{Use}
use Rattle.use_lists.specs.Steps.{number_before}

-- use u of a segment's list is its fixed def: the first, where the flag is set
abbrev pub is_def_of : Segment → ℕ → Bool
is_def_of s u = eqb u s.first_use && fixed_def s.flags

-- use u is the fixed def of the segment that lists it
abbrev pub is_fixed_def : List Segment → ℕ → Bool
is_fixed_def segments u = is_def_of (get_or segments (list_of segments u) no_segment) u

-- the block of use u
abbrev pub block_of_use : List BlockRow → List Use → ℕ → ℕ
block_of_use blocks uses u = block_of blocks (get_or uses u no_use).position

-- the distances between successive ones of the first n numbers, from 0 on, added up
abbrev pub distances : (ℕ → ℕ) → ℕ → ℕ
distances b = sum_below (λ (i : ℕ). apart (number_before b i) (b i))

-- the step to use u, of blocks b, goes one block back at most, and back only for a fixed def
pub record Step (b : ℕ → ℕ) (u : ℕ) (isDef : Bool) : Type 0 where
  pub near : number_before b u ≤ b u + 1
  pub back : b u < number_before b u → isDef ≡ true

-- the uses of a checked job: none is before an earlier one, but a fixed def may be, by one instruction; a use's block is at most one before that
-- of the use before it, and before it only for a fixed def; and the distances, from block 0 on, sum to at most B + 2S, even to 3 less
pub record UseSteps (blocks : List BlockRow) (uses : List Use) (segments : List Segment) : Type 0 where
  pub order : (i u : ℕ) → i < u → u < length uses → (get_or uses i no_use).position ≤ (get_or uses u no_use).position + cond (is_fixed_def segments u) 1 0
  pub steps : (u : ℕ) → u < length uses → Step (block_of_use blocks uses) u (is_fixed_def segments u)
  pub few : distances (block_of_use blocks uses) (length uses) + 3 ≤ length blocks + 2 * length segments

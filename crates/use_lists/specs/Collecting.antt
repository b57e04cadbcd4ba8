-- What is done to the columns while the use table is collected. It follows the code, for contracts below `collect_uses` alone: the table is
-- that of use_rows/specs/Uses, and uses/proofs/OneList leads from here to there.
use Rattle.std.specs.Prelude.{ℕ, zero, suc, ◌+◌, ◌-◌, ◌≤◌, ◌<◌, Bool, false, cond, List, ltb, eqb, Float, length, get_or}
use Rattle.std.specs.Float.{binary32}
use Rattle.std.specs.Float.Ieee.{mul, eq}
use Rattle.numbers.specs.Weight.{zero_weight, frequency_limit, value_of}
use Rattle.numbers.specs.Cost.{reload_cost, move_cost, spill_cost, scaled}
use Rattle.numbers.specs.declared.costs.RematScales.{RematScales}
use Rattle.links.specs.Blocks.{block_in, Ends}
use Rattle.jobs.specs.Rows.{no_use, no_segment}
use Rattle.jobs.specs.Lines.{Lists}
use Rattle.jobs.specs.declared.rows.Use.{Use}
use Rattle.jobs.specs.declared.rows.Segment.{Segment}
use Rattle.use_rows.specs.declared.row.Part.{Part}
use Rattle.use_rows.specs.declared.row.SplitUse.{SplitUse}
use Rattle.use_lists.specs.declared.lists.Collected.{Collected}
use Rattle.use_rows.specs.Uses.{no_weights, added_to_row, part_of}
use Rattle.use_rows.specs.UseColumns.{UseColumns, Inside, with_use, use_in}
use Rattle.use_lists.specs.Steps.{number_before, block_in_use}

-- the columns, the number of rows stored, and the latest row, which is not
pub record Collecting : Type 0 where
  pub cols : UseColumns
  pub rows : ℕ
  pub latest : SplitUse

abbrev pub collecting : UseColumns → Collected → Collecting
collecting cols c = record { cols = cols; rows = c.rows; latest = c.latest }

-- the row stored last is that of instruction p
unfoldable pub is_stored : List ℕ → ℕ → ℕ → Bool
is_stored insts zero p = false
is_stored insts (suc rows) p = eqb (get_or insts rows 0) p

-- a use just before the latest row: added to the row stored last if that is its own, else stored behind it
unfoldable pub added_before : Collecting → ℕ → Part → Float → Collecting
added_before c p part w =
    cond (is_stored c.cols.insts c.rows p)
    (record { cols = with_use c.cols (c.rows - 1) (added_to_row (use_in c.cols (c.rows - 1)) part w); rows = c.rows; latest = c.latest })
    (record { cols = with_use c.cols c.rows (added_to_row (no_weights p) part w); rows = c.rows + 1; latest = c.latest })

-- a use before the latest row, at it, or after it
unfoldable pub added : Collecting → ℕ → Part → Float → Collecting
added c p part w =
    cond (ltb p c.latest.inst.0) (added_before c p part w)
    (cond (eqb p c.latest.inst.0) (record { cols = c.cols; rows = c.rows; latest = added_to_row c.latest part w })
    (record { cols = with_use c.cols c.rows c.latest; rows = c.rows + 1; latest = added_to_row (no_weights p) part w }))

-- cost × the frequency of a block, from the column of frequencies
unfoldable pub weight_in : List ℕ → Float → ℕ → Float
weight_in freqs cost b = mul binary32 cost (value_of frequency_limit (get_or freqs b 0))

-- a use of a segment, at an instruction in a block, added unless it costs nothing
unfoldable pub counted : List ℕ → Segment → ℕ → ℕ → Float → Collecting → Collecting
counted freqs s p b cost c = cond (eq cost zero_weight) c (added c p (part_of s p) (weight_in freqs cost b))

-- the first n uses of a segment's list added in order
unfoldable pub counted_list : List Use → List ℕ → List ℕ → Segment → ℕ → RematScales → ℕ → Collecting → Collecting
counted_list uses freqs ends s code scales zero c = c
counted_list uses freqs ends s code scales (suc n) c =
    let u = get_or uses (s.first_use + n) no_use in
    counted freqs s u.position (block_in ends (length freqs) u.position)
    (scaled code scales (spill_cost reload_cost move_cost u.kind u.cost)) (counted_list uses freqs ends s code scales n c)

-- the columns have the next row and n more behind it
abbrev pub RowsLeft : ℕ → Collecting → Type 0
RowsLeft n c = Inside (c.rows + n) c.cols

-- what the collection of a list relies on: it lies inside the uses, each of them in a block that is at most one before that of the use before it
pub record Listing (uses : List Use) (ends : List ℕ) (blocks : ℕ) (s : Segment) : Type 0 where
  pub forward : s.first_use ≤ s.end_use
  pub inside : s.end_use ≤ length uses
  pub blocked : (u : ℕ) → u < length uses → Ends ends blocks (get_or uses u no_use).position
  pub near : (u : ℕ) → u < length uses → number_before (block_in_use ends blocks uses) u ≤ block_in_use ends blocks uses u + 1

-- the lists of the first n segments added in order
unfoldable pub counted_lists : List Use → List ℕ → List ℕ → List Segment → List ℕ → RematScales → ℕ → Collecting → Collecting
counted_lists uses freqs ends segments codes scales zero c = c
counted_lists uses freqs ends segments codes scales (suc n) c =
    let s = get_or segments n no_segment in
    counted_list uses freqs ends s (get_or codes s.value 0) scales (s.end_use - s.first_use) (counted_lists uses freqs ends segments codes scales n c)

-- the columns, and the number of rows stored
pub record StoredUses : Type 0 where
  pub cols : UseColumns
  pub rows : ℕ

abbrev pub held_in : UseColumns → ℕ → StoredUses
held_in cols rows = record { cols = cols; rows = rows }

-- the latest row stored, and behind it that of the last instruction where that is another
unfoldable pub with_last : Collecting → ℕ → StoredUses
with_last c last =
    cond (eqb c.latest.inst.0 last) (held_in (with_use c.cols c.rows c.latest) (c.rows + 1))
    (held_in (with_use (with_use c.cols c.rows c.latest) (c.rows + 1) (no_weights last)) (c.rows + 2))

-- what the collection of all lists relies on: they follow one another, each use lies in a block that is at most one before that of the use before
-- it, and each segment's value is known
pub record Listings (uses : List Use) (ends : List ℕ) (blocks values : ℕ) (segments : List Segment) : Type 0 where
  pub lists : Lists (length uses) segments
  pub blocked : (u : ℕ) → u < length uses → Ends ends blocks (get_or uses u no_use).position
  pub near : (u : ℕ) → u < length uses → number_before (block_in_use ends blocks uses) u ≤ block_in_use ends blocks uses u + 1
  pub known : (i : ℕ) → i < length segments → (get_or segments i no_segment).value < values

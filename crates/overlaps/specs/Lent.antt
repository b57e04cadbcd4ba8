-- The gap segments' columns in the struct that holds them while they are filled
use Rattle.std.specs.Prelude.{ℕ}
use Rattle.overlaps.specs.GapSegments.{SegmentColumns, segment_columns}
use Rattle.overlaps.specs.declared.passing.GapSegmentTable.{GapSegmentTable}

-- the columns that it holds, and how many of their rows are used
abbrev pub columns_in : GapSegmentTable → ℕ → SegmentColumns
columns_in t used = segment_columns t.from.now t.to.now t.value.now t.gap.now used

-- which columns those are, whatever stands in them
abbrev pub lenders : GapSegmentTable → ℕ × ℕ × ℕ × ℕ
lenders t = (t.from.ghost_name, t.to.ghost_name, t.value.ghost_name, t.gap.ghost_name)

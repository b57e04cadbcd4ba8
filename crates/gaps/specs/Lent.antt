-- The gap table's columns in the struct that holds them while they are filled
use Rattle.std.specs.Prelude.{ℕ, List}
use Rattle.gaps.specs.GapColumns.{GapColumns, gap_columns}
use Rattle.gaps.specs.Cutting.{CutColumns, cut_columns}
use Rattle.gaps.specs.declared.table.GapTable.{GapTable}

-- the columns that it holds
abbrev pub columns_in : GapTable → GapColumns
columns_in t = gap_columns t.from.now t.to.now t.weight.now t.live.now t.min_freq.now t.block.now

-- which columns those are, whatever stands in them
abbrev pub lenders : GapTable → ℕ × ℕ × ℕ × ℕ × ℕ × ℕ
lenders t =
    (t.from.ghost_name, t.to.ghost_name, t.weight.ghost_name, t.live.ghost_name, t.min_freq.ghost_name, t.block.ghost_name)

-- ---- for cutting: the columns that it fills, and what it leaves as it is
abbrev pub cut_in : GapTable → CutColumns
cut_in t = cut_columns t.from.now t.to.now t.weight.now t.min_freq.now t.block.now

abbrev pub uncut : GapTable → (ℕ × ℕ × ℕ × ℕ × ℕ × ℕ) × List ℕ
uncut t = (lenders t, t.live.now)

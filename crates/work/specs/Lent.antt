-- The sixteen lent columns where three tables hold fourteen of them
use Rattle.std.specs.Prelude.{ℕ, List}
use Rattle.use_rows.specs.declared.row.UseTable.{UseTable}
use Rattle.overlaps.specs.declared.passing.GapSegmentTable.{GapSegmentTable}
use Rattle.gaps.specs.declared.table.GapTable.{GapTable}
use Rattle.filling.specs.SourceTables.{WorkColumns, work_columns}

-- the columns of links, and those that the tables hold
abbrev pub work_columns_in : List ℕ → List ℕ → UseTable → GapTable → GapSegmentTable → WorkColumns
work_columns_in prevs nexts u g s =
    work_columns prevs nexts u.inst.now u.weight.now u.left_weight.now u.right_weight.now
    g.from.now g.to.now g.weight.now g.live.now g.min_freq.now g.block.now
    s.from.now s.to.now s.value.now s.gap.now

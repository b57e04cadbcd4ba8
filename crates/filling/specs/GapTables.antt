-- What filling the gap table and the gap segments relies on: columns of which the first rows count
use Rattle.std.specs.Prelude.{ℕ, ◌≤◌, List, length, take}
use Rattle.use_rows.specs.UseColumns.{UseColumns, use_columns}
use Rattle.overlaps.specs.ValuedColumns.{ValuedColumns, valued_columns}

-- rows that the use columns, links for so many blocks that the columns of links, and segments that their columns have
pub record CutInside (rows : ℕ) (uses : UseColumns) (blocks : ℕ) (prevs nexts : List ℕ) (segments : ℕ) (starts ends values : List ℕ) : Type 0 where
  pub inst : rows ≤ length uses.insts
  pub main : rows ≤ length uses.mains
  pub left : rows ≤ length uses.lefts
  pub right : rows ≤ length uses.rights
  pub prev : blocks ≤ length prevs
  pub next : blocks ≤ length nexts
  pub start : segments ≤ length starts
  pub end : segments ≤ length ends
  pub value : segments ≤ length values

-- the first rows of a use table's columns
abbrev pub first_uses : ℕ → UseColumns → UseColumns
first_uses rows uses = use_columns (take rows uses.insts) (take rows uses.mains) (take rows uses.lefts) (take rows uses.rights)

-- and of segments' columns
abbrev pub first_valued : ℕ → ValuedColumns → ValuedColumns
first_valued count segments = valued_columns (take count segments.starts) (take count segments.ends) (take count segments.values)

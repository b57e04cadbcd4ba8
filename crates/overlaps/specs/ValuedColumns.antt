-- The three columns of segments that gaps are made of
use Rattle.std.specs.Prelude.{ℕ, ◌<◌, List, length}
use Rattle.jobs.specs.declared.rows.Segment.{Segment}
use Rattle.overlaps.specs.Live.{starts_in, ends_in}
use Rattle.overlaps.specs.GapSegments.{values_in}

-- starts, ends and values
pub record ValuedColumns : Type 0 where
  pub starts : List ℕ
  pub ends : List ℕ
  pub values : List ℕ

abbrev pub valued_columns : List ℕ → List ℕ → List ℕ → ValuedColumns
valued_columns starts ends values = record { starts = starts; ends = ends; values = values }

-- those of a list of segments
abbrev pub valued_in : List Segment → ValuedColumns
valued_in segments = valued_columns (starts_in segments) (ends_in segments) (values_in segments)

-- a row that each of the columns has
pub record ValuedAt (at : ℕ) (cols : ValuedColumns) : Type 0 where
  pub start : at < length cols.starts
  pub end : at < length cols.ends
  pub value : at < length cols.values

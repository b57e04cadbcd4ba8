-- The gap segments of columns of segments, segment by segment
use mathlib.Core.List.{List}
use Prim.Native.Nat.{ℕ}
use lib.ListN.{get_or}
use Rattle.overlaps.specs.GapSegments.{Overlap, overlaps_of, gap_segments}
use Rattle.overlaps.specs.ValuedColumns.{ValuedColumns}

module _ (segments : ValuedColumns) (froms tos : List ℕ) where
  abbrev pub found_of : ℕ → List Overlap
  found_of k = overlaps_of froms tos (get_or segments.starts k 0) (get_or segments.ends k 0) (get_or segments.values k 0)

  abbrev pub all_found : List Overlap
  all_found = gap_segments froms tos segments.starts segments.ends segments.values

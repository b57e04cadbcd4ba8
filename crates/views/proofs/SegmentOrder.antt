-- Gap segments are in order as the walkers need it: their gaps do not fall, and they are nonempty, ordered and disjoint
use mathlib.Core.Path.{◌≡◌, ap}
use mathlib.Core.Logic.{⊎_elim}
use mathlib.Core.List.{List}
use Prim.Native.Nat.{ℕ, ◌≤◌, ◌<◌}
use native.Mathlib.Nat.{le_of_eq}
use native.Mathlib.Omega.{arith}
use lib.ListN.{length, get_or, length-map}
use Rattle.columns.proofs.Firsts.{split}
use Rattle.columns.specs.Table.{row_before}
use Rattle.overlaps.specs.Live.{Gaps, Segments}
use Rattle.overlaps.specs.GapSegments.{Overlap, gap_segments}
use Rattle.overlaps.proofs.SegmentOrder.{InOrder, gap_segments_order, from_column, to_column, gap_column, row_in_gap, rows_apart, later_gap}
use Rattle.walks.specs.Gaps.{OrderedGaps}
use Rattle.views.specs.View.{in_columns}

module _ (froms tos : List ℕ) (gaps : Gaps froms tos) where
  rows_ordered : (p : ℕ) (rows : List Overlap) (q : ℕ) → InOrder froms tos p rows q → OrderedGaps (in_columns rows)
  rows_ordered p rows q w =
      record {
        gaps =
            λ i k l h. ⊎_elim (λ m. lower i k m (there h))
            (λ m. let e : i ≡ k = omega (arith, l, m) in le_of_eq (ap (λ (x : ℕ). get_or (gap_column rows) x 0) e)) (split i k);
        nonempty = λ k h. (row_in_gap froms tos p rows q w k (there h)).some;
        apart = λ i k l h. rows_apart froms tos p rows q w i k l (there h);
      }
    where
      long : length (from_column rows) ≡ length rows
      long = length-map rows (λ (s : Overlap). s.from)

      there : {k : ℕ} → k < length (from_column rows) → k < length rows
      there h = let e = long in omega (arith, h, e)

      lower : (i k : ℕ) → i < k → k < length rows → get_or (gap_column rows) i 0 ≤ get_or (gap_column rows) k 0
      lower i k l h =
          later_gap froms tos gaps (get_or (from_column rows) i 0) (get_or (to_column rows) i 0) (get_or (gap_column rows) i 0) (get_or (from_column rows) k 0)
          (get_or (to_column rows) k 0) (get_or (gap_column rows) k 0)
          (row_in_gap froms tos p rows q w i (omega (arith, l, h))) (row_in_gap froms tos p rows q w k h) (rows_apart froms tos p rows q w i k l h)

pub segments_ordered : (froms tos starts ends values : List ℕ) → Gaps froms tos → Segments starts ends
    → OrderedGaps (in_columns (gap_segments froms tos starts ends values))
segments_ordered froms tos starts ends values gaps segments =
    rows_ordered froms tos gaps 0 (gap_segments froms tos starts ends values) (row_before ends 0 (length starts))
    (gap_segments_order froms tos gaps starts ends values segments)

-- The gap segments are all nonempty overlaps of gap and segment, in order
use mathlib.Core.Path.{◌≡◌, sym, subst}
use mathlib.Core.List.{List}
use Prim.Native.Nat.{ℕ, ◌<◌, zero-le}
use native.Mathlib.Omega.{arith}
use lib.Dec.{ltb, ltb→lt, lt→ltb}
use lib.ListN.{length, get_or, get_or-map}
use Rattle.columns.specs.Below.{Some}
use Rattle.columns.specs.Table.{row_before}
use Rattle.columns.proofs.OneOf.{same_one, one_if, joined_some, some_joined}
use Rattle.overlaps.specs.Live.{Gaps, Segments}
use Rattle.overlaps.specs.GapSegments.{Overlap, overlap_with, overlaps_of, gap_segments, no_overlap, overlap_of, IsOverlap, AllOverlaps}
use Rattle.overlaps.proofs.SegmentOrder.{gap_segments_order, rows_apart}

module _ (froms tos starts ends values : List ℕ) where
  -- an overlap that is a row
  abbrev Among : List Overlap → Overlap → Type 0
  Among rows r = Some (length rows) (λ (k : ℕ). get_or rows k no_overlap ≡ r)

  abbrev overlaps : ℕ → List Overlap
  overlaps i = overlaps_of froms tos (get_or starts i 0) (get_or ends i 0) (get_or values i 0)

  abbrev overlap : ℕ → ℕ → Overlap
  overlap i g = overlap_of froms tos starts ends values i g

  -- of one segment and one gap
  one_out : (i g : ℕ) (r : Overlap) → i < length starts → g < length froms
      → Among (overlap_with froms tos (get_or starts i 0) (get_or ends i 0) (get_or values i 0) g) r → IsOverlap froms tos starts ends values r
  unfolding overlap_with
  one_out i g r p q s =
      let b = (one_if (same_one no_overlap r) (ltb (overlap i g).from (overlap i g).to) (overlap i g)).0 s in
      record {
        segment = i;
        gap = g;
        segment_known = p;
        gap_known = q;
        is = sym b.1;
        some = subst (λ (x : Overlap). x.from < x.to) b.1 (ltb→lt (overlap i g).from (overlap i g).to b.0);
      }

  one_in : (r : Overlap) (o : IsOverlap froms tos starts ends values r)
      → Among (overlap_with froms tos (get_or starts o.segment 0) (get_or ends o.segment 0) (get_or values o.segment 0) o.gap) r
  unfolding overlap_with
  one_in r o =
      let x = overlap o.segment o.gap in
      (one_if (same_one no_overlap r) (ltb x.from x.to) x).1
      (lt→ltb x.from x.to (subst (λ (y : Overlap). y.from < y.to) o.is o.some), sym o.is)

  -- of all
  rows_out : (r : Overlap) → Among (gap_segments froms tos starts ends values) r → IsOverlap froms tos starts ends values r
  unfolding overlaps_of
  rows_out r h =
      let s = joined_some (same_one no_overlap r) overlaps 0 (length starts) h in
      let i = s.at in
      let a = s.inside in
      let t = joined_some (same_one no_overlap r) (overlap_with froms tos (get_or starts i 0) (get_or ends i 0) (get_or values i 0)) 0 (length froms) s.is.1 in
      let b = t.inside in
      one_out i t.at r (omega (arith, a)) (omega (arith, b)) t.is.1

  rows_in : (r : Overlap) → IsOverlap froms tos starts ends values r → Among (gap_segments froms tos starts ends values) r
  unfolding overlaps_of
  rows_in r o =
      let i = o.segment in
      let a = o.segment_known in
      let b = o.gap_known in
      some_joined (same_one no_overlap r) overlaps 0 (length starts) i zero-le (omega (arith, a))
      (some_joined (same_one no_overlap r) (overlap_with froms tos (get_or starts i 0) (get_or ends i 0) (get_or values i 0)) 0 (length froms) o.gap zero-le
      (omega (arith, b)) (one_in r o))

  pub all_overlaps : Gaps froms tos → Segments starts ends → AllOverlaps froms tos starts ends values (gap_segments froms tos starts ends values)
  all_overlaps gaps segments =
      let rows = gap_segments froms tos starts ends values in
      record {
        exactly = λ r. (rows_out r, rows_in r);
        ordered = λ i k l h.
            let a = rows_apart froms tos 0 rows (row_before ends 0 (length starts)) (gap_segments_order froms tos gaps starts ends values segments) i k l h in
            let b = get_or-map (λ (s : Overlap). s.to) rows i no_overlap in
            let c = get_or-map (λ (s : Overlap). s.from) rows k no_overlap in
            omega (arith, a, b, c);
      }

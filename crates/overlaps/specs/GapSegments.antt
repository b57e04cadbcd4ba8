-- Gap segments: all nonempty overlaps of gap and segment, in order
use Rattle.std.specs.Prelude.{◌≡◌, ℕ, ◌+◌, ◌*◌, ◌≤◌, ◌<◌, min, max, ◌↔◌, cond, List, [], ◌∷◌, map, ltb, length, get_or, set}
use Rattle.columns.specs.Below.{Some, joined}
use Rattle.columns.specs.Table.{filled, stored_in}
use Rattle.jobs.specs.declared.rows.Segment.{Segment}
use Rattle.overlaps.specs.Live.{Segments}

-- the values of segments
abbrev pub values_in : List Segment → List ℕ
values_in segments = map (λ (s : Segment). s.value) segments

-- a gap segment: points from one to before another, the segment's value, and the gap
pub record Overlap : Type 0 where
  pub from : ℕ
  pub to : ℕ
  pub value : ℕ
  pub gap : ℕ

-- the points from one to before another, if there are any
abbrev pub nonempty : ℕ → ℕ → ℕ → ℕ → List Overlap
nonempty from to value gap = cond (ltb from to) (record { from = from; to = to; value = value; gap = gap } ∷ []) []

-- the overlap of a segment with gap g
unfoldable pub overlap_with : List ℕ → List ℕ → ℕ → ℕ → ℕ → ℕ → List Overlap
overlap_with froms tos start end value g = nonempty (max start (4 * get_or froms g 0)) (min end (4 * get_or tos g 0)) value g

-- the gap segments of a segment
unfoldable pub overlaps_of : List ℕ → List ℕ → ℕ → ℕ → ℕ → List Overlap
overlaps_of froms tos start end value = joined (overlap_with froms tos start end value) 0 (length froms)

-- the gap segments
abbrev pub gap_segments : List ℕ → List ℕ → List ℕ → List ℕ → List ℕ → List Overlap
gap_segments froms tos starts ends values =
    joined (λ (i : ℕ). overlaps_of froms tos (get_or starts i 0) (get_or ends i 0) (get_or values i 0)) 0 (length starts)

-- no gap segment: what stands past the rows
abbrev pub no_overlap : Overlap
no_overlap = record { from = 0; to = 0; value = 0; gap = 0 }

-- the overlap of segment i and gap g: the points of both
abbrev pub overlap_of : List ℕ → List ℕ → List ℕ → List ℕ → List ℕ → ℕ → ℕ → Overlap
overlap_of froms tos starts ends values i g =
    record { from = max (get_or starts i 0) (4 * get_or froms g 0); to = min (get_or ends i 0) (4 * get_or tos g 0); value = get_or values i 0; gap = g }

-- a row is the overlap of a segment and a gap, and has points
pub record IsOverlap (froms tos starts ends values : List ℕ) (r : Overlap) : Type 0 where
  pub segment : ℕ
  pub gap : ℕ
  pub segment_known : segment < length starts
  pub gap_known : gap < length froms
  pub is : r ≡ overlap_of froms tos starts ends values segment gap
  pub some : r.from < r.to

-- rows are all nonempty overlaps of gap and segment, in order
pub record AllOverlaps (froms tos starts ends values : List ℕ) (rows : List Overlap) : Type 0 where
  -- what is a row is such an overlap, and each such overlap is a row
  pub exactly : (r : Overlap) → Some (length rows) (λ (k : ℕ). get_or rows k no_overlap ≡ r) ↔ IsOverlap froms tos starts ends values r
  -- each ends by the start of every later one, so none stands twice
  pub ordered : (i k : ℕ) → i < k → k < length rows → (get_or rows i no_overlap).to ≤ (get_or rows k no_overlap).from

-- segments as in the count of live instructions, and each has a value
pub record Valued (starts ends values : List ℕ) : Type 0 where
  pub bounds : Segments starts ends
  pub long : length values ≡ length starts

-- the lent columns, and how many of their rows are used
pub record SegmentColumns : Type 0 where
  pub from : List ℕ
  pub to : List ℕ
  pub value : List ℕ
  pub gap : List ℕ
  pub used : ℕ

abbrev pub segment_columns : List ℕ → List ℕ → List ℕ → List ℕ → ℕ → SegmentColumns
segment_columns from to value gap used = record { from = from; to = to; value = value; gap = gap; used = used }

-- there is room for n more rows
pub record SegmentRoom (n : ℕ) (c : SegmentColumns) : Type 0 where
  pub from : c.used + n ≤ length c.from
  pub to : c.used + n ≤ length c.to
  pub value : c.used + n ≤ length c.value
  pub gap : c.used + n ≤ length c.gap

-- the columns hold the rows from the first on, and past them what was there
pub record Filled (rows : List Overlap) (lent now : SegmentColumns) : Type 0 where
  pub used : now.used ≡ length rows
  pub from : now.from ≡ filled (map (λ (r : Overlap). r.from) rows) lent.from
  pub to : now.to ≡ filled (map (λ (r : Overlap). r.to) rows) lent.to
  pub value : now.value ≡ filled (map (λ (r : Overlap). r.value) rows) lent.value
  pub gap : now.gap ≡ filled (map (λ (r : Overlap). r.gap) rows) lent.gap

-- ---- for functions on the way
-- the gaps before gap g end by a point
pub record EndedBy (froms tos : List ℕ) (point g : ℕ) : Type 0 where
  pub inside : g ≤ length froms
  pub ended : (k : ℕ) → k < g → 4 * get_or tos k 0 ≤ point

-- a row is stored behind those used, and then the others
abbrev pub put_one : Overlap → SegmentColumns → SegmentColumns
put_one r c =
    record {
      from = set c.from c.used r.from;
      to = set c.to c.used r.to;
      value = set c.value c.used r.value;
      gap = set c.gap c.used r.gap;
      used = c.used + 1;
    }

abbrev pub put : List Overlap → SegmentColumns → SegmentColumns
put rows c = stored_in put_one rows c

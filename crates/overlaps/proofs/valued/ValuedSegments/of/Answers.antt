-- `ValuedSegments::of` cuts three columns to as many rows as all six have
use mathlib.Core.Path.{◌≡◌, sym, ap, ◌∙◌}
use mathlib.Core.List.{List}
use Prim.Native.Nat.{ℕ, ◌≤◌}
use native.Mathlib.Nat.{le_trans, le_of_eq}
use native.Mathlib.Omega.{arith}
use lib.ListN.{length, take}
use lib.Seq.{length-take-le}
use Rattle.jobs.specs.declared.rows.Segment.{Segment}
use Rattle.jobs.specs.Rows.{segments_of}
use Rattle.overlaps.specs.ValuedColumns.{valued_columns, valued_in}
use Rattle.overlaps.proofs.ValuedLaws.{starts_inside, ends_inside, values_inside, columns_cut}
use Rattle.overlaps.proofs.valued.ValuedSegments.of.Goals as goal

module _ (starts ends values firsts lasts flags : List ℕ) (segments : List Segment) (n : ℕ)
    (view : segments_of starts ends values firsts lasts flags ≡ segments) (count : n ≡ length segments) where
  abbrev rows : List Segment
  rows = segments_of starts ends values firsts lasts flags

  rows_are : n ≡ length rows
  rows_are = count ∙ sym (ap length view)

  -- so many rows each of the three columns has
  long : (n ≤ length starts) × (n ≤ length ends) × (n ≤ length values)
  long = (
    le_trans (le_of_eq rows_are) (starts_inside starts ends values firsts lasts flags),
    le_trans (le_of_eq rows_are) (ends_inside starts ends values firsts lasts flags),
    le_trans (le_of_eq rows_are) (values_inside starts ends values firsts lasts flags),
  )

  columns : valued_columns (take n starts) (take n ends) (take n values) ≡ valued_in segments
  columns =
      ap (λ (m : ℕ). valued_columns (take m starts) (take m ends) (take m values)) rows_are
      ∙ columns_cut starts ends values firsts lasts flags ∙ ap valued_in view

pub slice_bounds-result-end : goal.slice_bounds-result-end
slice_bounds-result-end c =
    let s = c.segments.inside in
    let h = long s.start.now s.end.now s.value.now s.first_use.now s.end_use.now s.flags.now c.args.segments.now c.len-n.result c.segments.view_is
    c.len-n.ensures in
    let x = h.0 in
    let y = h.1 in
    let z = h.2 in
    sym (length-take-le _ _ (omega (arith, x, y, z)))

pub slice_bounds-result-end-2 : goal.slice_bounds-result-end-2
slice_bounds-result-end-2 c =
    let s = c.segments.inside in
    let h = long s.start.now s.end.now s.value.now s.first_use.now s.end_use.now s.flags.now c.args.segments.now c.len-n.result c.segments.view_is
    c.len-n.ensures in
    let x = h.0 in
    let y = h.1 in
    let z = h.2 in
    sym (length-take-le _ _ (omega (arith, x, y, z)))

pub slice_bounds-result-end-3 : goal.slice_bounds-result-end-3
slice_bounds-result-end-3 c =
    let s = c.segments.inside in
    let h = long s.start.now s.end.now s.value.now s.first_use.now s.end_use.now s.flags.now c.args.segments.now c.len-n.result c.segments.view_is
    c.len-n.ensures in
    let x = h.0 in
    let y = h.1 in
    let z = h.2 in
    sym (length-take-le _ _ (omega (arith, x, y, z)))

pub returns : goal.returns
returns c =
    let s = c.segments.inside in
    columns s.start.now s.end.now s.value.now s.first_use.now s.end_use.now s.flags.now c.args.segments.now c.len-n.result c.segments.view_is
    c.len-n.ensures

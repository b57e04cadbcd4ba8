-- Segments that line 5 has passed are as the walks rely on
use mathlib.Core.Path.{◌≡◌, refl, sym, ap, ◌∙◌, subst}
use mathlib.Core.Bool.{false}
use mathlib.Core.List.{List}
use Prim.Native.Nat.{ℕ, zero, suc, ◌*◌, ◌≤◌, ◌<◌}
use native.Mathlib.Omega.{arith}
use lib.ListN.{length, get_or, take, get_or-map, length-map}
use Rattle.links.specs.Blocks.{end_limit}
use Rattle.columns.specs.Table.{row_before}
use Rattle.jobs.specs.declared.rows.Segment.{Segment}
use Rattle.jobs.specs.declared.rows.Limits.{Limits}
use Rattle.jobs.specs.Rows.{segments_of, no_segment}
use Rattle.jobs.specs.Lines.{bad_segment}
use Rattle.jobs.proofs.Sound.{segment_bounded}
use Rattle.overlaps.specs.Live.{Segments, SoundSegments, starts_in, ends_in}
use Rattle.overlaps.specs.GapSegments.{Valued}
use Rattle.overlaps.proofs.ValuedLaws.{starts_cut, ends_cut, values_cut}

-- a row's fields are the columns' numbers
module _ (segments : List Segment) where
  pub start_at : (i : ℕ) → (get_or segments i no_segment).start ≡ get_or (starts_in segments) i 0
  start_at i = sym (get_or-map (λ (s : Segment). s.start) segments i no_segment)

  pub end_at : (i : ℕ) → (get_or segments i no_segment).end ≡ get_or (ends_in segments) i 0
  end_at i = sym (get_or-map (λ (s : Segment). s.end) segments i no_segment)

  pub end_before : (i : ℕ) → (row_before segments no_segment i).end ≡ row_before (ends_in segments) 0 i
  end_before zero = refl
  end_before (suc i) = end_at i

  pub starts_long : length (starts_in segments) ≡ length segments
  starts_long = length-map segments (λ (s : Segment). s.start)

module _ (limits : Limits) (segments : List Segment) (blocks : limits.end ≤ 4 * end_limit)
    (passed : (i : ℕ) → i < length segments → bad_segment limits segments i ≡ false) where
  there : {i : ℕ} → i < length (starts_in segments) → i < length segments
  there h = let e = starts_long segments in omega (arith, h, e)

  pub checked_segments : SoundSegments segments
  checked_segments =
      record {
        long = length-map segments (λ (s : Segment). s.end) ∙ sym (starts_long segments);
        nonempty =
            λ i h. let b = (segment_bounded limits segments passed i (there h)).nonempty in let s = start_at segments i in let e = end_at segments i in
            omega (arith, b, s, e);
        after =
            λ i h. let b = (segment_bounded limits segments passed i (there h)).after in let s = start_at segments i in let e = end_before segments i in
            omega (arith, b, s, e);
        inside = λ i h. let b = (segment_bounded limits segments passed i (there h)).inside in let e = end_at segments i in omega (arith, b, e, blocks);
      }

-- and so are the columns that they are lent in, each cut to as many rows as there are segments
module _ (limits : Limits) (starts ends values firsts lasts flags : List ℕ) (blocks : limits.end ≤ 4 * end_limit)
    (passed : (i : ℕ) → i < length (segments_of starts ends values firsts lasts flags)
    → bad_segment limits (segments_of starts ends values firsts lasts flags) i ≡ false) where
  abbrev pub rows : List Segment
  rows = segments_of starts ends values firsts lasts flags

  pub checked_columns : Segments (take (length rows) starts) (take (length rows) ends)
  checked_columns =
      subst (λ (c : List ℕ). Segments c (take (length rows) ends)) (sym (starts_cut starts ends values firsts lasts flags))
      (subst (λ (c : List ℕ). Segments (starts_in rows) c) (sym (ends_cut starts ends values firsts lasts flags))
      (checked_segments limits rows blocks passed))

  pub checked_valued : Valued (take (length rows) starts) (take (length rows) ends) (take (length rows) values)
  checked_valued =
      record {
        bounds = checked_columns;
        long =
            ap length (values_cut starts ends values firsts lasts flags) ∙ length-map rows (λ (s : Segment). s.value)
            ∙ sym (starts_long rows) ∙ sym (ap length (starts_cut starts ends values firsts lasts flags));
      }

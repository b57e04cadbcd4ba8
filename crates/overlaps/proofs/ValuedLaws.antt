-- A job's segments in the columns that they are lent in: each of the three that gaps are made of, cut to as many rows as there are segments, is that
-- field of the rows
use mathlib.Core.Path.{◌≡◌, refl, sym, ap, ◌∙◌}
use mathlib.Core.List.{List, [], ◌∷◌, map}
use Prim.Native.Nat.{ℕ, ◌≤◌, ◌<◌}
use native.Mathlib.Nat.{le_trans, le_of_eq, lt_of_lt_of_le}
use native.Mathlib.Omega.{arith}
use lib.ListN.{length, get_or, take, length-map}
use Rattle.columns.specs.Table.{table, shortest}
use Rattle.columns.proofs.Tables.{table_length, table_map, table_same, shortest_at_most}
use Rattle.columns.proofs.Fillings.{cut_table}
use Rattle.jobs.specs.declared.rows.Segment.{Segment}
use Rattle.jobs.specs.Rows.{segment_row, segments_of}
use Rattle.overlaps.specs.Live.{SoundSegments, starts_in, ends_in}
use Rattle.overlaps.specs.GapSegments.{values_in, Valued}
use Rattle.overlaps.specs.ValuedColumns.{ValuedColumns, valued_columns, valued_in, ValuedAt}

module _ (starts ends values firsts lasts flags : List ℕ) where
  abbrev rows : List Segment
  rows = segments_of starts ends values firsts lasts flags

  abbrev lengths : List ℕ
  lengths = length starts ∷ length ends ∷ length values ∷ length firsts ∷ length lasts ∷ length flags ∷ []

  abbrev row_at : ℕ → Segment
  row_at = segment_row starts ends values firsts lasts flags

  count : length rows ≡ shortest lengths
  count = table_length row_at (shortest lengths)

  inside : (k : ℕ) → k < length lengths → length rows ≤ get_or lengths k 0
  inside k h = le_trans (le_of_eq count) (shortest_at_most lengths k h)

  -- a column is that of the rows' fields
  field_cut : (of : Segment → ℕ) (column : List ℕ) → ((i : ℕ) → of (row_at i) ≡ get_or column i 0) → length rows ≤ length column
      → take (length rows) column ≡ map of rows
  field_cut of column is h =
      cut_table column (length rows) 0 h ∙ ap (table (λ (k : ℕ). get_or column k 0)) count
      ∙ sym (table_map of row_at (shortest lengths) ∙ table_same (λ (k : ℕ). of (row_at k)) (λ (k : ℕ). get_or column k 0) (shortest lengths) (λ k _. is k))

  pub starts_inside : length (segments_of starts ends values firsts lasts flags) ≤ length starts
  starts_inside = inside 0 (omega arith)

  pub ends_inside : length (segments_of starts ends values firsts lasts flags) ≤ length ends
  ends_inside = inside 1 (omega arith)

  pub values_inside : length (segments_of starts ends values firsts lasts flags) ≤ length values
  values_inside = inside 2 (omega arith)

  pub starts_cut : take (length (segments_of starts ends values firsts lasts flags)) starts ≡ starts_in (segments_of starts ends values firsts lasts flags)
  starts_cut = field_cut (λ s. s.start) starts (λ i. refl) starts_inside

  pub ends_cut : take (length (segments_of starts ends values firsts lasts flags)) ends ≡ ends_in (segments_of starts ends values firsts lasts flags)
  ends_cut = field_cut (λ s. s.end) ends (λ i. refl) ends_inside

  pub values_cut : take (length (segments_of starts ends values firsts lasts flags)) values ≡ values_in (segments_of starts ends values firsts lasts flags)
  values_cut = field_cut (λ s. s.value) values (λ i. refl) values_inside

  -- and so are the three together
  pub columns_cut :
      let n = length (segments_of starts ends values firsts lasts flags) in
      valued_columns (take n starts) (take n ends) (take n values) ≡ valued_in (segments_of starts ends values firsts lasts flags)
  columns_cut = λ i. valued_columns (starts_cut i) (ends_cut i) (values_cut i)

-- a table of segments as the walks rely on is valued: each of its rows has a value
pub sound_valued : (segments : List Segment) → SoundSegments segments → Valued (starts_in segments) (ends_in segments) (values_in segments)
sound_valued segments sound =
    record { bounds = sound; long = length-map segments (λ (s : Segment). s.value) ∙ sym (length-map segments (λ (s : Segment). s.start)) }

-- and its columns have each of its rows
pub columns_have : (segments : List Segment) (i : ℕ) → i < length segments → ValuedAt i (valued_in segments)
columns_have segments i h =
    record {
      start = lt_of_lt_of_le h (le_of_eq (sym (length-map segments (λ (s : Segment). s.start))));
      end = lt_of_lt_of_le h (le_of_eq (sym (length-map segments (λ (s : Segment). s.end))));
      value = lt_of_lt_of_le h (le_of_eq (sym (length-map segments (λ (s : Segment). s.value))));
    }

-- valued segments have each row in all three columns
pub valued_has : (segments : ValuedColumns) → Valued segments.starts segments.ends segments.values → (i : ℕ) → i < length segments.starts
    → ValuedAt i segments
valued_has segments valued i h =
    record { start = h; end = lt_of_lt_of_le h (le_of_eq (sym valued.bounds.long)); value = lt_of_lt_of_le h (le_of_eq (sym valued.long)) }

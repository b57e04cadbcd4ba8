-- The gap table built: gaps that are cut, and the live instructions that are counted in them
use mathlib.Core.Path.{◌≡◌, refl, sym, ap, ap₂, ◌∙◌, subst}
use mathlib.Core.List.{List, ◌++◌}
use Prim.Native.Nat.{ℕ, ◌≤◌}
use native.Mathlib.Omega.{arith}
use lib.ListN.{length, take, drop, length-map}
use Rattle.std.proofs.lemmas.List.{take-append-drop}
use Rattle.columns.specs.Table.{filled}
use Rattle.columns.proofs.Fillings.{filled_cut}
use Rattle.overlaps.specs.Live.{live_column}
use Rattle.overlaps.specs.GapSegments.{gap_segments, SegmentColumns, SegmentRoom, Filled}
use Rattle.gaps.specs.Gaps.{Gap, gap_weight}
use Rattle.gaps.specs.GapColumns.{GapColumns, gap_columns, froms_of, tos_of, gap_segments_of, Rows, GapsHeld}
use Rattle.gaps.specs.Cutting.{CutColumns, cut_columns, stored_gaps, CutRows}
use Rattle.gaps.proofs.StoredGaps.{rows_stored, field_filled}

pub cut_rows : (n : ℕ) (lent : GapColumns) → Rows n lent → CutRows n (cut_columns lent.froms lent.tos lent.weights lent.freqs lent.blocks)
cut_rows n lent r = record { from = r.from; to = r.to; weight = r.weight; freq = r.freq; block = r.block }

module _ (gaps : List Gap) (lent : GapColumns) (rows : Rows (length gaps) lent) (now : CutColumns) (n : ℕ) (count : n ≡ length gaps)
    (stored : now ≡ stored_gaps 0 gaps (cut_columns lent.froms lent.tos lent.weights lent.freqs lent.blocks)) where
  abbrev columns : CutColumns
  columns = cut_columns lent.froms lent.tos lent.weights lent.freqs lent.blocks

  -- they have their rows still
  rows_now : CutRows (length gaps) now
  rows_now = subst (CutRows (length gaps)) (sym stored) (rows_stored (length gaps) 0 gaps columns (cut_rows (length gaps) lent rows))

  pub froms_room : n ≤ length now.froms
  froms_room = let r = rows_now.from in omega (arith, count, r)

  pub tos_room : n ≤ length now.tos
  tos_room = let r = rows_now.to in omega (arith, count, r)

  froms_are : now.froms ≡ filled (froms_of gaps) lent.froms
  froms_are = field_filled (λ c. c.froms) (λ g. g.from) (λ at g c. refl) gaps columns now rows.from stored

  tos_are : now.tos ≡ filled (tos_of gaps) lent.tos
  tos_are = field_filled (λ c. c.tos) (λ g. g.to) (λ at g c. refl) gaps columns now rows.to stored

  froms_long : length (froms_of gaps) ≡ length gaps
  froms_long = length-map gaps (λ (g : Gap). g.from)

  tos_long : length (tos_of gaps) ≡ length gaps
  tos_long = length-map gaps (λ (g : Gap). g.to)

  -- cut to their rows the columns are those of the gaps
  pub froms_cut : take n now.froms ≡ froms_of gaps
  froms_cut = filled_cut (froms_of gaps) lent.froms froms_are (count ∙ sym froms_long)

  pub tos_cut : take n now.tos ≡ tos_of gaps
  tos_cut = filled_cut (tos_of gaps) lent.tos tos_are (count ∙ sym tos_long)

  -- the live column, which cutting leaves, has a row for each
  pub lives_room : (lives : List ℕ) → lives ≡ lent.lives → length (take n now.froms) ≤ length lives
  lives_room lives kept =
      let a = ap length froms_cut in let b = froms_long in let r = rows.live in let k = ap length kept in omega (arith, a, b, r, k)

  module _ (starts ends values : List ℕ) where
    -- what is said of the columns cut is said of the gaps
    segments_cut : gap_segments (take n now.froms) (take n now.tos) starts ends values ≡ gap_segments_of gaps starts ends values
    segments_cut = ap₂ (λ (a b : List ℕ). gap_segments a b starts ends values) froms_cut tos_cut

    pub segments_room : (lent-segments : SegmentColumns) → SegmentRoom (length (gap_segments_of gaps starts ends values)) lent-segments
        → SegmentRoom (length (gap_segments (take n now.froms) (take n now.tos) starts ends values)) lent-segments
    segments_room lent-segments room = subst (λ rows. SegmentRoom (length rows) lent-segments) (sym segments_cut) room

    pub segments_filled : (lent-segments segments : SegmentColumns)
        → Filled (gap_segments (take n now.froms) (take n now.tos) starts ends values) lent-segments segments
        → Filled (gap_segments_of gaps starts ends values) lent-segments segments
    segments_filled lent-segments segments f = subst (λ rows. Filled rows lent-segments segments) segments_cut f

  -- the gap table holds the gaps with what is counted in them; what of two columns was read is lent back with the rest
  pub table_held : (starts ends lives live : List ℕ) → lives ≡ lent.lives
      → live ≡ filled (live_column starts ends (take n now.froms) (take n now.tos)) lives
      → GapsHeld gaps starts ends lent
      (gap_columns (take n now.froms ++ drop n now.froms) (take n now.tos ++ drop n now.tos) now.weights live now.freqs now.blocks) n
  table_held starts ends lives live kept l =
      record {
        count = count;
        from = take-append-drop n now.froms ∙ froms_are;
        to = take-append-drop n now.tos ∙ tos_are;
        weight = field_filled (λ c. c.weights) gap_weight (λ at g c. refl) gaps columns now rows.weight stored;
        live = l ∙ ap (filled (live_column starts ends (take n now.froms) (take n now.tos))) kept
            ∙ ap₂ (λ (a b : List ℕ). filled (live_column starts ends a b) lent.lives) froms_cut tos_cut;
        freq = field_filled (λ c. c.freqs) (λ g. g.freq) (λ at g c. refl) gaps columns now rows.freq stored;
        block = field_filled (λ c. c.blocks) (λ g. g.block) (λ at g c. refl) gaps columns now rows.block stored;
      }

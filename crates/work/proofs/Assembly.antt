-- The tables filled one after the other: of a checked job each call's answer is what the next one relies on, and in the end all is as the definition says
use mathlib.Core.Path.{◌≡◌, refl, sym, ap, ◌∙◌, subst}
use mathlib.Core.List.{List, map}
use Prim.Native.Nat.{ℕ, ◌+◌, ◌≤◌, ◌<◌}
use native.Mathlib.Nat.{le_trans, le_of_eq}
use native.Mathlib.Omega.{arith}
use lib.ListN.{length, take, length-map}
use Rattle.columns.specs.Table.{filled}
use Rattle.columns.proofs.Tables.{table_length}
use Rattle.columns.proofs.Fillings.{filled_cut, filled_long}
use Rattle.numbers.specs.declared.costs.RematScales.{RematScales}
use Rattle.links.specs.Blocks.{blocks_of, SoundColumns}
use Rattle.links.specs.Links.{link_column, lower_link}
use Rattle.links.specs.declared.lower.Side.{Side}
use Rattle.links.specs.declared.lower.Side.TheVariants.{Previous, Next}
use Rattle.links.proofs.Columns.{list_long, frequency_column}
use Rattle.jobs.specs.Rows.{segments_of}
use Rattle.jobs.specs.declared.rows.Segment.{Segment}
use Rattle.jobs.specs.declared.rows.Use.{Use}
use Rattle.use_rows.specs.Uses.{Source, source_of, use_table_of}
use Rattle.use_rows.specs.UseColumns.{UseColumns, use_columns, Inside}
use Rattle.uses.specs.CheckedUses.{CheckedUses}
use Rattle.use_rows.specs.declared.row.SplitUse.{SplitUse}
use Rattle.uses.proofs.UseTable.{use_table_few, held_insts, held_mains, held_lefts, held_rights}
use Rattle.uses.proofs.Best.{best_inside}
use Rattle.overlaps.specs.Live.{SoundSegments, starts_in, ends_in}
use Rattle.overlaps.specs.GapSegments.{values_in, Valued, SegmentColumns, SegmentRoom, Filled}
use Rattle.overlaps.specs.ValuedColumns.{ValuedColumns, valued_columns, valued_in}
use Rattle.overlaps.proofs.ValuedLaws.{columns_cut}
use Rattle.gaps.specs.Gaps.{Gap, gaps_of, initial_gap, uses_in, Cuttable}
use Rattle.gaps.specs.GapColumns.{GapColumns, gap_segments_of, Rows, GapsHeld}
use Rattle.gaps.proofs.JobGaps.{table_columns, uses_in_lem, job_cuttable}
use Rattle.filling.specs.UseTables.{FromBits, best_of, UsesFilled}
use Rattle.filling.specs.GapTables.{CutInside, first_uses}
use Rattle.filling.specs.SourceTables.{gaps_from, segments_from, freqs_of, Tables, tables_of_best}
use Rattle.filling.specs.SourceTables.{WorkColumns, work_columns, gap_table, segment_table, rooms_of, Roomy, FilledBy}
use Rattle.filling.proofs.UseFilling.{scales_of}
use Rattle.filling.proofs.SourceTables.{source_segments, source_valued, source_gap_room}
use Rattle.work.specs.FilledFrom.{filled_of_best, IsFilledFrom}
use Rattle.work.specs.declared.fill.FilledTables.TheVariants as FilledTables·is
use Rattle.std.specs.Prelude.{Option, Some, None}

-- ---- the tables of a checked job, and its columns of blocks
module _ (uses : List Use) (segments : List Segment) (codes : List ℕ) (scales : RematScales) (freqs firsts ends : List ℕ) (lent : WorkColumns)
    (given : SoundColumns freqs firsts ends × CheckedUses (source_of uses segments codes scales (blocks_of freqs firsts ends)) × FromBits scales
    × Roomy (length uses) (length (blocks_of freqs firsts ends)) (length segments) (rooms_of lent)) where
  abbrev source : Source
  source = source_of uses segments codes scales (blocks_of freqs firsts ends)

  abbrev w : SoundColumns freqs firsts ends
  w = given.0

  abbrev checked : CheckedUses source
  checked = given.1

  abbrev bits : FromBits scales
  bits = given.2

  abbrev roomy : Roomy (length uses) (length (blocks_of freqs firsts ends)) (length segments) (rooms_of lent)
  roomy = given.3

  blocks_long : length (blocks_of freqs firsts ends) ≡ length freqs
  blocks_long = list_long freqs firsts ends w.firsts_long w.ends_long

  freqs_are : freqs_of source ≡ freqs
  freqs_are = frequency_column freqs firsts ends w.firsts_long w.ends_long

  abbrev lent_uses : UseColumns
  lent_uses = use_columns lent.insts lent.mains lent.lefts lent.rights

  -- ---- before the uses are filled
  pub prevs_room : length freqs ≤ length lent.prevs
  prevs_room = let r = roomy.links in let b = blocks_long in omega (arith, r, b)

  pub nexts_room : length freqs ≤ length lent.nexts
  nexts_room = let r = roomy.links in let b = blocks_long in omega (arith, r, b)

  pub uses_room : Inside (length uses + 1) (use_columns lent.insts lent.mains lent.lefts lent.rights)
  uses_room = let r = roomy.uses in record { inst = omega (arith, r); main = omega (arith, r); left = omega (arith, r); right = omega (arith, r) }

  pub segments_sound : SoundSegments segments
  segments_sound = source_segments source checked w.sound

  pub segments_valued : Valued (starts_in segments) (ends_in segments) (values_in segments)
  segments_valued = source_valued source checked w.sound

  -- and so are the columns that they are lent in, cut to as many rows as there are segments
  pub cut_valued : (starts stops values first_uses end_uses flags : List ℕ) → segments ≡ segments_of starts stops values first_uses end_uses flags
      → Valued (take (length segments) starts) (take (length segments) stops) (take (length segments) values)
  cut_valued starts stops values first_uses end_uses flags e =
      subst (λ (c : ValuedColumns). Valued c.starts c.ends c.values)
      (sym
      (ap (λ (s : List Segment). valued_columns (take (length s) starts) (take (length s) stops) (take (length s) values)) e
      ∙ columns_cut starts stops values first_uses end_uses flags ∙ ap valued_in (sym e)))
      segments_valued

  -- ---- after it
  module _ (prevs nexts : List ℕ) (cols : UseColumns) (rows : ℕ) (best : Option ℕ)
      (done : UsesFilled (source_of uses segments codes scales (blocks_of freqs firsts ends)) freqs lent.prevs lent.nexts (use_columns lent.insts lent.mains lent.lefts lent.rights) prevs
      nexts cols rows best) where
    links_filled : (side : Side) (lent-links : List ℕ) {now : List ℕ} → now ≡ filled (link_column side freqs) lent-links
        → now ≡ filled (link_column side (freqs_of source)) lent-links
    links_filled side lent-links {now} p = p ∙ ap (λ (f : List ℕ). filled (link_column side f) lent-links) (sym freqs_are)

    -- no best use
    pub none_filled : best ≡ None
        → IsFilledFrom (source_of uses segments codes scales (blocks_of freqs firsts ends)) lent (work_columns prevs nexts cols.insts cols.mains cols.lefts cols.rights lent.froms lent.tos
        lent.weights lent.lives lent.freqs lent.blocks lent.segment_froms lent.segment_tos lent.segment_values lent.segment_gaps)
        (FilledTables·is.NoBestUse rows)
    none_filled n =
        let u = done.uses.cols in
        let b : None ≡ best_of source = sym n ∙ done.found in
        record {
          answer = ap FilledTables·is.NoBestUse done.uses.count ∙ ap (filled_of_best source) b;
          tables =
              subst (λ (t : Tables). FilledBy t lent (work_columns prevs nexts cols.insts cols.mains cols.lefts cols.rights lent.froms lent.tos
              lent.weights lent.lives lent.freqs lent.blocks lent.segment_froms lent.segment_tos lent.segment_values lent.segment_gaps))
              (ap (tables_of_best source) b)
              (record {
                prev = links_filled Previous lent.prevs done.prev;
                next = links_filled Next lent.nexts done.next;
                inst = ap (λ (x : UseColumns). x.insts) u;
                main = ap (λ (x : UseColumns). x.mains) u;
                left = ap (λ (x : UseColumns). x.lefts) u;
                right = ap (λ (x : UseColumns). x.rights) u;
                from = refl;
                to = refl;
                weight = refl;
                live = refl;
                freq = refl;
                block = refl;
                segment_from = refl;
                segment_to = refl;
                segment_value = refl;
                segment_gap = refl;
              });
        }

    -- ---- with a best use: before the gaps are filled
    module _ (b : ℕ) (at : best ≡ Some b) where
      best_is : best_of source ≡ Some b
      best_is = sym done.found ∙ at

      b_inside : b < length (use_table_of source)
      b_inside = best_inside source (scales_of scales bits) b best_is

      uses_few : length (use_table_of source) ≤ length source.uses + 2
      uses_few = use_table_few source

      -- the columns cut to their rows
      prevs_cut : take (length freqs) prevs ≡ link_column Previous freqs
      prevs_cut =
          filled_cut (link_column Previous freqs) lent.prevs done.prev (sym (table_length (lower_link Previous freqs) (length freqs)))

      nexts_cut : take (length freqs) nexts ≡ link_column Next freqs
      nexts_cut = filled_cut (link_column Next freqs) lent.nexts done.next (sym (table_length (lower_link Next freqs) (length freqs)))

      abbrev cut : UseColumns
      cut = first_uses rows cols

      cols_cut : cut ≡ table_columns (use_table_of source)
      cols_cut =
          let h = done.uses in
          λ i. record {
            insts = held_insts (use_table_of source) lent_uses cols rows h i;
            mains = held_mains (use_table_of source) lent_uses cols rows h i;
            lefts = held_lefts (use_table_of source) lent_uses cols rows h i;
            rights = held_rights (use_table_of source) lent_uses cols rows h i;
          }

      uses_cut : uses_in cut ≡ use_table_of source
      uses_cut = ap uses_in cols_cut ∙ uses_in_lem (use_table_of source)

      gaps_cut : gaps_of (blocks_of freqs firsts ends) (uses_in cut) b ≡ gaps_from source b
      gaps_cut = ap (λ (u : List SplitUse). gaps_of (blocks_of freqs firsts ends) u b) uses_cut

      -- rows of the columns now
      module _ {A : Type 0} (field : SplitUse → A) (column : UseColumns → List A) (is : column cols ≡ filled (map field (use_table_of source)) (column lent_uses))
          (room : length source.uses + 1 < length (column lent_uses)) where
        rows_inside : rows ≤ length (column cols)
        rows_inside =
            let f = uses_few in
            let m = length-map (use_table_of source) field in
            let a = ap length is in
            let l = filled_long (map field (use_table_of source)) (column lent_uses) (omega (arith, f, m, room)) in
            let d = done.uses.count in
            omega (arith, f, m, room, a, l, d)

      pub cut_inside : CutInside rows cols (length freqs) prevs nexts
          (length segments) (starts_in segments) (ends_in segments) (values_in segments)
      cut_inside =
          let u = done.uses.cols in
          let r = uses_room in
          record {
            inst = rows_inside (λ u. u.inst.0) (λ x. x.insts) (ap (λ (x : UseColumns). x.insts) u) r.inst;
            main = rows_inside (λ u. u.weight) (λ x. x.mains) (ap (λ (x : UseColumns). x.mains) u) r.main;
            left = rows_inside (λ u. u.left_weight) (λ x. x.lefts) (ap (λ (x : UseColumns). x.lefts) u) r.left;
            right = rows_inside (λ u. u.right_weight) (λ x. x.rights) (ap (λ (x : UseColumns). x.rights) u) r.right;
            prev = link_inside Previous lent.prevs prevs_room done.prev;
            next = link_inside Next lent.nexts nexts_room done.next;
            start = le_of_eq (sym (length-map segments (λ (s : Segment). s.start)));
            end = le_of_eq (sym (length-map segments (λ (s : Segment). s.end)));
            value = le_of_eq (sym (length-map segments (λ (s : Segment). s.value)));
          }
        where
          link_inside : (side : Side) (lent-links : List ℕ) {now : List ℕ} → length freqs ≤ length lent-links
              → now ≡ filled (link_column side freqs) lent-links → length freqs ≤ length now
          link_inside side lent-links room is =
              let t = table_length (lower_link side freqs) (length freqs) in
              let a = ap length is in
              let l = filled_long (link_column side freqs) lent-links (le_trans (le_of_eq t) room) in
              omega (arith, room, a, l)

      pub cut_cuttable : Cuttable freqs firsts ends (take (length freqs) prevs) (take (length freqs) nexts)
          (first_uses rows cols) b
      cut_cuttable =
          subst (λ (u : UseColumns). Cuttable freqs firsts ends (take (length freqs) prevs) (take (length freqs) nexts) u b)
          (sym cols_cut)
          (job_cuttable source checked w.sound freqs firsts ends (take (length freqs) prevs) (take (length freqs) nexts) w refl
          prevs_cut nexts_cut b b_inside)

      pub cut_room :
          let gaps = gaps_of (blocks_of freqs firsts ends)
          (uses_in (first_uses rows cols)) b in
          Rows (length gaps) (gap_table lent)
          × SegmentRoom (length (gap_segments_of gaps (starts_in segments) (ends_in segments) (values_in segments))) (segment_table lent 0)
      cut_room =
          subst (λ (g : List Gap). Rows (length g) (gap_table lent)
          × SegmentRoom (length (gap_segments_of g (starts_in segments) (ends_in segments) (values_in segments))) (segment_table lent 0)) (sym gaps_cut)
          (source_gap_room source checked w.sound b b_inside lent roomy)

      -- ---- after it
      pub all_filled : (now : GapColumns) (now-segments : SegmentColumns) (n initial : ℕ) →
          let gaps = gaps_of (blocks_of freqs firsts ends)
          (uses_in (first_uses rows cols)) b in
          GapsHeld gaps (starts_in segments) (ends_in segments) (gap_table lent) now n
          × Filled (gap_segments_of gaps (starts_in segments) (ends_in segments) (values_in segments)) (segment_table lent 0) now-segments
          × (initial ≡ initial_gap (blocks_of freqs firsts ends)
          (uses_in (first_uses rows cols)) b)
          → IsFilledFrom (source_of uses segments codes scales (blocks_of freqs firsts ends)) lent (work_columns prevs nexts cols.insts cols.mains cols.lefts cols.rights now.froms now.tos
          now.weights now.lives now.freqs now.blocks now-segments.from now-segments.to now-segments.value now-segments.gap)
          (FilledTables·is.Ready (record { uses = rows; gaps = n; gap_segments = now-segments.used; own = initial }))
      all_filled now now-segments n initial raw =
          let u = done.uses.cols in
          let d : GapsHeld (gaps_from source b) (starts_in segments) (ends_in segments) (gap_table lent) now n =
          subst (λ (g : List Gap). GapsHeld g (starts_in segments) (ends_in segments) (gap_table lent) now n) gaps_cut raw.0 in
          let f : Filled (segments_from source b) (segment_table lent 0) now-segments =
          subst (λ (g : List Gap). Filled (gap_segments_of g (starts_in segments) (ends_in segments) (values_in segments)) (segment_table lent 0) now-segments) gaps_cut raw.1 in
          let own : initial ≡ initial_gap source.blocks (use_table_of source) b = raw.2
          ∙ ap (λ (x : List SplitUse). initial_gap (blocks_of freqs firsts ends) x b) uses_cut in
          let rows_are = done.uses.count in
          let k : Some b ≡ best_of source = sym best_is in
          record {
            answer =
                (λ i. FilledTables·is.Ready (record { uses = rows_are i; gaps = d.count i; gap_segments = f.used i; own = own i }))
                ∙ ap (filled_of_best source) k;
            tables =
                subst (λ (t : Tables). FilledBy t lent (work_columns prevs nexts cols.insts cols.mains cols.lefts cols.rights now.froms
                now.tos now.weights now.lives now.freqs now.blocks
                now-segments.from now-segments.to now-segments.value now-segments.gap))
                (ap (tables_of_best source) k)
                (record {
                  prev = links_filled Previous lent.prevs done.prev;
                  next = links_filled Next lent.nexts done.next;
                  inst = ap (λ (x : UseColumns). x.insts) u;
                  main = ap (λ (x : UseColumns). x.mains) u;
                  left = ap (λ (x : UseColumns). x.lefts) u;
                  right = ap (λ (x : UseColumns). x.rights) u;
                  from = d.from;
                  to = d.to;
                  weight = d.weight;
                  live = d.live;
                  freq = d.freq;
                  block = d.block;
                  segment_from = f.from;
                  segment_to = f.to;
                  segment_value = f.value;
                  segment_gap = f.gap;
                });
          }

-- The work tables of a checked job: its segments are in order, and its gaps and gap segments are few
use mathlib.Core.Path.{◌≡◌, refl, sym, ap, ◌∙◌}
use mathlib.Core.List.{List, [], ◌∷◌}
use Prim.Native.Nat.{ℕ, zero, suc, ◌+◌, ◌-◌, ◌≤◌, ◌<◌}
use native.Mathlib.Nat.{le_trans, le_of_eq}
use native.Mathlib.Omega.{arith}
use lib.ListN.{length, get_or, length-map, get_or-map}
use Rattle.columns.specs.Table.{row_before}
use Rattle.columns.specs.Below.{sum_below}
use Rattle.columns.proofs.Tables.{table_at, shortest_at_most}
use Rattle.links.specs.Blocks.{end_limit, SoundBlocks}
use Rattle.links.proofs.Columns.{last_limited}
use Rattle.jobs.specs.declared.rows.Segment.{Segment}
use Rattle.jobs.specs.Rows.{no_segment}
use Rattle.use_rows.specs.Uses.{Source, use_table_of}
use Rattle.uses.specs.CheckedUses.{CheckedUses}
use Rattle.uses.proofs.CheckedJob.{job_bounded}
use Rattle.overlaps.specs.Live.{live_insts, live_in_gap, Segments, Gaps}
use Rattle.overlaps.specs.GapSegments.{Valued, SegmentRoom}
use Rattle.overlaps.proofs.LiveLaws.{last_next, last_of, live_before, live_inside}
use Rattle.overlaps.proofs.LiveTotal.{sum_same}
use Rattle.overlaps.proofs.GapCount.{gap_segments_few}
use Rattle.gaps.specs.Gaps.{Gap}
use Rattle.gaps.proofs.JobGaps.{job_gaps_few, job_gaps_tile, job_live_total}
use Rattle.gaps.specs.GapColumns.{froms_of, tos_of, Rows}
use Rattle.filling.specs.SourceTables.{starts_of, stops_of, values_of, gaps_from, lives_from, segments_from}
use Rattle.filling.specs.SourceTables.{WorkColumns, gap_table, segment_table, rooms_of, Roomy}

module _ (source : Source) (checked : CheckedUses source) (sound : SoundBlocks source.blocks) where
  -- ---- its segments
  start_at : (i : ℕ) → (get_or source.segments i no_segment).start ≡ get_or (starts_of source) i 0
  start_at i = sym (get_or-map (λ (s : Segment). s.start) source.segments i no_segment)

  pub end_at : (i : ℕ) → (get_or source.segments i no_segment).end ≡ get_or (stops_of source) i 0
  end_at i = sym (get_or-map (λ (s : Segment). s.end) source.segments i no_segment)

  end_before : (i : ℕ) → (row_before source.segments no_segment i).end ≡ row_before (stops_of source) 0 i
  end_before zero = refl
  end_before (suc i) = end_at i

  starts_long : length (starts_of source) ≡ length source.segments
  starts_long = length-map source.segments (λ (s : Segment). s.start)

  there : {i : ℕ} → i < length (starts_of source) → i < length source.segments
  there h = let e = starts_long in omega (arith, h, e)

  -- they are in order, as live instructions and gap segments rely on
  pub source_segments : Segments (starts_of source) (stops_of source)
  source_segments =
      record {
        long = length-map source.segments (λ (s : Segment). s.end) ∙ sym starts_long;
        nonempty = λ i h. let b = (job_bounded source checked i (there h)).nonempty in let s = start_at i in let e = end_at i in omega (arith, b, s, e);
        after = λ i h. let b = (job_bounded source checked i (there h)).after in let s = start_at i in let e = end_before i in omega (arith, b, s, e);
        inside = λ i h.
            let b = (job_bounded source checked i (there h)).inside in
            let e = end_at i in
            let l = checked.end in
            let m = last_limited source.blocks sound in
            omega (arith, b, e, l, m);
      }

  pub source_valued : Valued (starts_of source) (stops_of source) (values_of source)
  source_valued = record { bounds = source_segments; long = length-map source.segments (λ (s : Segment). s.value) ∙ sym starts_long }

  -- their live instructions alone lie inside the blocks
  live_few : live_insts (starts_of source) (stops_of source) ≤ end_limit
  live_few =
      let some = checked.some in
      let e = starts_long in
      let z : length (starts_of source) - 1 + 1 ≡ length (starts_of source) = omega (arith, some, e) in
      let b = live_before (starts_of source) (stops_of source) source_segments (length (starts_of source)) (le_of_eq refl) in
      let l = ap (last_of (stops_of source)) z in
      let n = last_next (stops_of source) (length (starts_of source) - 1) in
      let i = live_inside (starts_of source) (stops_of source) source_segments (length (starts_of source) - 1) (omega (arith, z)) in
      le_trans b (le_trans (le_of_eq (sym l)) (le_trans (le_of_eq (sym n)) i))

  module _ (best : ℕ) (h : best < length (use_table_of source)) where
    -- ---- its gaps
    abbrev froms : List ℕ
    froms = froms_of (gaps_from source best)

    abbrev tos : List ℕ
    tos = tos_of (gaps_from source best)

    pub source_tiles : Gaps (froms_of (gaps_from source best)) (tos_of (gaps_from source best))
    source_tiles = job_gaps_tile source checked sound best h

    pub source_gaps_few : length (gaps_from source best) ≤ length source.uses + length source.blocks + 2
    source_gaps_few = job_gaps_few source checked sound best h

    froms_long : length froms ≡ length (gaps_from source best)
    froms_long = length-map (gaps_from source best) (λ (g : Gap). g.from)

    -- their live instructions sum to those of the segments alone, and so lie inside the blocks
    pub live_at : (g : ℕ) → g < length (froms_of (gaps_from source best)) → get_or (lives_from source best) g 0
        ≡ live_in_gap (starts_of source) (stops_of source) (get_or (froms_of (gaps_from source best)) g 0) (get_or (tos_of (gaps_from source best)) g 0)
    live_at g l = table_at (λ (g : ℕ). live_in_gap (starts_of source) (stops_of source) (get_or froms g 0) (get_or tos g 0)) (length froms) g 0 l

    pub source_lives_total : sum_below (λ (g : ℕ). get_or (lives_from source best) g 0) (length (froms_of (gaps_from source best)))
        ≡ live_insts (starts_of source) (stops_of source)
    source_lives_total =
        sum_same (λ (g : ℕ). get_or (lives_from source best) g 0) (λ (g : ℕ). live_in_gap (starts_of source) (stops_of source) (get_or froms g 0) (get_or tos g 0))
        (length froms) live_at
        ∙ job_live_total source checked sound best h (starts_of source) (stops_of source) starts_long (λ i _. start_at i) (λ i _. end_at i)

    pub source_lives_few : sum_below (λ (g : ℕ). get_or (lives_from source best) g 0) (length (froms_of (gaps_from source best))) ≤ end_limit
    source_lives_few = le_trans (le_of_eq source_lives_total) live_few

    -- ---- room for its gap segments
    pub source_segments_few : length (segments_from source best) ≤ length source.uses + length source.blocks + length source.segments + 2
    source_segments_few =
        let f = gap_segments_few froms tos (starts_of source) (stops_of source) (values_of source) source_tiles source_segments in
        let l = froms_long in
        let g = source_gaps_few in
        let s = starts_long in
        omega (arith, f, l, g, s)

    -- and for all of them in lent columns
    pub source_gap_room : (lent : WorkColumns) → Roomy (length source.uses) (length source.blocks) (length source.segments) (rooms_of lent)
        → Rows (length (gaps_from source best)) (gap_table lent) × SegmentRoom (length (segments_from source best)) (segment_table lent 0)
    source_gap_room lent roomy =
        let gap-lengths = length lent.froms ∷ length lent.tos ∷ length lent.weights ∷ length lent.lives ∷ length lent.freqs
        ∷ length lent.blocks ∷ [] in
        let segment-lengths = length lent.segment_froms ∷ length lent.segment_tos ∷ length lent.segment_values ∷ length lent.segment_gaps ∷ [] in
        let g = le_trans source_gaps_few roomy.gaps in
        let s = le_trans source_segments_few roomy.gap_segments in (
          record {
            from = le_trans g (shortest_at_most gap-lengths 0 (omega arith));
            to = le_trans g (shortest_at_most gap-lengths 1 (omega arith));
            weight = le_trans g (shortest_at_most gap-lengths 2 (omega arith));
            live = le_trans g (shortest_at_most gap-lengths 3 (omega arith));
            freq = le_trans g (shortest_at_most gap-lengths 4 (omega arith));
            block = le_trans g (shortest_at_most gap-lengths 5 (omega arith));
          },
          record {
            from = from_none (le_trans s (shortest_at_most segment-lengths 0 (omega arith)));
            to = from_none (le_trans s (shortest_at_most segment-lengths 1 (omega arith)));
            value = from_none (le_trans s (shortest_at_most segment-lengths 2 (omega arith)));
            gap = from_none (le_trans s (shortest_at_most segment-lengths 3 (omega arith)));
          },
        )
      where
        from_none : {n m : ℕ} → n ≤ m → 0 + n ≤ m
        from_none h = omega (arith, h)

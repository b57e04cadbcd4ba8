-- The laws of the tables hold of every checked job with a best use
use mathlib.Core.Path.{◌≡◌, sym, ap, ◌∙◌, subst}
use mathlib.Core.List.{[], map}
use Prim.Native.Nat.{ℕ, ◌-◌, ◌*◌, ◌≤◌, ◌<◌}
use native.Mathlib.Nat.{le_trans, le_of_eq}
use native.Mathlib.Omega.{arith}
use lib.Dec.{lit≤}
use lib.ListN.{length, get_or, length-map, get_or-map}
use lib.Seq.{get_or-append_seam}
use Rattle.numbers.specs.Weight.{zero_weight}
use Rattle.columns.specs.Below.{sum_below}
use Rattle.columns.proofs.Tables.{table_length, table_at}
use Rattle.links.specs.Blocks.{BlockRow, start_of, SoundBlocks}
use Rattle.links.specs.Links.{on_side, lower_link, link_column, IsLink}
use Rattle.links.specs.declared.lower.Side.{Side}
use Rattle.links.specs.declared.lower.Side.TheVariants.{Previous, Next}
use Rattle.jobs.specs.declared.rows.Segment.{Segment}
use Rattle.use_rows.specs.Uses.{Source, use_table_of}
use Rattle.links.proofs.Linking.{link_nearest}
use Rattle.uses.specs.CheckedUses.{CheckedUses}
use Rattle.uses.proofs.EdgeWeights.{first_no_left, last_no_right}
use Rattle.uses.proofs.CheckedJob.{job_bounded}
use Rattle.overlaps.specs.Live.{live_in_gap}
use Rattle.overlaps.proofs.LiveCovered.{gap_covered, live_covered}
use Rattle.overlaps.proofs.AllOverlaps.{all_overlaps}
use Rattle.gaps.specs.Gaps.{Gap, use_of, own_gap, gaps_on, gaps_of, initial_gap}
use Rattle.gaps.proofs.JobGaps.{job_gaps_run, job_gaps_least, job_gaps_nearest, job_weights_once}
use Rattle.gaps.specs.GapColumns.{froms_of, tos_of}
use Rattle.filling.specs.SourceTables.{freqs_of, starts_of, stops_of, values_of, gaps_from, lives_from, tables_of_best}
use Rattle.filling.specs.TableLaws.{TableLaws}
use Rattle.filling.proofs.SourceTables.{source_segments, source_tiles, live_at, source_lives_total, end_at}
use Rattle.std.specs.Prelude.{Some}

-- among the gaps the best use's own is that of its instruction
pub own_gap_is : (source : Source) (best : ℕ) (d : Gap)
    → get_or (gaps_from source best) (initial_gap source.blocks (use_table_of source) best) d ≡ own_gap source.blocks (use_of (use_table_of source) best)
unfolding gaps_of
own_gap_is source best d =
    get_or-append_seam (gaps_on Previous source.blocks (use_table_of source) 0 best) (own_gap source.blocks (use_of (use_table_of source) best))
    (gaps_on Next source.blocks (use_table_of source) best (length (use_table_of source) - 1 - best)) d

-- so in a column of gaps
pub own_at : {A : Type 0} (source : Source) (best : ℕ) (f : Gap → A) (d : Gap)
    → get_or (map f (gaps_from source best)) (initial_gap source.blocks (use_table_of source) best) (f d)
    ≡ f (own_gap source.blocks (use_of (use_table_of source) best))
own_at source best f d =
    get_or-map f (gaps_from source best) (initial_gap source.blocks (use_table_of source) best) d ∙ ap f (own_gap_is source best d)

-- no gap
abbrev no_gap : Gap
no_gap = record { from = 0; to = 0; weights = []; freq = zero_weight; block = 0 }

-- the links that are stored are lower links
stored_links : (source : Source) → SoundBlocks source.blocks → (side : Side) (b : ℕ) → b < length (freqs_of source)
    → IsLink side (freqs_of source) b (get_or (link_column side (freqs_of source)) b 0)
stored_links source sound side b h =
    subst (IsLink side (freqs_of source) b) (sym (table_at (lower_link side (freqs_of source)) (length (freqs_of source)) b 0 h))
    (link_nearest side (freqs_of source) b (le_trans (le_of_eq (length-map source.blocks (λ (r : BlockRow). r.frequency)))
    (le_trans sound.few (lit≤ tt))) h)

by_side : (source : Source) → SoundBlocks source.blocks → (side : Side) (b : ℕ) → b < length (freqs_of source)
    → IsLink side (freqs_of source) b (get_or (on_side side (link_column Previous (freqs_of source)) (link_column Next (freqs_of source))) b 0)
by_side source sound Previous b h = stored_links source sound Previous b h
by_side source sound Next b h = stored_links source sound Next b h

pub table_laws : (source : Source) → CheckedUses source → SoundBlocks source.blocks → (best : ℕ) → best < length (use_table_of source)
    → TableLaws source best (tables_of_best source (Some best))
table_laws source checked sound best h =
    let froms = froms_of (gaps_from source best) in
    let tos = tos_of (gaps_from source best) in
    record {
      links = by_side source sound;
      first_left = first_no_left source checked;
      last_right = last_no_right source checked;
      tile = job_gaps_run source checked sound best h;
      own_from = own_at source best (λ (g : Gap). g.from) no_gap;
      own_to = own_at source best (λ (g : Gap). g.to) no_gap;
      least = job_gaps_least source checked sound best h;
      nearest = job_gaps_nearest source checked sound best h;
      weights = job_weights_once source checked sound best h;
      live = λ g l.
          let e = length-map (gaps_from source best) (λ (g : Gap). g.from) in
          live_at source checked sound best h g (omega (arith, l, e))
          ∙ gap_covered (starts_of source) (stops_of source) (source_segments source checked sound) (get_or froms g 0) (get_or tos g 0);
      lives =
          ap (sum_below (λ (g : ℕ). get_or (lives_from source best) g 0))
          (table_length (λ (g : ℕ). live_in_gap (starts_of source) (stops_of source) (get_or froms g 0) (get_or tos g 0)) (length froms))
          ∙ source_lives_total source checked sound best h;
      covers = live_covered (starts_of source) (stops_of source) (source_segments source checked sound) _ inside;
      segments = all_overlaps froms tos (starts_of source) (stops_of source) (values_of source) (source_tiles source checked sound best h)
          (source_segments source checked sound);
    }
  where
    inside : (i : ℕ) → i < length (starts_of source) → get_or (stops_of source) i 0 ≤ 4 * start_of source.blocks (length source.blocks)
    inside i l =
        let e = length-map source.segments (λ (s : Segment). s.start) in
        let b = (job_bounded source checked i (omega (arith, l, e))).inside in
        let c = end_at source checked sound i in
        let d = checked.end in
        omega (arith, b, c, d)

-- What growth sees of the columns that are filled, cut to the rows used, is what it sees of the job
use mathlib.Core.Path.{◌≡◌, sym, ap, ◌∙◌, subst}
use mathlib.Core.List.{List, map}
use Prim.Native.Nat.{ℕ, ◌≤◌, ◌<◌}
use native.Mathlib.Nat.{le_trans, le_of_eq}
use native.Mathlib.Omega.{arith}
use lib.ListN.{length, take, length-map}
use Rattle.columns.specs.Table.{filled}
use Rattle.columns.proofs.Tables.{table_length}
use Rattle.columns.proofs.Fillings.{filled_cut, filled_long}
use Rattle.overlaps.specs.GapSegments.{Overlap, SegmentColumns, segment_columns}
use Rattle.gaps.specs.Gaps.{Gap, gap_weight}
use Rattle.gaps.specs.GapColumns.{froms_of, min_freqs_of}
use Rattle.filling.specs.SourceTables.{tables_of_best, WorkColumns, rooms_of, Roomy, FilledBy}
use Rattle.filling.proofs.SourceTables.{source_gap_room}
use Rattle.growth.specs.Growth.{GapsSeen}
use Rattle.walks.specs.Gaps.{Walkable}
use Rattle.region.specs.Find.{seen_by, InTable, RowsInside}
use Rattle.refusals.specs.Job.{Job, source_of_job, reserved_of_job, register_of}
use Rattle.refusals.proofs.Accepted.{Accepted}
use Rattle.tables.specs.JobTables.{uses_of_job, gaps_of_job, own_of_job, lives_of_job, segments_of_job}
use Rattle.views.specs.View.{in_columns, seen_of_job}
use Rattle.views.proofs.JobView.{job_in_table, job_walkable}
use Rattle.std.specs.Prelude.{Some}

-- a filled column has the rows that fill it
rows_of : {A : Type 0} (k : ℕ) (is lent : List A) {now : List A} → now ≡ filled is lent → k ≡ length is → length is ≤ length lent → k ≤ length now
rows_of k is lent e c h = let a = ap length e in let d = filled_long is lent h in omega (arith, a, c, d, h)

module _ (job : Job) (accepted : Accepted job) (best : ℕ) (h : best < length (uses_of_job job)) (lent now : WorkColumns)
    (roomy : Roomy (length job.uses) (length job.blocks) (length job.segments) (rooms_of lent))
    (f : FilledBy (tables_of_best (source_of_job job) (Some best)) lent now)
    (n m own : ℕ) (n_is : n ≡ length (gaps_of_job job best)) (m-is : m ≡ length (segments_of_job job best)) (own_is : own ≡ own_of_job job best) where
  abbrev gaps : List Gap
  gaps = gaps_of_job job best

  abbrev segments : List Overlap
  segments = segments_of_job job best

  gap_count : {A : Type 0} (field : Gap → A) → n ≡ length (map field gaps)
  gap_count field = n_is ∙ sym (length-map gaps field)

  lives_count : n ≡ length (lives_of_job job best)
  lives_count = gap_count (λ g. g.from) ∙ sym (table_length _ (length (froms_of gaps)))

  segment_count : {A : Type 0} (field : Overlap → A) → m ≡ length (map field segments)
  segment_count field = m-is ∙ sym (length-map segments field)

  froms_are : take n now.froms ≡ froms_of gaps
  froms_are = filled_cut (froms_of gaps) lent.froms f.from (gap_count (λ g. g.from))

  weights_are : take n now.weights ≡ map gap_weight gaps
  weights_are = filled_cut (map gap_weight gaps) lent.weights f.weight (gap_count gap_weight)

  lives_are : take n now.lives ≡ lives_of_job job best
  lives_are = filled_cut (lives_of_job job best) lent.lives f.live lives_count

  freqs_are : take n now.freqs ≡ min_freqs_of gaps
  freqs_are = filled_cut (min_freqs_of gaps) lent.freqs f.freq (gap_count (λ g. g.freq))

  abbrev cut_segments : SegmentColumns
  cut_segments =
      segment_columns (take m now.segment_froms) (take m now.segment_tos) (take m now.segment_values) (take m now.segment_gaps)
      (length (take m now.segment_froms))

  segments_are : cut_segments ≡ in_columns segments
  segments_are =
      let a = filled_cut (map (λ (s : Overlap). s.from) segments) lent.segment_froms f.segment_from (segment_count (λ s. s.from)) in
      let t = filled_cut (map (λ (s : Overlap). s.to) segments) lent.segment_tos f.segment_to (segment_count (λ s. s.to)) in
      let v = filled_cut (map (λ (s : Overlap). s.value) segments) lent.segment_values f.segment_value (segment_count (λ s. s.value)) in
      let g = filled_cut (map (λ (s : Overlap). s.gap) segments) lent.segment_gaps f.segment_gap (segment_count (λ s. s.gap)) in
      λ i. record { from = a i; to = t i; value = v i; gap = g i; used = length (a i) }

  abbrev cut_seen : GapsSeen
  cut_seen =
      seen_by (register_of job) (reserved_of_job job) cut_segments (take n now.froms) (take n now.weights) (take n now.lives) (take n now.freqs) own
      job.k

  pub seen_is : seen_by (register_of job) (reserved_of_job job)
      (segment_columns (take m now.segment_froms) (take m now.segment_tos) (take m now.segment_values) (take m now.segment_gaps)
      (length (take m now.segment_froms)))
      (take n now.froms) (take n now.weights) (take n now.lives) (take n now.freqs) own job.k ≡ seen_of_job job best
  seen_is = λ i. seen_by (register_of job) (reserved_of_job job) (segments_are i) (froms_are i) (weights_are i) (lives_are i) (freqs_are i) (own_is i) job.k

  pub cut_walkable : Walkable (reserved_of_job job)
      (segment_columns (take m now.segment_froms) (take m now.segment_tos) (take m now.segment_values) (take m now.segment_gaps)
      (length (take m now.segment_froms)))
  cut_walkable = subst (Walkable (reserved_of_job job)) (sym segments_are) (job_walkable job accepted best h)

  pub cut_in_table : InTable
      (seen_by (register_of job) (reserved_of_job job)
      (segment_columns (take m now.segment_froms) (take m now.segment_tos) (take m now.segment_values) (take m now.segment_gaps)
      (length (take m now.segment_froms)))
      (take n now.froms) (take n now.weights) (take n now.lives) (take n now.freqs) own job.k)
      (take n now.weights) (take n now.lives) (take n now.freqs)
  cut_in_table =
      subst (λ (X : Type 0). X) (λ i. InTable (sym seen_is i) (sym weights_are i) (sym lives_are i) (sym freqs_are i)) (job_in_table job accepted best h)

  pub cut_rows : RowsInside n now.froms now.weights now.lives now.freqs m now.segment_froms now.segment_tos now.segment_values
      now.segment_gaps
  cut_rows =
      let r = source_gap_room (source_of_job job) accepted.uses accepted.blocks best h lent roomy in
      let g = r.0 in
      let t = r.1 in
      record {
        from =
            rows_of n (froms_of gaps) lent.froms f.from (gap_count (λ g. g.from))
            (le_trans (le_of_eq (length-map gaps (λ (g : Gap). g.from))) g.from);
        weight = rows_of n (map gap_weight gaps) lent.weights f.weight (gap_count gap_weight) (le_trans (le_of_eq (length-map gaps gap_weight)) g.weight);
        live = rows_of n (lives_of_job job best) lent.lives f.live lives_count (le_trans (le_of_eq (sym lives_count ∙ n_is)) g.live);
        freq =
            rows_of n (min_freqs_of gaps) lent.freqs f.freq (gap_count (λ g. g.freq))
            (le_trans (le_of_eq (length-map gaps (λ (g : Gap). g.freq))) g.freq);
        segment_from =
            rows_of m (map (λ (s : Overlap). s.from) segments) lent.segment_froms f.segment_from (segment_count (λ s. s.from))
            (let e = length-map segments (λ (s : Overlap). s.from) in let a = t.from in omega (arith, e, a));
        segment_to =
            rows_of m (map (λ (s : Overlap). s.to) segments) lent.segment_tos f.segment_to (segment_count (λ s. s.to))
            (let e = length-map segments (λ (s : Overlap). s.to) in let a = t.to in omega (arith, e, a));
        segment_value =
            rows_of m (map (λ (s : Overlap). s.value) segments) lent.segment_values f.segment_value (segment_count (λ s. s.value))
            (let e = length-map segments (λ (s : Overlap). s.value) in let a = t.value in omega (arith, e, a));
        segment_gap =
            rows_of m (map (λ (s : Overlap). s.gap) segments) lent.segment_gaps f.segment_gap (segment_count (λ s. s.gap))
            (let e = length-map segments (λ (s : Overlap). s.gap) in let a = t.gap in omega (arith, e, a));
      }

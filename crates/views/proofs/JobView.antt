-- What growth sees of an accepted job is as the walkers and growth rely on
use mathlib.Core.Path.{◌≡◌, refl, sym, ap, ◌∙◌, subst}
use mathlib.Core.Logic.{⊎_elim, ◌↔◌}
use mathlib.Core.List.{List, [], ◌∷◌, map}
use Prim.Native.Nat.{ℕ, zero, suc, ◌+◌, ◌-◌, ◌^◌, ◌≤◌, ◌<◌, zero-le}
use native.Mathlib.Nat.{le_trans, le_of_eq, lt_of_le_of_lt, not-suc-le-zero, le_of_suc-le-suc}
use native.Mathlib.Numerals.{add-one}
use native.Mathlib.Omega.{arith}
use lib.Dec.{T, leb, ltb, eqb, lit≤, le→leb, lt→ltb, eqb→eq, eqb_refl}
use lib.Ieee.Fits.{and_i, and_l, and_r}
use borrow.Author.Tests.{leb-false}
use mathlib.Core.Bool.{◌&&◌}
use lib.Ieee.{Float, nan}
use lib.ListN.{length, get_or, length-map, length-append, get_or-map, get_or-eq_default}
use Rattle.numbers.specs.Weight.{Weight, finite, zero_weight, Among}
use Rattle.columns.proofs.OneOf.{any_one, one_some, some_one, picked_some, some_picked}
use Rattle.numbers.proofs.Units.{zero_finite}
use Rattle.links.specs.Blocks.{end_limit}
use Rattle.columns.proofs.Firsts.{split}
use Rattle.columns.proofs.Tables.{table_length}
use Rattle.jobs.specs.Rows.{no_reservation}
use Rattle.columns.specs.Table.{row_before, Each}
use Rattle.use_rows.specs.Uses.{Source, AllWeights, no_weights}
use Rattle.columns.specs.Below.{sum_below}
use Rattle.overlaps.specs.Live.{live_in_gap, Gaps}
use Rattle.overlaps.specs.GapSegments.{Overlap, SegmentColumns}
use Rattle.use_rows.specs.declared.row.SplitUse.{SplitUse}
use Rattle.uses.proofs.UseTable.{use_table_weights, use_table_lefts, use_table_rights}
use Rattle.walks.specs.Meeting.{meets, counts_as_fixed, spill_weight, of_register, weighs_against, fixed_against, fixed_met, weights_met}
use Rattle.walks.proofs.Checked.{or_fails}
use Rattle.jobs.specs.Lines.{bad_span}
use Rattle.walks.specs.Gaps.{segment_in, of_gap, segments_of_gap}
use Rattle.walks.proofs.Sets.{where_one, fixed_one, weight_one, all_weights}
use Rattle.gaps.specs.Gaps.{Gap, gap_weight, use_of, gaps_on, gaps_of, own_gap, initial_gap}
use Rattle.gaps.proofs.GapWeights.{Weighed, Weighty, gaps_weighed}
use Rattle.links.specs.declared.lower.Side.TheVariants.{Previous, Next}
use Rattle.gaps.specs.GapColumns.{froms_of, tos_of, min_freqs_of}
use Rattle.growth.specs.Growth.{between}
use Rattle.growth.specs.Demand.{sum_over, SoundGaps}
use Rattle.walks.specs.Gaps.{Walkable}
use Rattle.region.specs.Find.{InTable}
use Rattle.growth.proofs.Spans.{between_behind, between_none, sum_append, sum_one}
use Rattle.refusals.specs.Job.{Job, source_of_job, reserved_of_job, register_of}
use Rattle.refusals.proofs.Accepted.{Accepted}
use Rattle.filling.specs.SourceTables.{starts_of, stops_of, values_of}
use Rattle.filling.proofs.SourceTables.{source_segments, source_tiles, source_gaps_few, source_lives_few}
use Rattle.tables.specs.JobTables.{uses_of_job, gaps_of_job, lives_of_job, segments_of_job}
use Rattle.views.specs.View.{in_columns, seen_of_job}
use Rattle.views.specs.Met.{segment_of_job, gap_of_segment, reservation_of, Weighs, CountsAsFixed, FixedMet, WeightMet, OfGap}
use Rattle.overlaps.proofs.SegmentOrder.{InGap, gap_segments_order, from_column, to_column, row_in_gap}
use Rattle.views.proofs.SegmentOrder.{segments_ordered}

-- ---- sums and columns
-- a sum over the numbers below n, either way
sum_below_lem : (f : ℕ → ℕ) (n : ℕ) → sum_over f (between 0 n) ≡ sum_below f n
unfolding sum_over sum_below
sum_below_lem f zero = ap (sum_over f) (between_none 0)
sum_below_lem f (suc n) =
    let e = ap (λ (m : ℕ). sum_over f (between 0 m)) (sym (add-one n)) in
    let b = ap (sum_over f) (between_behind 0 n (omega arith)) ∙ sum_append f (between 0 n) (n ∷ []) in
    let o = sum_one f n in
    let s = sum_below_lem f n in
    omega (arith, e, b, o, s)

-- a column of weights holds one in every row, and past them zero
weight_at : (ws : List Float) → AllWeights ws → (k : ℕ) → Weight (get_or ws k zero_weight)
weight_at ws w k = ⊎_elim (w k) (λ h. subst Weight (sym (get_or-eq_default ws zero_weight h)) (finite zero_finite)) (split k (length ws))

-- and so does a column of gaps that are weighed
column_at : (f : Gap → Float) → ((g : Gap) → Weighed g → Weight (f g)) → (gs : List Gap) → Each Weighed gs → (i : ℕ) → i < length gs
    → Weight (get_or (map f gs) i nan)
column_at f w [] es i h = absurd (not-suc-le-zero h)
column_at f w (g ∷ gs) es zero h = w g es.0
column_at f w (g ∷ gs) es (suc i) h = column_at f w gs es.1 i (le_of_suc-le-suc h)

-- ---- what rows and gap segments meet
-- the unit of each row of an accepted job is known
known_unit : (job : Job) → Accepted job → (i : ℕ) → i < length job.reservations → (reservation_of job i).unit < job.units
unfolding bad_span
known_unit job accepted i h = let p = simp or_fails at (accepted.line10 i h) in omega (arith, leb-false)

-- so every row of an accepted job is of its register, and what meets a gap segment there is any row that overlaps it
pub row_of_register : (job : Job) → Accepted job → (i : ℕ) → i < length job.reservations → T (of_register (register_of job) (reservation_of job i))
unfolding of_register
row_of_register job accepted i h =
    and_i (leb 0 (reservation_of job i).unit) (ltb (reservation_of job i).unit (0 + job.units)) (le→leb 0 (reservation_of job i).unit zero-le)
    (lt→ltb (reservation_of job i).unit (0 + job.units) (up (reservation_of job i).unit job.units (known_unit job accepted i h)))
  where
    up : (u n : ℕ) → u < n → u < 0 + n
    up u n h = omega (arith, h)

-- in the walkers' words
against_weighs : (job : Job) (best k i : ℕ) → k < length (segments_of_job job best) → i < length job.reservations
    → T (weighs_against (register_of job) (segment_of_job job best k) (reservation_of job i)) → Weighs job best k i
unfolding weighs_against
against_weighs job best k i l h t =
    let of = of_register (register_of job) (reservation_of job i) in
    let meet = meets (segment_of_job job best k) (reservation_of job i) in
    let zero = eqb (reservation_of job i).kind 0 in
    let both = and_r of (meet && zero) t in
    record { meet = record { segment = l; row = h; overlap = and_l meet zero both }; kind = eqb→eq (reservation_of job i).kind 0 (and_r meet zero both) }

weighs_against_lem : (job : Job) → Accepted job → (best k i : ℕ) → Weighs job best k i
    → T (weighs_against (register_of job) (segment_of_job job best k) (reservation_of job i))
unfolding weighs_against
weighs_against_lem job accepted best k i w =
    let meet = meets (segment_of_job job best k) (reservation_of job i) in
    let zero = eqb (reservation_of job i).kind 0 in
    and_i (of_register (register_of job) (reservation_of job i)) (meet && zero) (row_of_register job accepted i w.meet.row)
    (and_i meet zero w.meet.overlap (subst (λ (n : ℕ). T (eqb n 0)) (sym w.kind) (eqb_refl 0)))

against_fixed : (job : Job) (best k i : ℕ) → k < length (segments_of_job job best) → i < length job.reservations
    → T (fixed_against (register_of job) job.fixed_uses (segment_of_job job best k) (reservation_of job i)) → CountsAsFixed job best k i
unfolding fixed_against
against_fixed job best k i l h t =
    let of = of_register (register_of job) (reservation_of job i) in
    let meet = meets (segment_of_job job best k) (reservation_of job i) in
    let fixed = counts_as_fixed job.fixed_uses (segment_of_job job best k) (reservation_of job i) in
    let both = and_r of (meet && fixed) t in
    record { meet = record { segment = l; row = h; overlap = and_l meet fixed both }; fixed = and_r meet fixed both }

fixed_against_lem : (job : Job) → Accepted job → (best k i : ℕ) → CountsAsFixed job best k i
    → T (fixed_against (register_of job) job.fixed_uses (segment_of_job job best k) (reservation_of job i))
unfolding fixed_against
fixed_against_lem job accepted best k i c =
    let meet = meets (segment_of_job job best k) (reservation_of job i) in
    let fixed = counts_as_fixed job.fixed_uses (segment_of_job job best k) (reservation_of job i) in
    and_i (of_register (register_of job) (reservation_of job i)) (meet && fixed) (row_of_register job accepted i c.meet.row)
    (and_i meet fixed c.meet.overlap c.fixed)

module _ (job : Job) (best : ℕ) where
  abbrev columns : SegmentColumns
  columns = in_columns (segments_of_job job best)

  used : columns.used ≡ length (segments_of_job job best)
  used = length-map (segments_of_job job best) (λ (s : Overlap). s.from)

  -- gap segment k is one of those, and of its gap
  place : {k : ℕ} → k < length (segments_of_job job best) → k < columns.used
  place {k} h = let u = used in omega (arith, h, u)

  back : {k : ℕ} → k < columns.used → k < length (segments_of_job job best)
  back {k} h = let u = used in omega (arith, h, u)

  of_its_gap : (k : ℕ) → T (of_gap columns (gap_of_segment job best k) k)
  of_its_gap k = eqb_refl (gap_of_segment job best k)

  -- what growth sees a gap meet is what its gap segments meet: weights
  pub gap_weighs : Accepted job → (k i : ℕ) → Weighs job best k i → Among (spill_weight job.weights (reservation_of job i))
      ((seen_of_job job best).met (gap_of_segment job best k))
  unfolding weights_met
  gap_weighs accepted k i m =
      let w = spill_weight job.weights (reservation_of job i) in
      some_picked (weight_one (register_of job) (reserved_of_job job) w) (of_gap columns (gap_of_segment job best k)) (segment_in columns) columns.used k
      (place m.meet.segment) (of_its_gap k)
      (some_one (where_one (weighs_against (register_of job) (segment_of_job job best k)) job.weights w) no_reservation job.reservations i m.meet.row
      (weighs_against_lem job accepted best k i m, refl))

  pub gap_weighed_by : (g : ℕ) (w : Float) → Among w ((seen_of_job job best).met g) → WeightMet job best (OfGap job best g) w
  unfolding weights_met
  gap_weighed_by g w a =
      let s = picked_some (weight_one (register_of job) (reserved_of_job job) w) (of_gap columns g) (segment_in columns) columns.used a in
      let r =
      one_some (where_one (weighs_against (register_of job) (segment_of_job job best s.at)) job.weights w) no_reservation job.reservations s.is.1 in
      record {
        segment = s.at;
        row = r.at;
        weighs = against_weighs job best s.at r.at (back s.inside) r.inside r.is.0;
        is_among = eqb→eq (gap_of_segment job best s.at) g s.is.0;
        has = sym r.is.1;
      }

  -- and what counts as fixed
  pub gap_fixed : Accepted job → (k i : ℕ) → CountsAsFixed job best k i → T ((seen_of_job job best).fixed (gap_of_segment job best k))
  unfolding fixed_met
  gap_fixed accepted k i m =
      some_picked (fixed_one (register_of job) (reserved_of_job job)) (of_gap columns (gap_of_segment job best k)) (segment_in columns) columns.used k
      (place m.meet.segment) (of_its_gap k)
      (some_one (any_one (fixed_against (register_of job) job.fixed_uses (segment_of_job job best k))) no_reservation job.reservations i m.meet.row
      (fixed_against_lem job accepted best k i m))

  pub gap_fixed_by : (g : ℕ) → T ((seen_of_job job best).fixed g) → FixedMet job best (OfGap job best g)
  unfolding fixed_met
  gap_fixed_by g f =
      let s = picked_some (fixed_one (register_of job) (reserved_of_job job)) (of_gap columns g) (segment_in columns) columns.used f in
      let r =
      one_some (any_one (fixed_against (register_of job) job.fixed_uses (segment_of_job job best s.at))) no_reservation job.reservations s.is.1 in
      record {
        segment = s.at;
        row = r.at;
        counts = against_fixed job best s.at r.at (back s.inside) r.inside r.is;
        is_among = eqb→eq (gap_of_segment job best s.at) g s.is.0;
      }

  pub gap_fixed_exactly : Accepted job → (g : ℕ) → T ((seen_of_job job best).fixed g) ↔ FixedMet job best (OfGap job best g)
  gap_fixed_exactly accepted g =
      (gap_fixed_by g, λ m. subst (λ (x : ℕ). T ((seen_of_job job best).fixed x)) m.is_among (gap_fixed accepted m.segment m.row m.counts))

-- ---- an accepted job
module _ (job : Job) (accepted : Accepted job) where
  abbrev source : Source
  source = source_of_job job

  -- ---- its use table
  -- the weights of its uses are weights
  pub job_weighty : (k : ℕ) → Weighty (use_of (uses_of_job job) k)
  job_weighty k =
      let s = source_of_job job in
      record {
        main = of_use (λ (u : SplitUse). u.weight) refl (use_table_weights s accepted.scales);
        left = of_use (λ (u : SplitUse). u.left_weight) refl (use_table_lefts s accepted.scales);
        right = of_use (λ (u : SplitUse). u.right_weight) refl (use_table_rights s accepted.scales);
      }
    where
      of_use : (f : SplitUse → Float) → zero_weight ≡ f (no_weights 0) → AllWeights (map f (uses_of_job job)) → Weight (f (use_of (uses_of_job job) k))
      of_use f e w =
          subst Weight (ap (get_or (map f (uses_of_job job)) k) e ∙ get_or-map f (uses_of_job job) k (no_weights 0)) (weight_at (map f (uses_of_job job)) w k)

  module _ (best : ℕ) (h : best < length (uses_of_job job)) where
    -- ---- its gaps
    pub job_tiles : Gaps (froms_of (gaps_of_job job best)) (tos_of (gaps_of_job job best))
    job_tiles = source_tiles (source_of_job job) accepted.uses accepted.blocks best h

    froms_long : length (froms_of (gaps_of_job job best)) ≡ length (gaps_of_job job best)
    froms_long = length-map (gaps_of_job job best) (λ (g : Gap). g.from)

    gaps_few : length (gaps_of_job job best) ≤ length job.uses + length job.blocks + 2
    gaps_few = source_gaps_few source accepted.uses accepted.blocks best h

    weighed : Each Weighed (gaps_of_job job best)
    weighed = gaps_weighed job.blocks (uses_of_job job) job_weighty best

    -- the best use's own gap is one of them
    own_inside : initial_gap job.blocks (uses_of_job job) best < length (froms_of (gaps_of_job job best))
    unfolding gaps_of
    own_inside =
        let left = gaps_on Previous job.blocks (uses_of_job job) 0 best in
        let right = gaps_on Next job.blocks (uses_of_job job) best (length (uses_of_job job) - 1 - best) in
        let e = length-append left (own_gap job.blocks (use_of (uses_of_job job) best) ∷ right) in
        let l = froms_long in
        omega (arith, e, l)

    -- their live instructions lie inside the blocks, all together
    pub job_lives_few : sum_over (λ (g : ℕ). get_or (lives_of_job job best) g 0) (between 0 (length (froms_of (gaps_of_job job best)))) ≤ end_limit
    job_lives_few =
        le_trans (le_of_eq (sum_below_lem (λ (g : ℕ). get_or (lives_of_job job best) g 0) (length (froms_of (gaps_of_job job best)))))
        (source_lives_few source accepted.uses accepted.blocks best h)

    -- ---- what growth relies on
    pub job_sound : SoundGaps (seen_of_job job best)
    job_sound =
        record {
          inside = own_inside;
          rising = λ g l. let n = job_tiles.nonempty g (omega (arith, l)) in let f = job_tiles.follows g l in omega (arith, n, f);
          weights = λ g l. column_at gap_weight (λ g w. w.weight) (gaps_of_job job best) weighed g (gap l);
          freqs = λ g l. column_at (λ (g : Gap). g.freq) (λ g w. finite w.freq) (gaps_of_job job best) weighed g (gap l);
          met = λ g l. all_weights (register_of job) (reserved_of_job job) (segments_of_gap (in_columns (segments_of_job job best)) g);
          few =
              small (sum_over (λ (g : ℕ). get_or (lives_of_job job best) g 0) (between 0 (length (froms_of (gaps_of_job job best))))) job.k job_lives_few
              accepted.parameters.adjustment;
          fraction = lit≤ tt;
        }
      where
        gap : {g : ℕ} → g < length (froms_of (gaps_of_job job best)) → g < length (gaps_of_job job best)
        gap l = let e = froms_long in omega (arith, l, e)

        both : (a k : ℕ) → a ≤ 262144 → k ≤ 65536 → a + k ≤ 327680
        both a k p q = omega (arith, p, q)

        small : (a k : ℕ) → a ≤ 262144 → k ≤ 65536 → a + k < 2 ^ 24
        small a k p q = lt_of_le_of_lt (both a k p q) (lit≤ tt)

    pub job_in_table : InTable (seen_of_job job best) (map gap_weight (gaps_of_job job best)) (lives_of_job job best) (min_freqs_of (gaps_of_job job best))
    job_in_table =
        record {
          sound = job_sound;
          few =
              let l = froms_long in let f = gaps_few in let u = accepted.sizes.items.uses in let b = accepted.sizes.items.blocks in
              omega (arith, l, f, u, b);
          weights_long = length-map (gaps_of_job job best) gap_weight ∙ sym froms_long;
          lives_long =
              table_length (λ (g : ℕ). live_in_gap (starts_of source) (stops_of source) (get_or (froms_of (gaps_of_job job best)) g 0)
              (get_or (tos_of (gaps_of_job job best)) g 0)) (length (froms_of (gaps_of_job job best)));
          freqs_long = length-map (gaps_of_job job best) (λ (g : Gap). g.freq) ∙ sym froms_long;
        }

    -- ---- what the walkers rely on
    pub job_walkable : Walkable (reserved_of_job job) (in_columns (segments_of_job job best))
    job_walkable =
        record {
          ready = accepted.reserved;
          ordered =
              segments_ordered (froms_of (gaps_of_job job best)) (tos_of (gaps_of_job job best)) (starts_of source) (stops_of source) (values_of source) job_tiles
              (source_segments source accepted.uses accepted.blocks);
        }

    -- each gap segment lies in its gap
    pub segment_in_gap : (k : ℕ) → k < length (segments_of_job job best)
        → InGap (froms_of (gaps_of_job job best)) (tos_of (gaps_of_job job best)) (get_or (from_column (segments_of_job job best)) k 0)
        (get_or (to_column (segments_of_job job best)) k 0) (gap_of_segment job best k)
    segment_in_gap =
        row_in_gap (froms_of (gaps_of_job job best)) (tos_of (gaps_of_job job best)) 0 (segments_of_job job best)
        (row_before (stops_of source) 0 (length (starts_of source)))
        (gap_segments_order (froms_of (gaps_of_job job best)) (tos_of (gaps_of_job job best)) job_tiles (starts_of source) (stops_of source) (values_of source)
        (source_segments source accepted.uses accepted.blocks))

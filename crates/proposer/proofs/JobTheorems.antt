-- What holds of every accepted job that is answered a proposal, or none of either kind; and the ring and chain law over every list of proposals
use mathlib.Core.Path.{◌≡◌, refl, sym, ap, ◌∙◌, subst}
use mathlib.Core.Logic.{◌⊎◌, inl, inr, ⊎_elim, ◌↔◌}
use mathlib.Core.List.{List, [], ◌∷◌, map}
use Prim.Native.Nat.{ℕ, zero, suc, ◌+◌, ◌-◌, ◌*◌, ◌/◌, ◌≤◌, ◌<◌, zero-le}
use native.Mathlib.Nat.{le_refl, le_trans, le_of_eq, le_antisymm, lt_of_le_of_lt}
use native.Mathlib.Omega.{arith}
use lib.Dec.{T, leb→le, le→leb, ltb→lt, lt→ltb, lit≤}
use lib.Ieee.Fits.{and_i, and_l, and_r}
use lib.Ieee.{Float, binary32, to_bits}
use lib.ListN.{length, get_or, length-map, get_or-eq_default}
use Rattle.numbers.specs.Weight.{finite, units_of, zero_weight, Among}
use Rattle.numbers.proofs.Units.{units_inj, zero_finite, zero_units}
use Rattle.numbers.specs.Point.{inst_of}
use Rattle.numbers.specs.Normal.{normalised, exceeds}
use Rattle.numbers.specs.Chain.{longest}
use Rattle.links.specs.declared.lower.Side.{Side}
use Rattle.columns.proofs.Firsts.{split}
use Rattle.use_rows.specs.Uses.{AllWeights, best_use, IsBest}
use Rattle.overlaps.specs.Live.{Gaps}
use Rattle.uses.proofs.Best.{best_is, no_best_exactly, best_inside}
use Rattle.uses.proofs.UseTable.{use_table_weights}
use Rattle.walks.specs.Meeting.{spill_weight}
use Rattle.gaps.specs.GapColumns.{froms_of, tos_of}
use Rattle.growth.specs.Growth.{GapsSeen, Span, own_span, weights_in, heaviest_in, used_up, growth, end_of_growth}
use Rattle.growth.specs.Proposal.{region_of, from_end, before_end, covers, gaps_covered}
use Rattle.growth.specs.Demand.{Around, Ended, In, FailedBefore, MeetsFixed, SoundGaps, Demand3, sum_over, added_to, gaps_beside, gaps_grown}
use Rattle.columns.specs.Table.{Each}
use Rattle.growth.specs.Evictions.{Promise, EachAfter, EvictsAfter, Evicts, EvictionsEnd, MeetsCarrier, member, promise_of, Given, IsFound, promised}
use Rattle.growth.specs.declared.proposal.SplitProposal.{SplitProposal}
use Rattle.growth.proofs.Tries.{ends_once}
use Rattle.growth.proofs.Meetings.{met_of_gap, gap_of_met}
use Rattle.growth.proofs.Ends.{covers_exactly}
use Rattle.growth.proofs.Proposals.{found_ended, found_side_ends, found_demand3, found_around, found_use_weight, found_live_insts}
use Rattle.growth.proofs.Proposals.{found_no_fixed, found_heaviest, found_strict}
use Rattle.growth.proofs.Evictions.{found_evictions_end, carried_bits}
use Rattle.refusals.specs.Job.{Job, source_of_job}
use Rattle.refusals.proofs.Accepted.{Accepted}
use Rattle.tables.specs.JobTables.{uses_of_job, gaps_of_job, segments_of_job}
use Rattle.views.specs.View.{seen_of_job}
use Rattle.overlaps.proofs.SegmentOrder.{InGap, from_column, to_column}
use Rattle.proposer.specs.Demand.{mains_of, InRegion, FromLeft, ToRight, LiesWhole}
use Rattle.views.specs.Met.{gap_of_segment, reservation_of, FixedMet, WeightMet}
use Rattle.proposer.specs.Evictions.{MeetsCarrying, Entry, weight_in, EvictionsAfter, Evictions, Stands, JobEvictionsEnd}
use Rattle.views.proofs.JobView.{gap_weighs, gap_weighed_by, gap_fixed, job_tiles, job_sound, segment_in_gap}
use Rattle.std.specs.Prelude.{Option, Some, None}
use Rattle.numbers.specs.declared.Inst.{Inst}

-- an accepted job, its best use and its proposal
pub record ProposalOf (job : Job) (best : ℕ) (p : SplitProposal) : Type 0 where
  pub accepted : Accepted job
  pub is_best : best_use (mains_of job) ≡ Some best
  pub found : region_of (seen_of_job job best) ≡ Some p

-- it is one as document 01 says, and stands in the use table
pub job_best : (job : Job) → Accepted job → (best : ℕ) → best_use (mains_of job) ≡ Some best → IsBest (mains_of job) best
job_best job accepted best e = best_is (mains_of job) (use_table_weights (source_of_job job) accepted.scales) best e

pub job_best_inside : (job : Job) → Accepted job → (best : ℕ) → best_use (mains_of job) ≡ Some best → best < length (uses_of_job job)
job_best_inside job accepted best e = best_inside (source_of_job job) accepted.scales best e

-- the main weights are weights
pub job_mains : (job : Job) → Accepted job → AllWeights (mains_of job)
job_mains job accepted = use_table_weights (source_of_job job) accepted.scales

-- and there is no other
best_once : (ws : List Float) (a b : ℕ) → IsBest ws a → IsBest ws b → a ≤ b
best_once ws a b p q =
    ⊎_elim (λ (h : b < a). let x = p.earliest b h in let y = q.largest a p.inside in absurd (omega (arith, x, y))) (λ h. h) (split b a)

pub job_best_exactly : (job : Job) → Accepted job → (best : ℕ) → (best_use (mains_of job) ≡ Some best) ↔ IsBest (mains_of job) best
job_best_exactly job accepted best = (job_best job accepted best, λ is. by is (best_use (mains_of job)) refl)
  where
    by : IsBest (mains_of job) best → (b : Option ℕ) → best_use (mains_of job) ≡ b → best_use (mains_of job) ≡ Some best
    by is (Some other) e =
        let that = job_best job accepted other e in
        e ∙ ap (λ (n : ℕ). Some n) (le_antisymm (best_once (mains_of job) other best that is) (best_once (mains_of job) best other is that))
    by is None e =
        ⊎_elim (λ h. let m = is.several in absurd (omega (arith, h, m)))
        (λ h. let z = h best is.inside in let m = is.above_zero in absurd (omega (arith, z, m)))
        ((no_best_exactly (mains_of job) (job_mains job accepted)).0 e)

-- none of kind 1: exactly if the use table has one row, or each main weight is zero
pub job_no_best_exactly : (job : Job) → Accepted job → (best_use (mains_of job) ≡ None) ↔
    ((length (mains_of job) ≤ 1) ⊎ ((k : ℕ) → k < length (mains_of job) → get_or (mains_of job) k zero_weight ≡ zero_weight))
job_no_best_exactly job accepted =
    let mains = job_mains job accepted in
    let exact = no_best_exactly (mains_of job) mains in (
      (λ e. ⊎_elim (λ h. inl h) (λ h. inr (λ k l. units_inj (mains k l) (finite zero_finite) (h k l ∙ sym zero_units))) (exact.0 e)),
      (λ h. exact.1 (⊎_elim (λ s. inl s) (λ z. inr (λ k l. ap units_of (z k l) ∙ zero_units)) h)),
    )

-- ---- demand 3
module _ (job : Job) (best : ℕ) (p : SplitProposal) (given : ProposalOf job best p) where
  -- the gaps that growth sees are sound
  pub proposed_sound : SoundGaps (seen_of_job job best)
  proposed_sound = job_sound job given.accepted best (job_best_inside job given.accepted best given.is_best)

  -- all that demand 3 says of a proposal, where growth ends: it is that of the region grown, which meets nothing fixed; its interference weight
  -- is the heaviest weight met; the weight test holds of it
  pub job_demand3 : Demand3 (seen_of_job job best) (end_of_growth (seen_of_job job best)) p
  job_demand3 = found_demand3 (seen_of_job job best) p given.found proposed_sound

  -- growth ends when both sides are barred or used up
  pub job_ended : Ended (seen_of_job job best) (end_of_growth (seen_of_job job best))
  job_ended = found_ended (seen_of_job job best) p given.found proposed_sound

  -- and growth has no other end
  pub job_ends_once : (n : ℕ) → Ended (seen_of_job job best) (growth (seen_of_job job best) n) → growth (seen_of_job job best) n ≡ end_of_growth (seen_of_job job best)
  job_ends_once = ends_once (seen_of_job job best) proposed_sound.inside

  -- on each side the gaps are used up, or the gap just outside the region failed when that side was tried
  pub job_side_ends : (side : Side) → T (used_up side (seen_of_job job best).count (end_of_growth (seen_of_job job best)).region)
      ⊎ FailedBefore (seen_of_job job best) side ((seen_of_job job best).count + 1) (end_of_growth (seen_of_job job best)).region
  job_side_ends = found_side_ends (seen_of_job job best) p given.found proposed_sound

  -- the region holds the best use's gap
  pub job_around : Around (seen_of_job job best) (end_of_growth (seen_of_job job best)).region
  job_around = found_around (seen_of_job job best) p given.found proposed_sound

  -- its use weight: the best use's gap's, and then those of the gaps grown, added in the order grown
  pub job_use_weight : p.use_weight ≡ added_to ((seen_of_job job best).weight (seen_of_job job best).own) (seen_of_job job best).weight
      (gaps_grown (seen_of_job job best) ((seen_of_job job best).count + 1))
  job_use_weight = found_use_weight (seen_of_job job best) p given.found proposed_sound

  -- its live instructions: 1, and those of the region's other gaps
  pub job_live_insts : p.live_insts ≡ 1 + sum_over (seen_of_job job best).live
      (gaps_beside (own_span (seen_of_job job best)) (end_of_growth (seen_of_job job best)).region)
  job_live_insts = found_live_insts (seen_of_job job best) p given.found proposed_sound

  -- what counts as fixed counts against it: its region meets none
  pub job_no_fixed : MeetsFixed (seen_of_job job best) (end_of_growth (seen_of_job job best)).region → ⊥
  job_no_fixed = found_no_fixed (seen_of_job job best) p given.found proposed_sound

  -- its interference weight: the largest kind 0 weight counted in its region, zero if none
  pub job_heaviest : p.interference_weight ≡ heaviest_in (seen_of_job job best) (end_of_growth (seen_of_job job best)).region
  job_heaviest = found_heaviest (seen_of_job job best) p given.found proposed_sound

  -- the weight test: the normalised weight times 2007/2048, rounded once, strictly exceeds the interference weight
  pub job_strict : T (exceeds 2007 (normalised p.use_weight p.live_insts job.k) p.interference_weight)
  job_strict = found_strict (seen_of_job job best) p given.found proposed_sound

-- ---- what a proposal's region meets, in the job's own rows
-- the bits of a job's spill weights are those of the weights
bits_of : (job : Job) → Accepted job → (i : ℕ) → to_bits binary32 (spill_weight job.weights (reservation_of job i))
    ≡ get_or job.weights (reservation_of job i).index 0
unfolding spill_weight
bits_of job accepted i =
    carried_bits (get_or job.weights x 0) (⊎_elim (accepted.weights x) (λ h. le_trans (le_of_eq (get_or-eq_default job.weights 0 h)) (lit≤ tt))
    (split x (length job.weights)))
  where
    x : ℕ
    x = (reservation_of job i).index

module _ (job : Job) (best : ℕ) (p : SplitProposal) (given : ProposalOf job best p) where
  abbrev seen : GapsSeen
  seen = seen_of_job job best

  abbrev region : Span
  region = (end_of_growth (seen_of_job job best)).region

  best_in : best < length (uses_of_job job)
  best_in = job_best_inside job given.accepted best given.is_best

  tiles : Gaps (froms_of (gaps_of_job job best)) (tos_of (gaps_of_job job best))
  tiles = job_tiles job given.accepted best best_in

  module _ (k : ℕ) (h : k < length (segments_of_job job best)) where
    abbrev from : ℕ
    from = get_or (from_column (segments_of_job job best)) k 0

    abbrev to : ℕ
    to = get_or (to_column (segments_of_job job best)) k 0

    inside : InGap (froms_of (gaps_of_job job best)) (tos_of (gaps_of_job job best)) (get_or (from_column (segments_of_job job best)) k 0)
        (get_or (to_column (segments_of_job job best)) k 0) (gap_of_segment job best k)
    inside = segment_in_gap job given.accepted best best_in k h

    -- the proposal covers an instruction that a gap segment has points of exactly if its gap was grown
    covers_inst : (x : ℕ) → get_or (from_column (segments_of_job job best)) k 0 ≤ x → x < get_or (to_column (segments_of_job job best)) k 0
        → T (covers p (inst_of x)) ↔ In (end_of_growth (seen_of_job job best)).region (gap_of_segment job best k)
    covers_inst x a b =
        subst (λ (q : SplitProposal). T (covers q (inst_of x)) ↔ In region (gap_of_segment job best k)) (sym (job_demand3 job best p given).is_grown)
        (covers_exactly seen (proposed_sound job best p given).rising region (job_around job best p given) (heaviest_in seen region)
        (gap_of_segment job best k) (inst_of x) inside.known
        (let l = inside.low in from_inst (get_or (froms_of (gaps_of_job job best)) (gap_of_segment job best k) 0) from x l a)
        (λ m. before_inst x to (get_or (tos_of (gaps_of_job job best)) (gap_of_segment job best k) 0)
        (get_or (froms_of (gaps_of_job job best)) (gap_of_segment job best k + 1) 0) b inside.high (tiles.follows (gap_of_segment job best k) m)))
      where
        from_inst : (f y x : ℕ) → 4 * f ≤ y → y ≤ x → f ≤ x / 4
        from_inst f y x l a = omega (arith, l, a)

        before_inst : (x y t f : ℕ) → x < y → y ≤ 4 * t → f ≡ t → x / 4 < f
        before_inst x y t f a b c = omega (arith, a, b, c)

    -- its gap segments are those of the gaps grown
    pub region_gaps : InRegion job best p k ↔ In (end_of_growth (seen_of_job job best)).region (gap_of_segment job best k)
    region_gaps = covers_inst from (le_refl from) inside.some

    -- each lies whole between 4 × left and 4 × right
    pub region_whole : InRegion job best p k ↔ LiesWhole job best p k
    region_whole = (
      (λ r.
          let last = (covers_inst (to - 1) (up from to inside.some) (down from to inside.some)).1 (region_gaps.0 r) in (
            left_of p.left from (and_l (from_end p.left (inst_of from)) (before_end p.right (inst_of from)) r),
            right_of p.right to (lt_of_le_of_lt zero-le inside.some)
                (and_r (from_end p.left (inst_of (to - 1))) (before_end p.right (inst_of (to - 1))) last),
          )),
      (λ w. and_i (from_end p.left (inst_of from)) (before_end p.right (inst_of from)) (of_left p.left from w.0)
          (of_right p.right from to inside.some w.1)),
    )
      where
        up : (a b : ℕ) → a < b → a ≤ b - 1
        up a b h = omega (arith, h)

        down : (a b : ℕ) → a < b → b - 1 < b
        down a b h = omega (arith, h)

        left_of : (e : Option Inst) (x : ℕ) → T (from_end e (inst_of x)) → FromLeft e x
        left_of None x t = tt
        left_of (Some i) x t = let l = leb→le i.0 (x / 4) t in omega (arith, l)

        of_left : (e : Option Inst) (x : ℕ) → FromLeft e x → T (from_end e (inst_of x))
        of_left None x l = tt
        of_left (Some i) x l = le→leb i.0 (x / 4) (omega (arith, l))

        right_of : (e : Option Inst) (y : ℕ) → 0 < y → T (before_end e (inst_of (y - 1))) → ToRight e y
        right_of None y z t = tt
        right_of (Some i) y z t = let l = ltb→lt ((y - 1) / 4) i.0 t in omega (arith, l, z)

        of_right : (e : Option Inst) (x y : ℕ) → x < y → ToRight e y → T (before_end e (inst_of x))
        of_right None x y h l = tt
        of_right (Some i) x y h l = lt→ltb (x / 4) i.0 (omega (arith, l, h))

  -- what counts as fixed there counts against it: there is none
  pub region_no_fixed : FixedMet job best (InRegion job best p) → ⊥
  region_no_fixed m =
      let k = m.segment in
      job_no_fixed job best p given (
        gap_of_segment job best k,
        (region_gaps k m.counts.meet.segment).0 m.is_among,
        gap_fixed job best given.accepted k m.row m.counts,
      )

  -- no kind 0 weight that it meets is heavier than its interference weight
  pub region_none_heavier : (w : Float) → WeightMet job best (InRegion job best p) w → units_of w ≤ units_of p.interference_weight
  region_none_heavier w m =
      let k = m.segment in
      (job_demand3 job best p given).none_heavier (gap_of_segment job best k) ((region_gaps k m.weighs.meet.segment).0 m.is_among) w
      (subst (λ (v : Float). Among v (seen.met (gap_of_segment job best k))) m.has (gap_weighs job best given.accepted k m.row m.weighs))

  -- which is one that it meets, or zero
  pub region_heaviest_met : (p.interference_weight ≡ zero_weight) ⊎ WeightMet job best (InRegion job best p) p.interference_weight
  region_heaviest_met =
      elim (job_demand3 job best p given).heaviest_met [
        | inl e ↦ inl e
        | inr m ↦
            let w = gap_weighed_by job best m.0 p.interference_weight m.2 in
            inr (record {
              segment = w.segment;
              row = w.row;
              is_among = (region_gaps w.segment w.weighs.meet.segment).1 (subst (In region) (sym w.is_among) m.1);
              weighs = w.weighs;
              has = w.has;
            })
      ]

  -- it meets a reservation that carries a weight exactly if the weights that its gaps meet say so
  pub carrying_exactly : (w : Float) → MeetsCarrying job best p w ↔ MeetsCarrier (promise_of (seen_of_job job best) p) w
  carrying_exactly w = (
    (λ m. (
      spill_weight job.weights (reservation_of job m.row),
      subst (λ (gs : List ℕ). Among (spill_weight job.weights (reservation_of job m.row)) (weights_in seen.met gs))
          (sym (job_demand3 job best p given).covered)
          (met_of_gap seen region (gap_of_segment job best m.segment) (spill_weight job.weights (reservation_of job m.row))
          ((region_gaps m.segment m.weighs.meet.segment).0 m.in_region) (gap_weighs job best given.accepted m.segment m.row m.weighs)),
      bits_of job given.accepted m.row ∙ m.carries,
    )),
    (λ c. back c.0 c.1 c.2),
  )
    where
      back : (v : Float) → Among v (weights_in seen.met (gaps_covered seen p)) → to_bits binary32 v ≡ to_bits binary32 w → MeetsCarrying job best p w
      back v a e =
          let g = gap_of_met seen region v (subst (λ (gs : List ℕ). Among v (weights_in seen.met gs)) (job_demand3 job best p given).covered a) in
          let m = gap_weighed_by job best g.0 v g.2 in
          record {
            segment = m.segment;
            row = m.row;
            in_region = (region_gaps m.segment m.weighs.meet.segment).1 (subst (In region) (sym m.is_among) g.1);
            weighs = m.weighs;
            carries = sym (bits_of job given.accepted m.row) ∙ ap (to_bits binary32) m.has ∙ e;
          }

-- ---- the ring and chain law
abbrev given_of : Entry → Given
given_of e = record { seen = seen_of_job e.job e.best; proposal = e.proposal }

abbrev promises : List Entry → List Promise
promises es = map promised (map given_of es)

promises_long : (es : List Entry) → length (promises es) ≡ length es
promises_long es = length-map (map given_of es) promised ∙ length-map es given_of

promise_at : (es : List Entry) (i : ℕ) (e : Entry) → Stands es i e → (i < length (promises es)) × (member (promises es) i ≡ promised (given_of e))
promise_at [] i e s = absurd s
promise_at (x ∷ es) zero e s = (some (length (promises es)), ap (λ (y : Entry). promised (given_of y)) s)
  where
    some : (n : ℕ) → 0 < suc n
    some n = omega arith
promise_at (x ∷ es) (suc i) e s = let r = promise_at es i e s in (up i (length (promises es)) r.0, r.1)
  where
    up : (i n : ℕ) → i < n → suc i < suc n
    up i n h = omega (arith, h)

abbrev IsEntry : Entry → Type 0
IsEntry e = ProposalOf e.job e.best e.proposal

is_entry : (es : List Entry) → Each IsEntry es → (i : ℕ) (e : Entry) → Stands es i e → IsEntry e
is_entry [] given i e s = absurd s
is_entry (x ∷ es) given zero e s = subst IsEntry s given.0
is_entry (x ∷ es) given (suc i) e s = is_entry es given.1 i e s

each_found : (es : List Entry) → Each IsEntry es → Each IsFound (map given_of es)
each_found [] given = tt
each_found (e ∷ es) given = (record { sound = proposed_sound e.job e.best e.proposal given.0; found = given.0.found }, each_found es given.1)

-- every weight test has numerator 2007
each_2007 : (es : List Entry) → Each (λ (p : Promise). p.numerator ≤ 2007) (promises es)
each_2007 [] = tt
each_2007 (e ∷ es) = (le_refl 2007, each_2007 es)

later_2007 : (es : List Entry) → EachAfter (λ (p : Promise). p.numerator ≤ 2007) (promises es)
later_2007 [] = tt
later_2007 (e ∷ es) = each_2007 es

evicts_after : (e : Entry) (es : List Entry) → Each IsEntry es → EvictionsAfter e es → EvictsAfter (promised (given_of e)) (promises es)
evicts_after e [] given c = tt
evicts_after e (f ∷ fs) given c = ((carrying_exactly f.job f.best f.proposal given.0 (weight_in e)).0 c.0, evicts_after f fs given.1 c.1)

evicts : (es : List Entry) → Each IsEntry es → Evictions es → Evicts (promises es)
evicts [] given c = tt
evicts (e ∷ es) given c = evicts_after e es given.1 c

-- the ring and chain law, of every list of accepted jobs and their proposals in which the region of each after the first meets a reservation that
-- carries the normalised weight of the one before; nothing is kept between the jobs, and a job may stand twice
pub job_evictions_end : (es : List Entry) → Each (λ (e : Entry). ProposalOf e.job e.best e.proposal) es → Evictions es → JobEvictionsEnd es
job_evictions_end es given chain =
    record {
      no_ring = λ i j h e f s t m.
          let a = promise_at es i e s in
          let b = promise_at es j f t in
          ended.no_ring i j h b.0
          (subst (λ (q : Promise). MeetsCarrier q (member (promises es) j).weight) (sym a.1)
          (subst (λ (q : Promise). MeetsCarrier (promised (given_of e)) q.weight) (sym b.1)
          ((carrying_exactly e.job e.best e.proposal (is_entry es given i e s) (weight_in f)).0 m)));
      few = subst (λ (n : ℕ). n ≤ 10000) (promises_long es) (ended.few (later_2007 es));
      fewer = subst (λ (n : ℕ). n ≤ longest) (promises_long es) (ended.fewer (later_2007 es));
    }
  where
    ended : EvictionsEnd (promises es)
    ended = found_evictions_end (map given_of es) (each_found es given) (evicts es given chain)

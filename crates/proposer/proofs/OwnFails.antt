-- None of kind 2: when the best use's own gap fails, in the job's own rows
use mathlib.Core.Path.{◌≡◌, sym, ap, ◌∙◌, subst}
use mathlib.Core.Logic.{◌⊎◌, inl, inr, ⊎_elim, ◌↔◌}
use mathlib.Core.Bool.{Bool, not}
use mathlib.Core.List.{List}
use Prim.Native.Nat.{ℕ, ◌+◌, ◌≤◌, ◌<◌}
use native.Mathlib.Nat.{le_refl, le_trans, le_of_eq}
use native.Mathlib.Omega.{arith}
use lib.Dec.{T, lit≤, T_not, not_T}
use lib.Ieee.{Float}
use lib.ListN.{length}
use Rattle.numbers.specs.Weight.{Finite, Weight, finite, units_of, zero_weight, heaviest, Weights, Among}
use Rattle.numbers.specs.Normal.{normalised, exceeds}
use Rattle.numbers.proofs.Units.{zero_finite, zero_units}
use Rattle.numbers.proofs.Normalised.{normalised_finite, exceeds_lighter}
use Rattle.numbers.proofs.Heaviest.{heaviest_weight, heaviest_among, heaviest_above, among_weight}
use Rattle.growth.specs.Growth.{GapsSeen, own_span, gaps_in, weights_in, heaviest_in, weight_test}
use Rattle.growth.specs.Proposal.{region_of}
use Rattle.growth.specs.Demand.{SoundGaps}
use Rattle.growth.proofs.Meetings.{met_weights, met_of_gap, gap_of_met}
use Rattle.growth.proofs.Proposals.{nothing_exactly}
use Rattle.refusals.specs.Job.{Job}
use Rattle.refusals.proofs.Accepted.{Accepted}
use Rattle.tables.specs.JobTables.{uses_of_job}
use Rattle.views.specs.View.{seen_of_job}
use Rattle.views.specs.Met.{gap_of_segment, FixedMet, WeightMet, AtBest}
use Rattle.views.proofs.JobView.{gap_weighs, gap_weighed_by, gap_fixed_exactly, job_sound}
use Rattle.views.proofs.OwnGap.{own_weight, at_best_exactly}
use Rattle.proposer.specs.Demand.{own_normalised, OwnFails}
use Rattle.std.specs.Prelude.{None}

-- a test over the heaviest of some weights fails exactly if it fails over zero or over one of them
heaviest_fails : (n : ℕ) → n ≤ 2048 → (v : Float) (ws : List Float) → Finite v → Weights ws
    → T (not (exceeds n v (heaviest ws))) ↔ (T (not (exceeds n v zero_weight)) ⊎ ((w : Float) × Among w ws × T (not (exceeds n v w))))
heaviest_fails n h v ws f p = (
  (λ t. ⊎_elim (λ e. inl (subst (λ (w : Float). T (not (exceeds n v w))) e t)) (λ a. inr (heaviest ws, a, t)) (heaviest_among ws)),
  (λ c. not_T (exceeds n v (heaviest ws)) (λ t. ⊎_elim
      (λ z. T_not (exceeds n v zero_weight) z (over (finite zero_finite) (le_trans (le_of_eq zero_units) (nothing (units_of (heaviest ws)))) t))
      (λ w. T_not (exceeds n v w.0) w.2 (over (among_weight ws p w.0 w.1) (heaviest_above ws p w.0 w.1) t)) c)),
)
  where
    nothing : (a : ℕ) → 0 ≤ a
    nothing a = omega arith

    over : {u : Float} → Weight u → units_of u ≤ units_of (heaviest ws) → T (exceeds n v (heaviest ws)) → T (exceeds n v u)
    over q l t = exceeds_lighter n h f (heaviest_weight ws p) q l t

module _ (job : Job) (accepted : Accepted job) (best : ℕ) (h : best < length (uses_of_job job)) where
  abbrev seen : GapsSeen
  seen = seen_of_job job best

  sound : SoundGaps (seen_of_job job best)
  sound = job_sound job accepted best h

  -- the own gap is all of its region
  in_own : (g o : ℕ) → o ≤ g → g < o + 1 → g ≡ o
  in_own g o a b = omega (arith, a, b)

  one : (o : ℕ) → o < o + 1
  one o = omega arith

  met_own : Weights (weights_in (seen_of_job job best).met (gaps_in (own_span (seen_of_job job best))))
  met_own =
      met_weights seen (own_span seen)
      (λ g i. subst (λ (x : ℕ). Weights (seen.met x)) (sym (in_own g seen.own i.0 i.1)) (sound.met seen.own sound.inside))

  own_finite : Finite (own_normalised job best)
  own_finite =
      normalised_finite 1 job.k (subst Weight (own_weight job best) (sound.weights seen.own sound.inside)) (some job.k)
      (le_trans (few job.k accepted.parameters.adjustment) (lit≤ tt))
    where
      some : (k : ℕ) → 0 < 1 + k
      some k = omega arith

      few : (k : ℕ) → k ≤ 65536 → 1 + k ≤ 65537
      few k h = omega (arith, h)

  -- the weight test of the own gap alone
  own_test : weight_test (seen_of_job job best) (own_span (seen_of_job job best))
      ≡ exceeds 2007 (own_normalised job best) (heaviest_in (seen_of_job job best) (own_span (seen_of_job job best)))
  unfolding weight_test
  own_test = ap (λ (w : Float). exceeds 2007 (normalised w 1 job.k) (heaviest_in seen (own_span seen))) (own_weight job best)

  -- a weight that the own gap meets is met in the best use's instruction
  own_met : (w : Float) → Among w (weights_in (seen_of_job job best).met (gaps_in (own_span (seen_of_job job best)))) ↔ WeightMet job best (AtBest job best) w
  own_met w = (
    (λ a.
        let g = gap_of_met seen (own_span seen) w a in
        let m = gap_weighed_by job best g.0 w g.2 in
        record {
          segment = m.segment;
          row = m.row;
          is_among =
              (at_best_exactly job best accepted h m.segment m.weighs.meet.segment).1 (m.is_among ∙ in_own g.0 seen.own g.1.0 g.1.1);
          weighs = m.weighs;
          has = m.has;
        }),
    (λ m. met_of_gap seen (own_span seen) seen.own w (le_refl seen.own, one seen.own)
        (subst (λ (g : ℕ). Among w (seen.met g)) ((at_best_exactly job best accepted h m.segment m.weighs.meet.segment).0 m.is_among)
        (subst (λ (v : Float). Among v (seen.met (gap_of_segment job best m.segment))) m.has
        (gap_weighs job best accepted m.segment m.row m.weighs)))),
  )

  -- so for what counts as fixed
  own_fixed : T ((seen_of_job job best).fixed (seen_of_job job best).own) ↔ FixedMet job best (AtBest job best)
  own_fixed =
      let exact = gap_fixed_exactly job best accepted seen.own in (
        (λ t. let m = exact.0 t in record {
          segment = m.segment;
          row = m.row;
          is_among = (at_best_exactly job best accepted h m.segment m.counts.meet.segment).1 m.is_among;
          counts = m.counts;
        }),
        (λ m. exact.1 (record {
          segment = m.segment;
          row = m.row;
          is_among = (at_best_exactly job best accepted h m.segment m.counts.meet.segment).0 m.is_among;
          counts = m.counts;
        })),
      )

  -- no region is found exactly if the own gap fails
  pub job_nothing_exactly : (region_of (seen_of_job job best) ≡ None) ↔ OwnFails job best
  job_nothing_exactly =
      let all = nothing_exactly seen in
      let test = heaviest_fails 2007 (lit≤ tt) (own_normalised job best) (weights_in seen.met (gaps_in (own_span seen))) own_finite met_own in (
        (λ e. ⊎_elim (λ f. inl (own_fixed.0 f))
            (λ t. inr (⊎_elim (λ z. inl z) (λ w. inr (w.0, (own_met w.0).0 w.1, w.2))
            (test.0 (subst (λ (b : Bool). T (not b)) own_test t)))) (all.0 e)),
        (λ c. all.1 (⊎_elim (λ m. inl (own_fixed.1 m))
            (λ t. inr (subst (λ (b : Bool). T (not b)) (sym own_test) (test.1 (⊎_elim (λ z. inl z) (λ w. inr (w.0, (own_met w.0).1 w.1, w.2)) t)))) c)),
      )

-- The best use's own gap: its instruction alone, with its main weight
use mathlib.Core.Path.{◌≡◌, ap, ◌∙◌}
use mathlib.Core.Logic.{◌⊎◌, inl, inr, ◌↔◌}
use mathlib.Core.List.{[], ◌∷◌}
use Prim.Native.Nat.{ℕ, ◌+◌, ◌*◌, ◌/◌, ◌≤◌, ◌<◌}
use native.Mathlib.Omega.{arith}
use lib.Ieee.{nan}
use lib.ListN.{length, get_or}
use Rattle.numbers.specs.Sum.{plus}
use Rattle.columns.proofs.Firsts.{split}
use Rattle.overlaps.specs.Live.{Gaps}
use Rattle.overlaps.proofs.LiveLaws.{gap_order}
use Rattle.gaps.specs.Gaps.{Gap, gap_weight}
use Rattle.gaps.specs.GapColumns.{froms_of, tos_of}
use Rattle.filling.proofs.TableLaws.{own_at}
use Rattle.refusals.specs.Job.{Job, source_of_job}
use Rattle.refusals.proofs.Accepted.{Accepted}
use Rattle.tables.specs.JobTables.{uses_of_job, gaps_of_job, own_of_job, segments_of_job}
use Rattle.views.specs.View.{seen_of_job}
use Rattle.views.specs.Met.{gap_of_segment, best_row, AtBest}
use Rattle.overlaps.proofs.SegmentOrder.{InGap, from_column, to_column}
use Rattle.views.proofs.JobView.{job_tiles, job_sound, segment_in_gap}

module _ (job : Job) (best : ℕ) where
  abbrev none : Gap
  none = record { from = 0; to = 0; weights = nan ∷ []; freq = nan; block = 0 }

  -- among the job's gaps it is the best use's, of one instruction
  own_from : get_or (froms_of (gaps_of_job job best)) (own_of_job job best) 0 ≡ (best_row job best).inst.0
  own_from = own_at (source_of_job job) best (λ (g : Gap). g.from) none

  own_to : get_or (tos_of (gaps_of_job job best)) (own_of_job job best) 0 ≡ (best_row job best).inst.0 + 1
  own_to = own_at (source_of_job job) best (λ (g : Gap). g.to) none

  -- growth sees it with the best use's main weight
  pub own_weight : (seen_of_job job best).weight (own_of_job job best) ≡ (best_row job best).weight
  unfolding plus
  own_weight = own_at (source_of_job job) best gap_weight none

  -- a gap segment lies in the best use's instruction exactly if it is of that gap
  module _ (accepted : Accepted job) (h : best < length (uses_of_job job)) (k : ℕ) (l : k < length (segments_of_job job best)) where
    tiles : Gaps (froms_of (gaps_of_job job best)) (tos_of (gaps_of_job job best))
    tiles = job_tiles job accepted best h

    inside : InGap (froms_of (gaps_of_job job best)) (tos_of (gaps_of_job job best)) (get_or (from_column (segments_of_job job best)) k 0)
        (get_or (to_column (segments_of_job job best)) k 0) (gap_of_segment job best k)
    inside = segment_in_gap job accepted best h k l

    pub at_best_exactly : AtBest job best k ↔ (gap_of_segment job best k ≡ own_of_job job best)
    at_best_exactly = (
      (λ e. by e (split (gap_of_segment job best k) (own_of_job job best)) (split (own_of_job job best) (gap_of_segment job best k))),
      (λ e. there (get_or (from_column (segments_of_job job best)) k 0) (get_or (to_column (segments_of_job job best)) k 0) (best_row job best).inst.0
          (let a = inside.low in let b = ap (λ (g : ℕ). get_or (froms_of (gaps_of_job job best)) g 0) e ∙ own_from in omega (arith, a, b))
          inside.some
          (let a = inside.high in let b = ap (λ (g : ℕ). get_or (tos_of (gaps_of_job job best)) g 0) e ∙ own_to in omega (arith, a, b))),
    )
      where
        there : (x y i : ℕ) → 4 * i ≤ x → x < y → y ≤ 4 * (i + 1) → x / 4 ≡ i
        there x y i a b c = omega (arith, a, b, c)

        early : (x y t i : ℕ) → x < y → y ≤ 4 * t → t ≤ i → x / 4 ≡ i → ⊥
        early x y t i a b c e = omega (arith, a, b, c, e)

        late : (x f i : ℕ) → i + 1 ≤ f → 4 * f ≤ x → x / 4 ≡ i → ⊥
        late x f i a b e = omega (arith, a, b, e)

        same : (g o : ℕ) → g ≤ o → o ≤ g → g ≡ o
        same g o a b = omega (arith, a, b)

        by : AtBest job best k → (gap_of_segment job best k < own_of_job job best) ⊎ (own_of_job job best ≤ gap_of_segment job best k)
            → (own_of_job job best < gap_of_segment job best k) ⊎ (gap_of_segment job best k ≤ own_of_job job best) → gap_of_segment job best k ≡ own_of_job job best
        by e (inl a) y =
            absurd (early (get_or (from_column (segments_of_job job best)) k 0) (get_or (to_column (segments_of_job job best)) k 0)
            (get_or (tos_of (gaps_of_job job best)) (gap_of_segment job best k) 0) (best_row job best).inst.0 inside.some inside.high
            (let o = gap_order (froms_of (gaps_of_job job best)) (tos_of (gaps_of_job job best)) tiles (gap_of_segment job best k) (own_of_job job best) a
            (job_sound job accepted best h).inside in
            let f = own_from in omega (arith, o, f)) e)
        by e (inr a) (inl b) =
            absurd (late (get_or (from_column (segments_of_job job best)) k 0) (get_or (froms_of (gaps_of_job job best)) (gap_of_segment job best k) 0)
            (best_row job best).inst.0
            (let o = gap_order (froms_of (gaps_of_job job best)) (tos_of (gaps_of_job job best)) tiles (own_of_job job best) (gap_of_segment job best k) b
            inside.known in
            let t = own_to in omega (arith, o, t)) inside.low e)
        by e (inr a) (inr b) = same (gap_of_segment job best k) (own_of_job job best) b a

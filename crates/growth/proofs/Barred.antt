-- Why a side of a region is not grown: it is used up, or the gap just outside failed when it was tried
use mathlib.Core.Path.{◌≡◌, refl, ◌∙◌}
use mathlib.Core.Logic.{◌⊎◌, inl, inr}
use Prim.Native.Nat.{ℕ, zero, suc, ◌≤◌}
use native.Mathlib.Nat.{le_refl, le_trans}
use native.Mathlib.Omega.{arith}
use mathlib.Core.Bool.{Bool, true, false, not, ◌&&◌}
use lib.Dec.{T, T_not}
use Rattle.links.specs.declared.lower.Side.{Side}
use Rattle.links.specs.declared.lower.Side.TheVariants.{Previous, Next}
use Rattle.links.specs.Links.{on_side}
use Rattle.growth.specs.Growth.{GapsSeen, Span, State, own_span, gap_outside, used_up, grown_by, passes_on, start, side_open, is_open, barred, turn, growth}
use Rattle.growth.specs.Demand.{FailedBefore}
use Rattle.growth.proofs.Tries.{open_free, try_told}
use Rattle.std.specs.Prelude.{Some}

module _ (seen : GapsSeen) where
  -- a side is barred
  abbrev Barred : Side → State → Type 0
  Barred side st = T (on_side side st.left_barred st.right_barred)

  later : (side : Side) (n : ℕ) (s t : Span) → gap_outside side s ≡ gap_outside side t → FailedBefore seen side n s → FailedBefore seen side (suc n) t
  later side n s t e f =
      record { after = f.after; before = le_trans f.before (more n); tried = f.tried; gap = f.gap ∙ e; failed = f.failed }
    where
      more : (n : ℕ) → n ≤ suc n
      more n = omega arith

  -- growing on the other side leaves the gap just outside; on a barred side there is no growing
  same_outside : (st : State) (side other : Side) → T (is_open other seen st) → Barred side st
      → gap_outside side st.region ≡ gap_outside side (grown_by other seen st.region)
  same_outside st Previous Previous o b = absurd (T_not st.left_barred (open_free seen Previous st o) b)
  same_outside st Previous Next o b = refl
  same_outside st Next Previous o b = refl
  same_outside st Next Next o b = absurd (T_not st.right_barred (open_free seen Next st o) b)

  pub barred_failed : (side : Side) (n : ℕ) → Barred side (growth seen n) → FailedBefore seen side n (growth seen n).region
  unfolding growth
  barred_failed side zero = none side
    where
      none : (side : Side) → Barred side (start seen) → FailedBefore seen side 0 (own_span seen)
      none Previous b = absurd b
      none Next b = absurd b
  barred_failed side (suc n) =
      try_told seen (λ (t : State). Barred side t → FailedBefore seen side (suc n) t.region) (growth seen n)
      (λ other o _ b. later side n (growth seen n).region (grown_by other seen (growth seen n).region) (same_outside (growth seen n) side other o b)
      (barred_failed side n b))
      (λ other o w f b. by_bar other side w f (barred_failed side n) b)
      (λ _ b. later side n (growth seen n).region (growth seen n).region refl (barred_failed side n b))
    where
      by_bar : (other side : Side) → turn seen (growth seen n) ≡ Some other → T (not (passes_on other seen (growth seen n).region))
          → (Barred side (growth seen n) → FailedBefore seen side n (growth seen n).region) → Barred side (barred other (growth seen n))
          → FailedBefore seen side (suc n) (growth seen n).region
      by_bar Previous Previous w f before b = record { after = n; before = le_refl (suc n); tried = w; gap = refl; failed = f }
      by_bar Next Next w f before b = record { after = n; before = le_refl (suc n); tried = w; gap = refl; failed = f }
      by_bar Previous Next w f before b = later Next n (growth seen n).region (growth seen n).region refl (before b)
      by_bar Next Previous w f before b = later Previous n (growth seen n).region (growth seen n).region refl (before b)

  -- a side that is not open is used up, or the gap just outside failed when it was tried
  pub shut_why : (side : Side) (n : ℕ) → T (not (is_open side seen (growth seen n)))
      → T (used_up side seen.count (growth seen n).region) ⊎ FailedBefore seen side n (growth seen n).region
  unfolding side_open
  shut_why side n t =
      elim (parts (on_side side (growth seen n).left_barred (growth seen n).right_barred) (used_up side seen.count (growth seen n).region) t)
      [ inl b ↦ inr (barred_failed side n b) | inr u ↦ inl u ]
    where
      parts : (b u : Bool) → T (not (not b && not u)) → T b ⊎ T u
      parts true u t = inl tt
      parts false true t = inr tt
      parts false false t = absurd t

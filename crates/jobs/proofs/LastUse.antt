-- The last use of a list, after line 7: no use of the list is higher, so line 8 may be asked of it alone
use mathlib.Core.Path.{◌≡◌, sym, ap, ◌∙◌, subst}
use mathlib.Core.Bool.{Bool, false, not, ◌&&◌, ◌||◌, cond}
use mathlib.Core.Logic.{⊎_elim}
use mathlib.Core.List.{List}
use Prim.Native.Nat.{ℕ, zero, suc, ◌+◌, ◌-◌, ◌/◌, ◌%◌, ◌≤◌, ◌<◌}
use native.Mathlib.Nat.{le_of_eq}
use native.Mathlib.Omega.{arith}
use lib.Dec.{eqb, ltb, eqb→eq, ltb→lt}
use lib.ListN.{length, get_or}
use borrow.Author.Tests.{lt-ltb, eq-eqb, ne_eqb}
use Rattle.columns.specs.First.{first_below}
use Rattle.columns.specs.Table.{row_before}
use Rattle.columns.proofs.Tests.{test_same, and_T}
use Rattle.columns.proofs.Counting.{any_elim}
use Rattle.columns.proofs.Firsts.{split, first_same}
use Rattle.jobs.specs.declared.rows.Segment.{Segment}
use Rattle.jobs.specs.declared.rows.Use.{Use}
use Rattle.jobs.specs.declared.rows.Limits.{Limits}
use Rattle.jobs.specs.Rows.{no_segment, no_use, live_out, fixed_def}
use Rattle.jobs.specs.Lines.{Lists, bad_use_at, has_use_at, bad_last_end, bad_end, bad_end_at, last_use_at, bad_end_by_last, bad_end_by_last_at}
use Rattle.jobs.proofs.SoundUses.{Fitting, fitting, used_at}
use Rattle.jobs.proofs.UseLists.{list_of_lem}

module _ (limits : Limits) (uses : List Use) (s : Segment)
    (each : (u : ℕ) → s.first_use ≤ u → u < s.end_use
    → Fitting limits s (eqb u s.first_use) (row_before uses no_use u) (get_or uses u no_use)) where
  abbrev at : ℕ → ℕ
  at u = (get_or uses u no_use).position

  abbrev last : ℕ
  last = s.end_use - 1

  -- within a list positions do not fall
  pub list_rises : (u k : ℕ) → s.first_use ≤ u → u + k < s.end_use → (get_or uses u no_use).position ≤ (get_or uses (u + k) no_use).position
  list_rises u zero p q = le_of_eq (ap at (same u))
    where
      same : (x : ℕ) → x ≡ x + 0
      same x = omega arith
  list_rises u (suc k) p q =
      let before = list_rises u k p (omega (arith, q)) in
      let e : suc (u + k) ≡ u + suc k = omega arith in
      let step = (each (suc (u + k)) (omega (arith, p)) (omega (arith, q))).rises
      (ne_eqb (suc (u + k)) s.first_use (λ f. omega (arith, f, p))) in
      let whole : at u ≤ at (suc (u + k)) = omega (arith, before, step) in
      subst (λ (x : ℕ). at u ≤ at x) e whole

  -- no use is higher than the last one
  pub last_highest : (u : ℕ) → s.first_use ≤ u → u < s.end_use → (get_or uses u no_use).position ≤ (get_or uses (s.end_use - 1) no_use).position
  last_highest u p q =
      let k : u + (last - u) ≡ last = omega (arith, q) in
      subst (λ (x : ℕ). at u ≤ at x) k (list_rises u (last - u) p (omega (arith, q)))

  -- a use at the end's instruction: then the last one is there
  at_end : (u : ℕ) → s.first_use ≤ u → u < s.end_use → at u ≡ s.end / 4 → at last ≡ s.end / 4
  at_end u p q e = ⊎_elim several only (split s.first_use last)
    where
      -- the last one is not the first, so it lies inside the segment
      several : s.first_use < last → at last ≡ s.end / 4
      several m =
          let inside = ((each last (omega (arith, m)) (omega (arith, q))).inside
          (ap (λ (b : Bool). b && fixed_def s.flags) (ne_eqb last s.first_use (λ f. omega (arith, f, m))))).1 in
          let high = last_highest u p q in
          omega (arith, inside, high, e)

      only : last ≤ s.first_use → at last ≡ s.end / 4
      only m = let same : last ≡ u = omega (arith, p, q, m) in ap at same ∙ e

  last_decides : last_use_at uses s (s.end / 4) ≡ has_use_at uses s (s.end / 4)
  last_decides =
      test_same (last_use_at uses s (s.end / 4)) (has_use_at uses s (s.end / 4))
      (λ t. let b = (and_T (ltb s.first_use s.end_use) (eqb (at last) (s.end / 4))).0 t in
      let some = ltb→lt s.first_use s.end_use b.0 in
      used_at uses s (s.end / 4) last (omega (arith, some)) (omega (arith, some)) (eqb→eq (at last) (s.end / 4) b.1))
      (any_elim (λ (k : ℕ). eqb (at (s.first_use + k)) (s.end / 4)) (s.end_use - s.first_use)
      (λ k h t. let there = at_end (s.first_use + k) (omega arith) (omega (arith, h)) (eqb→eq (at (s.first_use + k)) (s.end / 4) t) in
      rw (lt-ltb s.first_use s.end_use (omega (arith, h)), eq-eqb (at last) (s.end / 4) there) tt))

  -- line 8 of a segment by its last use
  pub end_by_last : (is_last : Bool) → bad_end_by_last uses is_last s ≡ bad_end uses is_last s
  unfolding bad_end_by_last bad_end
  end_by_last is_last =
      ap (λ (b : Bool). cond (live_out s.flags) (not (eqb (s.end % 4) 0) || b) (is_last && bad_last_end uses s)) last_decides

-- a use in the list that has it, after lines 5 and 7
pub list_fitting : (limits : Limits) (uses : List Use) (segments : List Segment) → Lists (length uses) segments
    → ((u : ℕ) → u < length uses → bad_use_at limits uses segments u ≡ false) → (i : ℕ) → i < length segments
    → (u : ℕ) → (get_or segments i no_segment).first_use ≤ u → u < (get_or segments i no_segment).end_use
    → Fitting limits (get_or segments i no_segment) (eqb u (get_or segments i no_segment).first_use) (row_before uses no_use u) (get_or uses u no_use)
list_fitting limits uses segments lists passed i h u p q =
    let inside = lists.inside i h in
    subst (λ (k : ℕ). Fitting limits (get_or segments k no_segment) (eqb u (get_or segments k no_segment).first_use) (row_before uses no_use u) (get_or uses u no_use))
    (sym (list_of_lem (length uses) segments lists i u h p q)) (fitting limits _ _ _ _ (passed u (omega (arith, inside, q))))

-- line 8 of every segment by the last uses, after lines 5 and 7
pub ends_by_last : (limits : Limits) (uses : List Use) (segments : List Segment) → Lists (length uses) segments
    → ((u : ℕ) → u < length uses → bad_use_at limits uses segments u ≡ false)
    → first_below (bad_end_by_last_at uses segments) (length segments) ≡ first_below (bad_end_at uses segments) (length segments)
ends_by_last limits uses segments lists passed =
    first_same (bad_end_by_last_at uses segments) (bad_end_at uses segments) (length segments)
    (λ i h. end_by_last limits uses (get_or segments i no_segment) (list_fitting limits uses segments lists passed i h) (eqb (i + 1) (length segments)))

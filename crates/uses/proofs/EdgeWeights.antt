-- The outer weights of a checked job's use table: the first row has no left weight, the last row no right weight
use mathlib.Core.Path.{◌≡◌, refl, sym, ap, ◌∙◌, subst}
use mathlib.Core.Bool.{Bool, true, false, ◌&&◌, cond, true≢false}
use Prim.Native.Nat.{ℕ, zero, suc, ◌+◌, ◌-◌, ◌*◌, ◌/◌, ◌≤◌, ◌<◌}
use native.Mathlib.Nat.{le_refl}
use native.Mathlib.Omega.{arith}
use lib.Dec.{eqb, ltb}
use lib.Ieee.{Float}
use lib.ListN.{length, get_or}
use borrow.Author.Tests.{eqb-true, lt-ltb}
use Rattle.numbers.specs.Weight.{zero_weight}
use Rattle.columns.specs.Table.{row_before}
use Rattle.columns.proofs.Firsts.{first_at_most}
use Rattle.jobs.specs.Rows.{no_segment, no_use}
use Rattle.jobs.specs.Lines.{list_of}
use Rattle.jobs.specs.declared.rows.Segment.{Segment}
use Rattle.use_rows.specs.declared.row.Part.{Part}
use Rattle.use_rows.specs.declared.row.Part.TheVariants as Part·is
use Rattle.use_rows.specs.declared.row.SplitUse.{SplitUse}
use Rattle.use_rows.specs.Uses.{part_of, no_weights, added_to_row, Seen, counts_at, split_use, Source, segment_of, seen_of, first_inst, last_inst, use_table_of}
use Rattle.uses.specs.CheckedUses.{CheckedUses}
use Rattle.uses.proofs.CheckedJob.{job_lists, job_bounded, first_before, first_covers, last_covers}
use Rattle.uses.proofs.UseTable.{table_first_row, table_last_row}

-- ---- a row, where no use adds to one of its three weights
abbrev weight_in : Part → SplitUse → Float
weight_in Part·is.Main u = u.weight
weight_in Part·is.Left u = u.left_weight
weight_in Part·is.Right u = u.right_weight

none_in : (t : Part) (p : ℕ) → weight_in t (no_weights p) ≡ zero_weight
none_in Part·is.Main p = refl
none_in Part·is.Left p = refl
none_in Part·is.Right p = refl

-- what is added to another of the three leaves it
other_kept : (t s : Part) → (s ≡ t → ⊥) → (u : SplitUse) (w : Float) → weight_in t (added_to_row u s w) ≡ weight_in t u
unfolding added_to_row
other_kept Part·is.Main Part·is.Main f u w = absurd (f refl)
other_kept Part·is.Main Part·is.Left f u w = refl
other_kept Part·is.Main Part·is.Right f u w = refl
other_kept Part·is.Left Part·is.Main f u w = refl
other_kept Part·is.Left Part·is.Left f u w = absurd (f refl)
other_kept Part·is.Left Part·is.Right f u w = refl
other_kept Part·is.Right Part·is.Main f u w = refl
other_kept Part·is.Right Part·is.Left f u w = refl
other_kept Part·is.Right Part·is.Right f u w = absurd (f refl)

none_added : (seen : Seen) (p : ℕ) (t : Part) (n : ℕ) → ((u : ℕ) → u < n → seen.inst u ≡ p → seen.part u ≡ t → ⊥)
    → weight_in t (split_use seen n p) ≡ zero_weight
unfolding split_use
none_added seen p t zero none = none_in t p
none_added seen p t (suc n) none = by (none_added seen p t n (λ u h. none u (omega (arith, h)))) (counts_at seen p n) refl
  where
    second : (a b : Bool) → (a && b) ≡ true → b ≡ true
    second true b e = e
    second false b e = absurd (true≢false (sym e))

    by : weight_in t (split_use seen n p) ≡ zero_weight → (b : Bool) → counts_at seen p n ≡ b
        → weight_in t (cond b (added_to_row (split_use seen n p) (seen.part n) (seen.weight n)) (split_use seen n p)) ≡ zero_weight
    by before true e =
        other_kept t (seen.part n) (none n (le_refl (suc n)) (eqb-true (seen.inst n) p (second (seen.counts n) (eqb (seen.inst n) p) e)))
        (split_use seen n p) (seen.weight n)
        ∙ before
    by before false e = before

-- ---- what a use's part says of its segment
left_at : (s : Segment) (p : ℕ) → part_of s p ≡ Part·is.Left → 4 * p ≡ s.end
unfolding part_of
left_at s p e = eqb-true (4 * p) s.end (by (eqb (4 * (p + 1)) s.start) (eqb (4 * p) s.end) e)
  where
    by : (a b : Bool) → cond a Part·is.Right (cond b Part·is.Left Part·is.Main) ≡ Part·is.Left → b ≡ true
    by true b e = absurd (let z : ◌≡◌ {A = ℕ} 0 1 = cc in omega arith)
    by false true e = refl
    by false false e = absurd (let z : ◌≡◌ {A = ℕ} 0 1 = cc in omega arith)

right_at : (s : Segment) (p : ℕ) → part_of s p ≡ Part·is.Right → 4 * (p + 1) ≡ s.start
unfolding part_of
right_at s p e = eqb-true (4 * (p + 1)) s.start (by (eqb (4 * (p + 1)) s.start) (eqb (4 * p) s.end) e)
  where
    by : (a b : Bool) → cond a Part·is.Right (cond b Part·is.Left Part·is.Main) ≡ Part·is.Right → a ≡ true
    by true b e = refl
    by false true e = absurd (let z : ◌≡◌ {A = ℕ} 0 1 = cc in omega arith)
    by false false e = absurd (let z : ◌≡◌ {A = ℕ} 0 1 = cc in omega arith)

-- ---- a job's table
module _ (job : Source) (checked : CheckedUses job) where
  abbrev at : ℕ → ℕ
  at u = (get_or job.uses u no_use).position

  -- a use is listed by a segment
  list_inside : (u : ℕ) → u < length job.uses → list_of job.segments u < length job.segments
  list_inside u h =
      let z = length job.segments - 1 in
      let some = checked.some in
      let last : length job.segments ≡ suc z = omega (arith, some) in
      let all = subst (λ (n : ℕ). u < (row_before job.segments no_segment n).end_use) last (subst (λ (n : ℕ). u < n) (sym (job_lists job checked).all) h) in
      let l = first_at_most (λ (i : ℕ). ltb u (get_or job.segments i no_segment).end_use) (length job.segments) z (lt-ltb _ _ all) in
      omega (arith, l, some)

  -- a use that counts left ends its segment, so its segment begins before it
  not_left : (u : ℕ) → u < length job.uses → at u ≡ first_inst job.segments → part_of (segment_of job u) (at u) ≡ Part·is.Left → ⊥
  not_left u h e t =
      let i = list_inside u h in
      apart (segment_of job u).start (segment_of job u).end (at u) (first_inst job.segments) (left_at (segment_of job u) (at u) t)
      (first_covers job checked _ i) (job_bounded job checked _ i).nonempty e
    where
      apart : (s e p f : ℕ) → 4 * p ≡ e → f ≤ s / 4 → s < e → p ≡ f → ⊥
      apart s e p f a b c d = omega (arith, a, b, c, d)

  -- a use that counts right is before its segment, which ends later
  not_right : (u : ℕ) → u < length job.uses → at u ≡ last_inst job.uses job.segments → part_of (segment_of job u) (at u) ≡ Part·is.Right → ⊥
  not_right u h e t =
      let i = list_inside u h in
      apart (segment_of job u).start (segment_of job u).end (at u) (last_inst job.uses job.segments) (right_at (segment_of job u) (at u) t)
      (last_covers job checked _ i) (job_bounded job checked _ i).nonempty e
    where
      apart : (s e p l : ℕ) → 4 * (p + 1) ≡ s → (e + 3) / 4 ≤ l + 1 → s < e → p ≡ l → ⊥
      apart s e p l a b c d = omega (arith, a, b, c, d)

  abbrev from : ℕ
  from = first_inst job.segments

  abbrev to : ℕ
  to = last_inst job.uses job.segments

  pub first_no_left : (get_or (use_table_of job) 0 (no_weights 0)).left_weight ≡ zero_weight
  first_no_left =
      ap (λ (u : SplitUse). u.left_weight) (table_first_row (seen_of job) (length job.uses) from to (first_before job checked))
      ∙ none_added (seen_of job) from Part·is.Left (length job.uses) not_left

  pub last_no_right : (get_or (use_table_of job) (length (use_table_of job) - 1) (no_weights 0)).right_weight ≡ zero_weight
  last_no_right =
      ap (λ (u : SplitUse). u.right_weight) (table_last_row (seen_of job) (length job.uses) from to (first_before job checked))
      ∙ none_added (seen_of job) to Part·is.Right (length job.uses) not_right

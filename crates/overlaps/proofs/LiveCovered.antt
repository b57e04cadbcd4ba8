-- Live instructions, of a gap and of the segments alone, are the instructions that some segment covers, each counted once
use mathlib.Core.Path.{◌≡◌, refl, sym, ap, ◌∙◌}
use mathlib.Core.Logic.{inl, ⊎_elim}
use mathlib.Core.Bool.{Bool, true, false, ◌&&◌, ◌||◌}
use mathlib.Core.List.{List}
use Prim.Native.Nat.{ℕ, zero, suc, ◌+◌, ◌-◌, ◌*◌, ◌/◌, ◌≤◌, ◌<◌, zero-le, min, max}
use native.Mathlib.Nat.{le_refl, le_of_eq, not-suc-le-zero}
use native.Mathlib.Omega.{arith}
use lib.Dec.{T, leb, ltb, ltb→lt, not_T}
use lib.Ieee.Bits.{is_true, is_false}
use lib.ListN.{length, get_or}
use borrow.Author.Tests.{lt-ltb, le-leb, lt-leb}
use Rattle.numbers.specs.Point.{round_up}
use Rattle.columns.specs.Table.{row_before}
use Rattle.columns.specs.Below.{count_below, sum_below, any_below}
use Rattle.columns.proofs.Firsts.{split}
use Rattle.columns.proofs.Tests.{test_same, or_T, and_T}
use Rattle.columns.proofs.Counting.{count_never, count_alike, count_span, any_elim, any_hit}
use Rattle.overlaps.specs.Live.{live_from, live_to, live_of, live_insts, live_added, live_in_gap, covers_inst, covered, covered_in, Segments}
use Rattle.overlaps.proofs.LiveTotal.{sum_same}

module _ (starts ends : List ℕ) (given : Segments starts ends) where
  abbrev start : ℕ → ℕ
  start s = get_or starts s 0

  abbrev end : ℕ → ℕ
  end s = get_or ends s 0

  -- one of the first m segments covers an instruction
  abbrev covered_by : ℕ → ℕ → Bool
  covered_by m i = any_below (covers_inst starts ends i) m

  covers_in : (i s : ℕ) → start s < 4 * (i + 1) → 4 * i < end s → T (covers_inst starts ends i s)
  covers_in i s p q = rw (lt-ltb (start s) (4 * (i + 1)) p, lt-ltb (4 * i) (end s) q) tt

  covers_out : (i s : ℕ) → T (covers_inst starts ends i s) → (start s < 4 * (i + 1)) × (4 * i < end s)
  covers_out i s t =
      let b = (and_T (ltb (start s) (4 * (i + 1))) (ltb (4 * i) (end s))).0 t in
      (ltb→lt (start s) (4 * (i + 1)) b.0, ltb→lt (4 * i) (end s) b.1)

  -- ends rise
  ends_rise : (m k : ℕ) → k < m → m ≤ length starts → end k ≤ row_before ends 0 m
  ends_rise zero k h l = absurd (not-suc-le-zero h)
  ends_rise (suc m) k h l =
      let a = given.after m l in
      let n = given.nonempty m l in
      ⊎_elim (λ p. let r = ends_rise m k p (omega (arith, l)) in omega (arith, r, a, n)) (λ p. let e : k ≡ m = omega (arith, h, p) in le_of_eq (ap end e))
      (split k m)

  -- an instruction of the next segment that lies before the end of the one before is covered already
  shared : (m : ℕ) → m < length starts → (i : ℕ) → start m < 4 * (i + 1) → i < round_up (row_before ends 0 m) → T (covered_by m i)
  shared zero h i p q = absurd (omega (arith, q))
  shared (suc m) h i p q =
      let a = given.after (suc m) h in
      let n = given.nonempty m (omega (arith, h)) in
      any_hit (covers_inst starts ends i) (suc m) m (le_refl (suc m)) (covers_in i m (omega (arith, p, a, n)) (omega (arith, q)))

  -- what the next segment adds
  module _ (m : ℕ) (h : m < length starts) where
    kept : (i : ℕ) → (T (covers_inst starts ends i m) → T (covered_by m i)) → covered_by (suc m) i ≡ covered_by m i
    unfolding any_below
    kept i f =
        test_same (covered_by m i || covers_inst starts ends i m) (covered_by m i)
        (λ t. ⊎_elim (λ a. a) f ((or_T (covered_by m i) (covers_inst starts ends i m)).0 t))
        (λ t. (or_T (covered_by m i) (covers_inst starts ends i m)).1 (inl t))

    low : (i : ℕ) → i < live_from starts ends m → covered_by (suc m) i ≡ covered_by m i
    low i l = kept i (λ t. let c = covers_out i m t in let p = c.0 in shared m h i p (omega (arith, l, p)))

    high : (i : ℕ) → live_to ends m ≤ i → covered_by (suc m) i ≡ covered_by m i
    high i l = kept i (λ t. let c = covers_out i m t in let q = c.1 in absurd (omega (arith, l, q)))

    within : (i : ℕ) → live_from starts ends m ≤ i → i < live_to ends m → (covered_by m i ≡ false) × (covered_by (suc m) i ≡ true)
    within i l u = (
      is_false (covered_by m i) (not_T (covered_by m i) (any_elim (covers_inst starts ends i) m
          (λ k n t. let q = (covers_out i k t).1 in let r = ends_rise m k n (omega (arith, h)) in omega (arith, l, q, r)))),
      is_true (covered_by (suc m) i) (any_hit (covers_inst starts ends i) (suc m) m (le_refl (suc m)) (covers_in i m (omega (arith, l)) (omega (arith, u)))),
    )

  -- of a gap: its instructions that some segment covers
  module _ (from : ℕ) where
    abbrev covered_from : ℕ → ℕ → Bool
    covered_from m i = covered_by m i && leb from i

    gap_step : (m : ℕ) → m < length starts → (n : ℕ)
        → count_below (covered_from (suc m)) n ≡ count_below (covered_from m) n + (min (live_to ends m) n - max (live_from starts ends m) from)
    gap_step m h =
        count_span (covered_from m) (covered_from (suc m)) (max (live_from starts ends m) from) (live_to ends m)
        (λ i l. ⊎_elim (λ p. outside i p) (λ p. same i (low m h i (omega (arith, l, p)))) (split i from)) (λ i l. same i (high m h i l))
        (λ i l u. let w = within m h i (omega (arith, l)) u in
        let b = le-leb from i (omega (arith, l)) in
        (ap (λ (x : Bool). x && leb from i) w.0, ap (λ (x : Bool). x && leb from i) w.1 ∙ b))
      where
        same : (i : ℕ) → covered_by (suc m) i ≡ covered_by m i → covered_from (suc m) i ≡ covered_from m i
        same i e = ap (λ (x : Bool). x && leb from i) e

        none : (b c : Bool) → (b && false) ≡ (c && false)
        none true true = refl
        none true false = refl
        none false true = refl
        none false false = refl

        outside : (i : ℕ) → i < from → covered_from (suc m) i ≡ covered_from m i
        outside i l = rw (lt-leb from i l) (none (covered_by (suc m) i) (covered_by m i))

    gap_first : (n m : ℕ) → m ≤ length starts → sum_below (live_added starts ends from n) m ≡ count_below (covered_from m) n
    unfolding sum_below any_below
    gap_first n zero h = sym (count_never n)
    gap_first n (suc m) h = let before = gap_first n m (omega (arith, h)) in let step = gap_step m h n in omega (arith, before, step)

    pub gap_covered : (to : ℕ) → live_in_gap starts ends from to ≡ covered_in starts ends from to
    gap_covered to = gap_first to (length starts) (le_refl (length starts))

  -- of all: counted below any number of instructions that the segments do not pass
  pub live_covered : (n : ℕ) → ((i : ℕ) → i < length starts → get_or ends i 0 ≤ 4 * n) → live_insts starts ends ≡ count_below (covered starts ends) n
  live_covered n inside =
      sum_same (live_of starts ends) (live_added starts ends 0 n) (length starts)
      (λ i h. let e = inside i h in whole (live_from starts ends i) (get_or ends i 0) e)
      ∙ gap_covered 0 n
      ∙ count_alike (λ (i : ℕ). covered starts ends i && leb 0 i) (covered starts ends) n (λ i _. rw (le-leb 0 i zero-le) (and_true (covered starts ends i)))
    where
      whole : (a e : ℕ) → e ≤ 4 * n → (e + 3) / 4 - a ≡ min ((e + 3) / 4) n - max a 0
      whole a e l = omega (arith, l)

      and_true : (b : Bool) → (b && true) ≡ b
      and_true true = refl
      and_true false = refl

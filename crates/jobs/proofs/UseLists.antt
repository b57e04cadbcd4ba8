-- The segment that lists a use, where the lists follow one another; and the first bad use over all lists, list by list
use mathlib.Core.Path.{◌≡◌, sym, ap, ◌∙◌}
use mathlib.Core.Logic.{⊎_elim}
use mathlib.Core.Bool.{false}
use mathlib.Core.List.{List}
use Prim.Native.Nat.{ℕ, zero, suc, ◌+◌, ◌≤◌, ◌<◌, zero-le}
use native.Mathlib.Nat.{le_refl, le_trans, le_of_eq, le_of_lt, lt_of_lt_of_le, not-suc-le-zero}
use native.Mathlib.Omega.{arith}
use lib.Dec.{ltb}
use lib.ListN.{length, get_or}
use borrow.Author.Tests.{lt-ltb, le-ltb, ltb-true, ltb-false}
use Rattle.columns.specs.First.{FirstIn, first_below}
use Rattle.columns.proofs.Firsts.{split, first_in, first_at_most, first_found}
use Rattle.jobs.specs.declared.rows.Segment.{Segment}
use Rattle.jobs.specs.declared.rows.Use.{Use}
use Rattle.jobs.specs.declared.rows.Limits.{Limits}
use Rattle.jobs.specs.Rows.{no_segment}
use Rattle.columns.specs.Table.{row_before}
use Rattle.jobs.specs.Lines.{list_of, bad_use_of, bad_use_at, Lists}
use Rattle.jobs.proofs.Walk.{before_next}

module _ (uses : ℕ) (segments : List Segment) (lists : Lists uses segments) where
  abbrev first_of : ℕ → ℕ
  first_of i = (get_or segments i no_segment).first_use

  abbrev end_of : ℕ → ℕ
  end_of i = (get_or segments i no_segment).end_use

  -- an earlier list ends before a later one begins
  ends_before : (i k : ℕ) → k < i → i < length segments → end_of k ≤ first_of i
  ends_before zero k h l = absurd (not-suc-le-zero h)
  ends_before (suc i) k h l =
      ⊎_elim
      (λ m. le_trans (ends_before i k m (le_of_lt l)) (le_trans (lists.forward i (le_of_lt l)) (le_of_eq (sym (lists.follows (suc i) l)))))
      (λ m. le_of_eq (ap end_of (same k i h m) ∙ sym (lists.follows (suc i) l)))
      (split k i)
    where
      same : (k i : ℕ) → k < suc i → i ≤ k → k ≡ i
      same k i p q = omega arith

  -- the segment that lists a use
  pub list_of_lem : (i u : ℕ) → i < length segments → first_of i ≤ u → u < end_of i → i ≡ list_of segments u
  list_of_lem i u h p q =
      first_found (λ (k : ℕ). ltb u (end_of k)) (length segments) i h
      (λ k l. le-ltb u (end_of k) (le_trans (ends_before i k l h) p)) (lt-ltb u (end_of i) q)

  -- each use is listed
  pub record Listed (u : ℕ) : Type 0 where
    pub inside : list_of segments u < length segments
    pub from : (get_or segments (list_of segments u) no_segment).first_use ≤ u
    pub to : u < (get_or segments (list_of segments u) no_segment).end_use

  pub listed : (u : ℕ) → u < uses → Listed u
  listed u h =
      record {
        inside = inside;
        from = from (list_of segments u) inside (λ k. found.passed k zero-le);
        to = ltb-true u (end_of (list_of segments u)) (found.found inside);
      }
    where
      found : FirstIn (λ (k : ℕ). ltb u (end_of k)) 0 (length segments) (list_of segments u)
      found = first_in (λ (k : ℕ). ltb u (end_of k)) (length segments)

      last : (n : ℕ) → 0 < n → u < (row_before segments no_segment n).end_use → list_of segments u < n
      last zero s l = absurd (not-suc-le-zero s)
      last (suc n) s l = let m = first_at_most (λ (k : ℕ). ltb u (end_of k)) (length segments) n (lt-ltb u (end_of n) l) in omega (arith, m)

      inside : list_of segments u < length segments
      inside = last (length segments) lists.some (lt_of_lt_of_le h (le_of_eq (sym lists.all)))

      from : (i : ℕ) → i < length segments → ((k : ℕ) → k < i → ltb u (end_of k) ≡ false) → first_of i ≤ u
      from zero l p = le_trans (le_of_eq (lists.follows 0 l)) zero-le
      from (suc i) l p = le_trans (le_of_eq (lists.follows (suc i) l)) (ltb-false u (end_of i) (p i (le_refl (suc i))))

  module _ (limits : Limits) (rows : List Use) (i : ℕ) (h : i < length segments) (r : ℕ)
      (found : FirstIn (bad_use_of limits rows (get_or segments i no_segment)) (first_of i) (end_of i) r)
      (earlier : (u : ℕ) → u < (row_before segments no_segment i).end_use → bad_use_at limits rows segments u ≡ false) where
    of_list : (u : ℕ) → first_of i ≤ u → u < end_of i → bad_use_of limits rows (get_or segments i no_segment) u ≡ bad_use_at limits rows segments u
    of_list u p q = ap (λ (k : ℕ). bad_use_of limits rows (get_or segments k no_segment) u) (list_of_lem i u h p q)

    -- before the place found no use is bad
    pub none_before : (u : ℕ) → u < r → bad_use_at limits rows segments u ≡ false
    none_before u l =
        ⊎_elim (λ m. earlier u (lt_of_lt_of_le m (le_of_eq (lists.follows i h))))
        (λ m. sym (of_list u m (lt_of_lt_of_le l found.to)) ∙ found.passed u m l)
        (split u (first_of i))

    -- a bad use in the list is the first of all
    pub first_of_all : r < end_of i → r ≡ first_below (bad_use_at limits rows segments) uses
    first_of_all l =
        first_found (bad_use_at limits rows segments) uses r (lt_of_lt_of_le l (lists.inside i h)) none_before (sym (of_list r found.from l) ∙ found.found l)

    -- none in the list: none up to the list's end
    pub none_listed : end_of i ≤ r → (u : ℕ) → u < (row_before segments no_segment (i + 1)).end_use → bad_use_at limits rows segments u ≡ false
    none_listed l u m =
        none_before u (lt_of_lt_of_le (lt_of_lt_of_le m (le_of_eq (ap (λ (s : Segment). s.end_use) (sym (before_next segments no_segment i))))) l)

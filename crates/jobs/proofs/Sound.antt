-- What rows satisfy that a line has passed: each clause of the line as a fact, and the use lists that line 7 relies on
use mathlib.Core.Path.{◌≡◌, refl, sym, ◌∙◌, subst}
use mathlib.Core.Bool.{Bool, true, false, not, ◌&&◌, ◌||◌, true≢false}
use mathlib.Core.List.{List}
use Prim.Native.Nat.{ℕ, zero, suc, ◌+◌, ◌%◌, ◌≤◌, ◌<◌}
use native.Mathlib.Nat.{le_antisymm, le_refl, not-suc-le-zero}
use native.Mathlib.Numerals.{add-one}
use lib.Dec.{leb, ltb, eqb}
use lib.ListN.{length, get_or}
use borrow.Author.Tests.{ltb-false, leb-false, eqb-true, eqb-false, not-false, eq-eqb}
use Rattle.jobs.specs.declared.rows.Segment.{Segment}
use Rattle.jobs.specs.declared.rows.Limits.{Limits}
use Rattle.jobs.specs.Rows.{no_segment}
use Rattle.columns.specs.Table.{row_before}
use Rattle.jobs.specs.Lines.{bad_bounds, bad_list, bad_segment, Lists}

-- both parts of an "or" that fails
pub or_parts : (a b : Bool) → (a || b) ≡ false → (a ≡ false) × (b ≡ false)
or_parts true b e = absurd (true≢false e)
or_parts false b e = (refl, e)

-- line 5: bounds, value and flags of a segment after another
pub record Bounded (limits : Limits) (last s : Segment) : Type 0 where
  pub nonempty : s.start < s.end
  pub start_slot : s.start % 4 ≡ 3 → ⊥
  pub end_slot : s.end % 4 ≡ 3 → ⊥
  pub inside : s.end ≤ limits.end
  pub after : last.end ≤ s.start
  pub known : s.value < limits.values
  pub flagged : s.flags ≤ 15

pub bounded : (limits : Limits) (last s : Segment) → bad_bounds limits last s ≡ false → Bounded limits last s
unfolding bad_bounds
bounded limits last s e =
    let p6 = or_parts _ (ltb 15 s.flags) e in
    let p5 = or_parts _ (leb limits.values s.value) p6.0 in
    let p4 = or_parts _ (ltb s.start last.end) p5.0 in
    let p3 = or_parts _ (ltb limits.end s.end) p4.0 in
    let p2 = or_parts _ (eqb (s.end % 4) 3) p3.0 in
    let p1 = or_parts (leb s.end s.start) (eqb (s.start % 4) 3) p2.0 in
    record {
      nonempty = leb-false s.end s.start p1.0;
      start_slot = eqb-false (s.start % 4) 3 p1.1;
      end_slot = eqb-false (s.end % 4) 3 p2.1;
      inside = ltb-false limits.end s.end p3.1;
      after = ltb-false s.start last.end p4.1;
      known = leb-false limits.values s.value p5.1;
      flagged = ltb-false 15 s.flags p6.1;
    }

-- line 5: the use list of a segment after another
pub record Listed (limits : Limits) (last : Segment) (is_last : Bool) (s : Segment) : Type 0 where
  pub follows : s.first_use ≡ last.end_use
  pub forward : s.first_use ≤ s.end_use
  pub inside : s.end_use ≤ limits.uses
  pub all : is_last ≡ true → s.end_use ≡ limits.uses

pub listed : (limits : Limits) (last : Segment) (is_last : Bool) (s : Segment) → bad_list limits last is_last s ≡ false → Listed limits last is_last s
unfolding bad_list
listed limits last is_last s e =
    let p3 = or_parts _ (is_last && ltb s.end_use limits.uses) e in
    let p2 = or_parts _ (ltb limits.uses s.end_use) p3.0 in
    let p1 = or_parts (not (eqb s.first_use last.end_use)) (ltb s.end_use s.first_use) p2.0 in
    let within = ltb-false limits.uses s.end_use p2.1 in
    record {
      follows = eqb-true s.first_use last.end_use (not-false (eqb s.first_use last.end_use) p1.0);
      forward = ltb-false s.end_use s.first_use p1.1;
      inside = within;
      all = λ t. le_antisymm within (ltb-false s.end_use limits.uses (reached is_last (ltb s.end_use limits.uses) t p3.1));
    }
  where
    reached : (a b : Bool) → a ≡ true → (a && b) ≡ false → b ≡ false
    reached true b t e = e
    reached false b t e = absurd (true≢false (sym t))

-- line 5 of every segment
module _ (limits : Limits) (segments : List Segment) (passed : (i : ℕ) → i < length segments → bad_segment limits segments i ≡ false) where
  both : (i : ℕ) → i < length segments → (bad_bounds limits (row_before segments no_segment i) (get_or segments i no_segment) ≡ false)
      × (bad_list limits (row_before segments no_segment i) (eqb (i + 1) (length segments)) (get_or segments i no_segment) ≡ false)
  both i h =
      or_parts (bad_bounds limits (row_before segments no_segment i) (get_or segments i no_segment))
      (bad_list limits (row_before segments no_segment i) (eqb (i + 1) (length segments)) (get_or segments i no_segment)) (passed i h)

  pub segment_bounded : (i : ℕ) → i < length segments → Bounded limits (row_before segments no_segment i) (get_or segments i no_segment)
  segment_bounded i h = bounded limits (row_before segments no_segment i) (get_or segments i no_segment) (both i h).0

  pub segment_listed : (i : ℕ) → i < length segments → Listed limits (row_before segments no_segment i) (eqb (i + 1) (length segments))
      (get_or segments i no_segment)
  segment_listed i h = listed limits (row_before segments no_segment i) (eqb (i + 1) (length segments)) (get_or segments i no_segment) (both i h).1

  -- the use lists follow one another, as line 7 relies on
  pub segments_lists : 0 < length segments → Lists limits.uses segments
  segments_lists some =
      record {
        some = some;
        follows = λ i h. (segment_listed i h).follows;
        forward = λ i h. (segment_listed i h).forward;
        inside = λ i h. (segment_listed i h).inside;
        all = whole (length segments) some refl;
      }
    where
      whole : (n : ℕ) → 0 < n → n ≡ length segments → (row_before segments no_segment n).end_use ≡ limits.uses
      whole zero h e = absurd (not-suc-le-zero h)
      whole (suc i) h e = (segment_listed i (subst (λ (n : ℕ). i < n) e (le_refl (suc i)))).all (eq-eqb (i + 1) (length segments) (add-one i ∙ e))

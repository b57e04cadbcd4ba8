-- Where the counts fit, no use breaks line 7: positions fall within no list, and a list whose ends lie inside its segment lies inside
use mathlib.Core.Path.{◌≡◌, refl, sym, ap, ◌∙◌, subst}
use mathlib.Core.Logic.{⊎_elim}
use mathlib.Core.Bool.{Bool, true, false, not, ◌&&◌, ◌||◌, cond}
use mathlib.Core.List.{List}
use Prim.Native.Nat.{ℕ, zero, suc, ◌+◌, ◌-◌, ◌*◌, ◌≤◌, ◌<◌, zero-le}
use native.Mathlib.Nat.{le_refl, le_trans, le_of_eq, le_antisymm, lt_of_lt_of_le, lt_of_le_of_lt, not-suc-le-zero}
use native.Mathlib.Omega.{arith}
use lib.Dec.{leb, ltb, eqb}
use lib.ListN.{length, get_or}
use Rattle.columns.proofs.Tests.{and_parts}
use borrow.Author.Tests.{ltb-true, ltb-false, leb-false, eqb-true, eqb-false, lt-ltb, le-ltb, lt-leb}
use Rattle.columns.specs.First.{first_below}
use Rattle.columns.proofs.Firsts.{split, first_none}
use Rattle.jobs.specs.declared.rows.Segment.{Segment}
use Rattle.jobs.specs.declared.rows.Use.{Use}
use Rattle.jobs.specs.declared.rows.Limits.{Limits}
use Rattle.jobs.specs.Rows.{no_segment, no_use, fixed_def}
use Rattle.columns.specs.Table.{row_before}
use Rattle.columns.specs.Below.{count_below}
use Rattle.jobs.specs.Lines.{cost_most, lies_outside, bad_use, bad_use_of, bad_use_at, Lists}
use Rattle.use_checks.specs.AllUses.{bad_field, bad_field_at, falls_at, held_from, strays, strays_at, begins_lower, begins_lower_at, uses_fit}
use Rattle.jobs.proofs.Walk.{or_none}
use Rattle.jobs.proofs.Sound.{or_parts}
use Rattle.jobs.proofs.SoundUses.{Fitting, and_rest}
use Rattle.jobs.proofs.UseLists.{list_of_lem}
use Rattle.columns.proofs.Counting.{count_none, count_more, count_hit}

-- ---- numbers
next : (i : ℕ) → i ≤ suc i
next i = omega arith

earlier : (i n : ℕ) → suc i ≤ n → i ≤ n
earlier i n p = omega arith

-- a later number that is another is above
apart : (f u : ℕ) → f ≤ u → (u ≡ f → ⊥) → f < u
apart f u p n = ⊎_elim (λ m. m) (λ m. absurd (n (sym (le_antisymm p m)))) (split f u)

-- ---- tests
-- what a use satisfies that breaks no part of line 7
fits : (limits : Limits) (s : Segment) (isFirst : Bool) (last u : Use) → Fitting limits s isFirst last u → bad_use limits s isFirst last u ≡ false
unfolding bad_use
fits limits s isFirst last u f =
    or_none (or_none (or_none (or_none (le-ltb 9 u.kind f.kind) (le-ltb (cost_most u.kind) u.cost f.cost))
    (lt-leb limits.end (4 * u.position) f.blocked)) (rises isFirst f.rises)) (inside (isFirst && fixed_def s.flags) f.inside)
  where
    rises : (b : Bool) → (b ≡ false → last.position ≤ u.position) → (not b && ltb u.position last.position) ≡ false
    rises true h = refl
    rises false h = le-ltb u.position last.position (h refl)

    inside : (b : Bool) → (b ≡ false → (s.start < 4 * (u.position + 1)) × (4 * u.position ≤ s.end)) → (not b && lies_outside s u) ≡ false
    inside true h = refl
    inside false h = or_none (lt-leb (4 * (u.position + 1)) s.start (h refl).0) (le-ltb s.end (4 * u.position) (h refl).1)

module _ (limits : Limits) (uses : List Use) (segments : List Segment) (lists : Lists (length uses) segments) where
  abbrev row : ℕ → Segment
  row i = get_or segments i no_segment

  abbrev place : ℕ → ℕ
  place u = (get_or uses u no_use).position

  -- where the list before ended
  abbrev ended : ℕ → ℕ
  ended i = (row_before segments no_segment i).end_use

  -- how often positions fall before a use, and how many lists before one begin lower
  abbrev fallen : ℕ → ℕ
  fallen u = count_below (falls_at uses) u

  abbrev lower : ℕ → ℕ
  lower i = count_below (begins_lower_at uses segments) i

  -- ---- falls
  -- what stands over at a list stands over behind it
  carried_by : (i d : ℕ) (b : Bool) → begins_lower uses (row i) ≡ b → i < length segments → lower i + d ≤ fallen (ended i)
      → lower i + cond b 1 0 + d ≤ fallen (row i).end_use
  unfolding begins_lower
  carried_by i d true e h k =
      let p = and_parts (ltb (row i).first_use (row i).end_use) (falls_at uses (row i).first_use) e in
      more (lower i) d (fallen (ended i)) (fallen (row i).first_use) (fallen (row i).end_use) k (ap fallen (lists.follows i h))
      (count_hit (falls_at uses) (row i).first_use (row i).first_use (row i).end_use (le_refl (row i).first_use)
      (ltb-true (row i).first_use (row i).end_use p.0) p.1)
    where
      more : (a d x y z : ℕ) → a + d ≤ x → y ≡ x → y + 1 ≤ z → a + 1 + d ≤ z
      more a d x y z p e q = omega arith
  carried_by i d false e h k =
      same (lower i) d (fallen (ended i)) (fallen (row i).first_use) (fallen (row i).end_use) k (ap fallen (lists.follows i h))
      (count_more (falls_at uses) (row i).first_use (row i).end_use (lists.forward i h))
    where
      same : (a d x y z : ℕ) → a + d ≤ x → y ≡ x → y ≤ z → a + 0 + d ≤ z
      same a d x y z p e q = omega arith

  carried : (i d : ℕ) → i < length segments → lower i + d ≤ fallen (ended i) → lower (suc i) + d ≤ fallen (ended (suc i))
  unfolding count_below
  carried i d h k = carried_by i d (begins_lower uses (row i)) refl h k

  -- behind the last list all falls are counted
  carried_on : (m i d : ℕ) → m + i ≡ length segments → lower i + d ≤ fallen (ended i) → lower (length segments) + d ≤ fallen (length uses)
  carried_on zero i d e k = le_trans (subst (λ (j : ℕ). lower j + d ≤ fallen (ended j)) (none i (length segments) e) k) (le_of_eq (ap fallen lists.all))
    where
      none : (i n : ℕ) → 0 + i ≡ n → i ≡ n
      none i n p = omega arith
  carried_on (suc m) i d e k = carried_on m (suc i) d (moved m i (length segments) e) (carried i d (inside m i (length segments) e) k)
    where
      moved : (m i n : ℕ) → suc m + i ≡ n → m + suc i ≡ n
      moved m i n p = omega arith

      inside : (m i n : ℕ) → suc m + i ≡ n → i < n
      inside m i n p = omega arith

  begun : (i : ℕ) → i ≤ length segments → lower i + 0 ≤ fallen (ended i)
  unfolding count_below
  begun zero h = zero-le
  begun (suc i) h = carried i 0 h (begun i (earlier i (length segments) h))

  -- a fall within a list stands over behind it
  over_by : (i u : ℕ) (b : Bool) → begins_lower uses (row i) ≡ b → i < length segments → (row i).first_use < u → u < (row i).end_use → falls_at uses u ≡ true
      → lower i + cond b 1 0 + 1 ≤ fallen (row i).end_use
  unfolding begins_lower
  over_by i u true e h p q t =
      let f = (row i).first_use in
      let c = and_parts (ltb f (row i).end_use) (falls_at uses f) e in
      two (lower i) (fallen (ended i)) (fallen f) (fallen (suc f)) (fallen (row i).end_use) (begun i (le_trans (next i) h)) (ap fallen (lists.follows i h))
      (count_hit (falls_at uses) f f (suc f) (le_refl f) (le_refl (suc f)) c.1) (count_hit (falls_at uses) (suc f) u (row i).end_use p q t)
    where
      two : (a x y z w : ℕ) → a + 0 ≤ x → y ≡ x → y + 1 ≤ z → z + 1 ≤ w → a + 1 + 1 ≤ w
      two a x y z w p e q r = omega arith
  over_by i u false e h p q t =
      let f = (row i).first_use in
      one (lower i) (fallen (ended i)) (fallen f) (fallen (row i).end_use) (begun i (le_trans (next i) h)) (ap fallen (lists.follows i h))
      (count_hit (falls_at uses) f u (row i).end_use (le_trans (next f) p) q t)
    where
      one : (a x y z : ℕ) → a + 0 ≤ x → y ≡ x → y + 1 ≤ z → a + 0 + 1 ≤ z
      one a x y z p e q = omega arith

  fall_over : (i u : ℕ) → i < length segments → (row i).first_use < u → u < (row i).end_use → falls_at uses u ≡ true
      → lower (suc i) + 1 ≤ fallen (ended (suc i))
  unfolding count_below
  fall_over i u h p q t = over_by i u (begins_lower uses (row i)) refl h p q t

  module _ (same : lower (length segments) ≡ fallen (length uses)) where
    -- so positions fall within no list
    no_fall : (i u : ℕ) → i < length segments → (row i).first_use < u → u < (row i).end_use → falls_at uses u ≡ false
    no_fall i u h p q = never (falls_at uses u) refl
      where
        too_many : (a b : ℕ) → a ≡ b → a + 1 ≤ b → ⊥
        too_many a b e l = omega arith

        rest : (i n : ℕ) → suc i ≤ n → n - suc i + suc i ≡ n
        rest i n l = omega arith

        never : (b : Bool) → falls_at uses u ≡ b → b ≡ false
        never true t =
            absurd (too_many (lower (length segments)) (fallen (length uses)) same
            (carried_on (length segments - suc i) (suc i) 1 (rest i (length segments) h) (fall_over i u h p q t)))
        never false t = refl

    rising : (i v u : ℕ) → i < length segments → (row i).first_use ≤ v → v ≤ u → u < (row i).end_use → place v ≤ place u
    rising i v zero h f p q = le_of_eq (ap place (none v p))
      where
        none : (v : ℕ) → v ≤ 0 → v ≡ 0
        none v p = omega arith
    rising i v (suc u) h f p q =
        ⊎_elim
        (λ m. le_trans (rising i v u h f (inner v u m) (before u (row i).end_use q))
        (ltb-false (place (suc u)) (place u) (no_fall i (suc u) h (later (row i).first_use v u f m) q)))
        (λ m. le_of_eq (ap place (only v u p m))) (split v (suc u))
      where
        inner : (v u : ℕ) → v < suc u → v ≤ u
        inner v u m = omega arith

        before : (u e : ℕ) → suc u < e → u < e
        before u e m = omega arith

        later : (f v u : ℕ) → f ≤ v → v < suc u → f < suc u
        later f v u p m = omega arith

        only : (v u : ℕ) → v ≤ suc u → suc u ≤ v → v ≡ suc u
        only v u p m = omega arith

    -- ---- a list whose ends lie inside
    module _ (i u : ℕ) (h : i < length segments) (first : (row i).first_use ≤ u) (end : u < (row i).end_use) (sound : bad_field (get_or uses u no_use) ≡ false)
        (held : strays limits uses (row i) ≡ false) where
      abbrev s : Segment
      s = row i

      abbrev last : ℕ
      last = s.end_use - 1

      -- the use is no later than the list's last
      last_later : place u ≤ place last
      last_later = rising i u last h first (upto u s.end_use end) (inner u s.end_use end)
        where
          upto : (u e : ℕ) → u < e → u ≤ e - 1
          upto u e p = omega arith

          inner : (u e : ℕ) → u < e → e - 1 < e
          inner u e p = omega arith

      parts : (leb limits.end (4 * place last) ≡ false)
          × ((ltb (held_from s) s.end_use && (lies_outside s (get_or uses (held_from s) no_use) || lies_outside s (get_or uses last no_use))) ≡ false)
      unfolding strays
      parts = or_parts _ _ (and_rest (ltb s.first_use s.end_use) _ (lt-ltb _ _ (lt_of_le_of_lt first end)) held)

      -- where the use has to lie inside, the list's first such one is no later
      held_before : (b : Bool) → (eqb u s.first_use && b) ≡ false → s.first_use + cond b 1 0 ≤ u
      held_before true e = above s.first_use u (apart s.first_use u first (eqb-false u s.first_use (fails (eqb u s.first_use) e)))
        where
          fails : (a : Bool) → (a && true) ≡ false → a ≡ false
          fails true e = e
          fails false e = refl

          above : (f u : ℕ) → f < u → f + 1 ≤ u
          above f u p = omega arith
      held_before false e = plain s.first_use u first
        where
          plain : (f u : ℕ) → f ≤ u → f + 0 ≤ u
          plain f u p = omega arith

      inside : (eqb u s.first_use && fixed_def s.flags) ≡ false → (s.start < 4 * (place u + 1)) × (4 * place u ≤ s.end)
      inside e =
          let b = held_before (fixed_def s.flags) e in
          let o = or_parts (lies_outside s (get_or uses (held_from s) no_use)) (lies_outside s (get_or uses last no_use))
          (and_rest (ltb (held_from s) s.end_use) _ (lt-ltb _ _ (lt_of_le_of_lt b end)) parts.1) in
          let low = or_parts (leb (4 * (place (held_from s) + 1)) s.start) (ltb s.end (4 * place (held_from s))) o.0 in
          let high = or_parts (leb (4 * (place last + 1)) s.start) (ltb s.end (4 * place last)) o.1 in (
            above s.start (place (held_from s)) (place u) (leb-false _ _ low.0)
                (rising i (held_from s) u h (grown s.first_use (cond (fixed_def s.flags) 1 0)) b end),
            below s.end (place u) (place last) last_later (ltb-false _ _ high.1),
          )
        where
          grown : (f d : ℕ) → f ≤ f + d
          grown f d = omega arith

          above : (a p q : ℕ) → a < 4 * (p + 1) → p ≤ q → a < 4 * (q + 1)
          above a p q x y = omega arith

          below : (e p q : ℕ) → p ≤ q → 4 * q ≤ e → 4 * p ≤ e
          below e p q x y = omega arith

      fitting : Fitting limits s (eqb u s.first_use) (row_before uses no_use u) (get_or uses u no_use)
      unfolding bad_field
      fitting =
          let f = or_parts (ltb 9 (get_or uses u no_use).kind) (ltb (cost_most (get_or uses u no_use).kind) (get_or uses u no_use).cost) sound in
          record {
            kind = ltb-false _ _ f.0;
            cost = ltb-false _ _ f.1;
            blocked = below limits.end (place u) (place last) last_later (leb-false _ _ parts.0);
            rises =
                λ e. ltb-false (place u) (row_before uses no_use u).position
                (no_fall i u h (apart s.first_use u first (eqb-false u s.first_use e)) end);
            inside = inside;
          }
        where
          below : (e p q : ℕ) → p ≤ q → 4 * q < e → 4 * p < e
          below e p q x y = omega arith

      listed_sound : bad_use_of limits uses s u ≡ false
      listed_sound = fits limits s (eqb u s.first_use) (row_before uses no_use u) (get_or uses u no_use) fitting

    -- ---- all lists
    module _ (sound : (u : ℕ) → u < length uses → bad_field (get_or uses u no_use) ≡ false)
        (held : (i : ℕ) → i < length segments → strays limits uses (row i) ≡ false) where
      sound_upto : (i : ℕ) → i ≤ length segments → (u : ℕ) → u < ended i → bad_use_at limits uses segments u ≡ false
      sound_upto zero h u l = absurd (not-suc-le-zero l)
      sound_upto (suc i) h u l =
          ⊎_elim
          (λ m. sound_upto i (earlier i (length segments) h) u m)
          (λ m. let f = le_trans (le_of_eq (lists.follows i h)) m in sym
          (ap (λ (k : ℕ). bad_use_of limits uses (get_or segments k no_segment) u) (list_of_lem (length uses) segments lists i u h f l))
          ∙ listed_sound i u h f l (sound u (lt_of_lt_of_le l (lists.inside i h))) (held i h))
          (split u (ended i))

  -- where the counts fit no use is bad
  pub all_fit : uses_fit limits uses segments ≡ true → length uses ≡ first_below (bad_use_at limits uses segments) (length uses)
  unfolding uses_fit
  all_fit e =
      let p = and_parts (eqb (count_below (bad_field_at uses) (length uses)) 0 && eqb (count_below (strays_at limits uses segments) (length segments)) 0)
      (eqb (lower (length segments)) (fallen (length uses))) e in
      let q = and_parts (eqb (count_below (bad_field_at uses) (length uses)) 0) (eqb (count_below (strays_at limits uses segments) (length segments)) 0) p.0 in
      first_none (bad_use_at limits uses segments) (length uses)
      (λ u h. sound_upto (eqb-true _ _ p.1) (count_none (bad_field_at uses) (length uses) (eqb-true _ _ q.0))
      (count_none (strays_at limits uses segments) (length segments) (eqb-true _ _ q.1)) (length segments) (le_refl (length segments)) u
      (lt_of_lt_of_le h (le_of_eq (sym lists.all))))

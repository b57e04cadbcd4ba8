-- Segments that pass the gaps: the rows of the live column are set gap by gap, and the rest of it is lent on
use mathlib.Core.Path.{◌≡◌, refl, sym, ap, ap₂, ◌∙◌, subst}
use Prim.Native.Nat.{ℕ, zero, suc, ◌+◌, ◌-◌, ◌*◌, ◌≤◌, ◌<◌, zero-le, max}
use native.Mathlib.Nat.{le_refl, le_trans, le_of_eq, lt_of_lt_of_le, not-suc-le-zero}
use native.Mathlib.Omega.{arith}
use mathlib.Core.List.{List, ◌++◌}
use mathlib.Core.Logic.{⊎_elim}
use lib.ListN.{length, get_or, set, take, drop, length-set, length-append, length-drop, get_or-append, get_or-eq_default}
use lib.Seq.{get_or-set_same, get_or-set_other, get_or-take, get_or-drop, get_or-append-add, length-take-le, take_all}
use borrow.Rule.Slice.PartMut.{same_len_mid}
use Rattle.numbers.specs.Point.{inst_of, round_up}
use Rattle.columns.specs.Table.{filled, row_before}
use Rattle.columns.specs.Below.{sum_below}
use Rattle.columns.proofs.Firsts.{split}
use Rattle.columns.proofs.Tables.{filled_is}
use Rattle.jobs.proofs.Walk.{before_next}
use Rattle.overlaps.specs.Live.{live_from, live_to, live_of, Segments, live_added, live_in_gap, live_column, Gaps}
use Rattle.overlaps.specs.GapSegments.{EndedBy}
use Rattle.overlaps.proofs.LiveLaws.{sum_next, sum_at_most, last_of, live_order, live_inside, live_before}
use Rattle.overlaps.proofs.LiveLaws.{overlap_few, none_before, none_there}
use Rattle.overlaps.proofs.GapRows.{behind_later}
use Rattle.overlaps.specs.Passing.{passing_segment, Passing, live_in, held_at, RowsSet, CountedIn}
use Rattle.overlaps.specs.declared.passing.PassingSegment.{PassingSegment}

-- ---- rows set one after the other
module _ (row : ℕ → ℕ) (lent : List ℕ) where
  pub set_none : RowsSet row 0 lent lent
  set_none = record { long = refl; rows = λ k h. absurd (not-suc-le-zero h); others = λ k h. refl }

  pub set_next : (n : ℕ) (now : List ℕ) (x : ℕ) → RowsSet row n lent now → n < length lent → x ≡ row n → RowsSet row (n + 1) lent (set now n x)
  set_next n now x w h e =
      record {
        long = length-set now n x ∙ w.long;
        rows = λ k l. ⊎_elim (λ m. get_or-set_other now n k x 0 (λ q. absurd (omega (arith, q, m))) ∙ w.rows k m)
            (λ m. let q : k ≡ n = omega (arith, l, m) in
            ap (λ (i : ℕ). get_or (set now n x) i 0) q ∙ get_or-set_same now n x 0 (lt_of_lt_of_le h (le_of_eq (sym w.long))) ∙ e ∙ ap row (sym q))
            (split k n);
        others = λ k l. get_or-set_other now n k x 0 (λ q. absurd (omega (arith, q, l))) ∙ w.others k (omega (arith, l));
      }

-- what is held is all that is counted of any gap before the segment comes
pub held_few : (held k : ℕ) → held_at held k ≤ held
held_few held zero = le_refl held
held_few held (suc k) = zero-le

-- ---- a segment in the gaps, from one on
module _ (froms tos : List ℕ) (s : PassingSegment) (gap held : ℕ) (lent : List ℕ) where
  abbrev row : ℕ → ℕ
  row k = held_at held k + live_in s froms tos (gap + k)

  -- it has come to gap g: the gaps before have their rows, and h is counted of this one without it
  pub record Come (now : List ℕ) (g h : ℕ) : Type 0 where
    pub on : gap ≤ g
    pub passed : RowsSet row (g - gap) lent now
    pub holds : h ≡ held_at held (g - gap)

  pub come_first : Come lent gap held
  come_first =
      let z : 0 ≡ gap - gap = omega arith in
      record { on = le_refl gap; passed = subst (λ (n : ℕ). RowsSet row n lent lent) z (set_none row lent); holds = ap (held_at held) z }

  module _ (now : List ℕ) (g h : ℕ) (w : Come now g h) where
    here : gap + (g - gap) ≡ g
    here = let o = w.on in omega (arith, o)

    -- and goes on to the next
    pub come_next : (x : ℕ) → g < gap + length lent → x ≡ h + live_in s froms tos g → Come (set now (g - gap) x) (g + 1) 0
    come_next x l e =
        let o = w.on in
        let n : g + 1 - gap ≡ g - gap + 1 = omega (arith, o) in
        let m : g + 1 - gap ≡ suc (g - gap) = omega (arith, o) in
        record {
          on = omega (arith, o);
          passed = subst (λ (n : ℕ). RowsSet row n lent (set now (g - gap) x)) (sym n)
              (set_next row lent (g - gap) now x w.passed (omega (arith, o, l))
              (e ∙ ap₂ (λ (a b : ℕ). a + live_in s froms tos b) w.holds (sym here)));
          holds = ap (held_at held) (sym m);
        }

    -- or ends in this one
    pub come_ends : (x : ℕ) → x ≡ h + live_in s froms tos g → ((k : ℕ) → g < k → live_in s froms tos k ≡ 0) → CountedIn froms tos s gap held lent now g x
    come_ends x e none =
        record { on = w.on; passed = w.passed; holds = e ∙ ap (λ (a : ℕ). a + live_in s froms tos g) w.holds; none = none }

    -- or there is none left
    pub come_through : Gaps froms tos → length froms ≤ g → CountedIn froms tos s gap held lent now g h
    come_through gaps l =
        let none = none_there froms tos gaps s.live_from.0 s.live_to.0 in
        come_ends h (let z = none g l in omega (arith, z)) (λ k m. none k (omega (arith, l, m)))

-- the rest of a column, as it is lent on, and the column when the rest is back
abbrev pub rest : ℕ → List ℕ → List ℕ
rest at xs = take (length xs - at) (drop at xs)

abbrev pub back : ℕ → List ℕ → List ℕ → List ℕ
back at xs ys = take at xs ++ (ys ++ drop (length xs - at) (drop at xs))

rest_is : (at : ℕ) (xs : List ℕ) → rest at xs ≡ drop at xs
rest_is at xs = take_all (length xs - at) (drop at xs) (le_of_eq (length-drop at xs))

rest_long : (at : ℕ) (xs : List ℕ) → length (rest at xs) ≡ length xs - at
rest_long at xs = ap length (rest_is at xs) ∙ length-drop at xs

rest_at : (at : ℕ) (xs : List ℕ) (k : ℕ) → get_or (rest at xs) k 0 ≡ get_or xs (at + k) 0
rest_at at xs k = ap (λ (l : List ℕ). get_or l k 0) (rest_is at xs) ∙ get_or-drop at xs k 0

module _ (at : ℕ) (xs ys : List ℕ) (inside : at ≤ length xs) (same : length ys ≡ length (rest at xs)) where
  pub back_long : length (back at xs ys) ≡ length xs
  back_long = same_len_mid at (length xs - at) xs ys same

  front : length (take at xs) ≡ at
  front = length-take-le at xs inside

  back_before : (g : ℕ) → g < at → get_or (back at xs ys) g 0 ≡ get_or xs g 0
  back_before g h =
      get_or-append (take at xs) (ys ++ drop (length xs - at) (drop at xs)) 0 g (lt_of_lt_of_le h (le_of_eq (sym front))) ∙ get_or-take at xs g 0 h

  -- nothing is left behind the rest
  back_from : (k : ℕ) → get_or (back at xs ys) (at + k) 0 ≡ get_or ys k 0
  back_from k =
      ap (λ (n : ℕ). get_or (back at xs ys) (n + k) 0) (sym front) ∙ get_or-append-add (take at xs) (ys ++ drop (length xs - at) (drop at xs)) k 0
      ∙ ⊎_elim (λ h. get_or-append ys (drop (length xs - at) (drop at xs)) 0 k h)
      (λ h.
      let long = back_long in
      let a = front in
      let b = same ∙ rest_long at xs in
      let c = length-append (take at xs) (ys ++ drop (length xs - at) (drop at xs)) in
      get_or-eq_default (ys ++ drop (length xs - at) (drop at xs)) 0 (omega (arith, long, a, b, c, h, inside)) ∙ sym (get_or-eq_default ys 0 h))
      (split k (length ys))

-- ---- after i segments: the gaps before `at` have their rows, of that one its count is held, and no later one has any
pub record Sofar (starts ends froms tos lent now : List ℕ) (at held i : ℕ) : Type 0 where
  pub passed : RowsSet (λ (g : ℕ). sum_below (live_added starts ends (get_or froms g 0) (get_or tos g 0)) i) at lent now
  pub holds : held ≡ sum_below (live_added starts ends (get_or froms at 0) (get_or tos at 0)) i
  pub none : (g : ℕ) → at < g → sum_below (live_added starts ends (get_or froms g 0) (get_or tos g 0)) i ≡ 0
  pub ended : EndedBy froms tos (row_before ends 0 i) at

pub sofar_none : (starts ends froms tos lent : List ℕ) → Sofar starts ends froms tos lent lent 0 0 0
unfolding sum_below
sofar_none starts ends froms tos lent =
    record { passed = set_none _ lent; holds = refl; none = λ g h. refl; ended = record { inside = zero-le; ended = λ k h. absurd (not-suc-le-zero h) } }

module _ (starts ends values froms tos lent now : List ℕ) (at held i : ℕ) (segments : Segments starts ends) (gaps : Gaps froms tos)
    (room : length froms ≤ length lent) (w : Sofar starts ends froms tos lent now at held i) where
  abbrev adds : ℕ → ℕ → ℕ
  adds g = live_added starts ends (get_or froms g 0) (get_or tos g 0)

  pub sofar_room : at ≤ length now
  sofar_room = let a = w.ended.inside in let c = w.passed.long in omega (arith, a, c, room)

  pub rest_room : length froms ≤ at + length (rest at now)
  rest_room = let r = rest_long at now in let c = w.passed.long in omega (arith, r, c, room)

  -- a row of the rest is one of the column, when it is lent on and when it is back
  rest_of : (g : ℕ) → at ≤ g → get_or (rest at now) (g - at) 0 ≡ get_or now g 0
  rest_of g l = let e : at + (g - at) ≡ g = omega (arith, l) in rest_at at now (g - at) ∙ ap (λ (k : ℕ). get_or now k 0) e

  back_at : (after : List ℕ) → length after ≡ length (rest at now) → (g : ℕ) → at ≤ g → get_or (back at now after) g 0 ≡ get_or after (g - at) 0
  back_at after long g l =
      let e : at + (g - at) ≡ g = omega (arith, l) in
      ap (λ (k : ℕ). get_or (back at now after) k 0) (sym e) ∙ back_from at now after sofar_room long (g - at)

  -- what is counted of a gap from `at` on before the next segment comes
  held_is : (k : ℕ) → held_at held k ≡ sum_below (adds (at + k)) i
  held_is zero = let z : at ≡ at + 0 = omega arith in w.holds ∙ ap (λ (g : ℕ). sum_below (adds g) i) z
  held_is (suc k) = sym (w.none (at + suc k) (omega arith))

  held_at_lem : (g : ℕ) → at ≤ g → held_at held (g - at) ≡ sum_below (adds g) i
  held_at_lem g l = let e : at + (g - at) ≡ g = omega (arith, l) in held_is (g - at) ∙ ap (λ (k : ℕ). sum_below (adds k) i) e

  module _ (h : i < length starts) where
    abbrev s : PassingSegment
    s = passing_segment starts ends values i (last_of ends i)

    from_last : last_of ends i ≤ live_from starts ends i
    from_last = later (last_of ends i) (inst_of (get_or starts i 0))
      where
        later : (x y : ℕ) → x ≤ max x y
        later x y = omega arith

    -- the next segment comes to that gap
    pub comes : Passing froms tos (passing_segment starts ends values i (last_of ends i)) at held
    comes =
        record {
          nonempty = segments.nonempty i h;
          order = live_order starts ends segments i h;
          end = refl;
          inside = live_inside starts ends segments i h;
          ended = behind_later froms tos (row_before ends 0 i) (get_or starts i 0) at (segments.after i h) w.ended;
          before =
              let a = w.holds in
              let m = sum_at_most (adds at) (live_of starts ends) i
              (λ j _. overlap_few (live_from starts ends j) (live_to ends j) (get_or froms at 0) (get_or tos at 0)) in
              let b = live_before starts ends segments i (omega (arith, h)) in
              let f = from_last in
              omega (arith, a, m, b, f);
        }

    -- and is counted in all gaps as it is in the rest of them
    module _ (at' held' : ℕ) (after : List ℕ) (c : CountedIn froms tos (passing_segment starts ends values i (last_of ends i))
        at held (rest at now) after at' held')
        (ended : EndedBy froms tos (get_or ends i 0) at') where
      next_sum : (g : ℕ) → sum_below (adds g) (i + 1) ≡ sum_below (adds g) i + live_in s froms tos g
      next_sum g = sum_next (adds g) i

      row_at : (g : ℕ) → g < at' → get_or (back at now after) g 0 ≡ sum_below (adds g) (i + 1)
      row_at g l =
          ⊎_elim
          (λ m.
          let x = back_before at now after sofar_room c.passed.long g m in
          let y = w.passed.rows g m in
          let z = next_sum g in
          let p = w.ended.ended g m in
          let f = from_last in
          let t = none_before (live_from starts ends i) (live_to ends i) (get_or froms g 0) (get_or tos g 0)
          (le_trans (rounded (get_or tos g 0) (row_before ends 0 i) p) f) in
          omega (arith, x, y, z, t))
          (λ m.
          let e : at + (g - at) ≡ g = omega (arith, m) in
          back_at after c.passed.long g m ∙ c.passed.rows (g - at) (omega (arith, l, m))
          ∙ ap₂ (λ (a b : ℕ). a + live_in s froms tos b) (held_at_lem g m) e ∙ sym (next_sum g))
          (split g at)
        where
          rounded : (t p : ℕ) → 4 * t ≤ p → t ≤ round_up p
          rounded t p h = omega (arith, h)

      pub sofar_next : Sofar starts ends froms tos lent (back at now after) at' held' (i + 1)
      sofar_next =
          let o = c.on in
          record {
            passed =
                record {
                  long = back_long at now after sofar_room c.passed.long ∙ w.passed.long;
                  rows = row_at;
                  others = λ g l. back_at after c.passed.long g (le_trans o l) ∙ c.passed.others (g - at) (omega (arith, l, o))
                      ∙ rest_of g (le_trans o l) ∙ w.passed.others g (le_trans o l);
                };
            holds = c.holds ∙ ap (λ (a : ℕ). a + live_in s froms tos at') (held_at_lem at' o) ∙ sym (next_sum at');
            none = λ g l. let a = w.none g (omega (arith, l, o)) in let b = c.none g l in let z = next_sum g in omega (arith, a, b, z);
            ended = behind_later froms tos (get_or ends i 0) (row_before ends 0 (i + 1)) at' (le_of_eq (before_next ends 0 i)) ended;
          }

  -- after all segments and with the rest set, the column holds the live instructions of each gap
  pub sofar_all : i ≡ length starts → (after : List ℕ) → RowsSet (held_at held) (length froms - at) (rest at now) after
      → back at now after ≡ filled (live_column starts ends froms tos) lent
  sofar_all e after r =
      filled_is (λ (g : ℕ). live_in_gap starts ends (get_or froms g 0) (get_or tos g 0)) (length froms) lent (back at now after) 0 room
      (back_long at now after sofar_room r.long ∙ w.passed.long)
      (λ g h. ⊎_elim
      (λ m. back_before at now after sofar_room r.long g m ∙ w.passed.rows g m ∙ whole g)
      (λ m. back_at after r.long g m ∙ r.rows (g - at) (omega (arith, h, m)) ∙ held_at_lem g m ∙ whole g)
      (split g at))
      (λ g h.
      let a = w.ended.inside in
      let m : at ≤ g = omega (arith, a, h) in
      back_at after r.long g m ∙ r.others (g - at) (omega (arith, h, a)) ∙ rest_of g m ∙ w.passed.others g m)
    where
      whole : (g : ℕ) → sum_below (adds g) i ≡ sum_below (adds g) (length starts)
      whole g = ap (sum_below (adds g)) e

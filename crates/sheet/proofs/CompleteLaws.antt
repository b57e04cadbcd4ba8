-- The text of every sheet within the limits is sound, and the sheet that it holds is that sheet.
-- Assumes nothing.
use Prim.Native.Nat.{ℕ, zero, suc, ◌+◌, ◌-◌, ◌≤◌, ◌<◌}
use mathlib.Core.Path.{◌≡◌, refl, sym, ap, ◌∙◌, subst}
use mathlib.Core.Bool.{Bool, true, false}
use mathlib.Core.List.{List, [], ◌∷◌, ◌++◌, append_assoc, append-nil, map}
use native.Mathlib.Omega.{arith}
use native.Mathlib.Decide.{ℕ_discrete}
use lib.ListN.{length, length-append}
use borrow.Author.Tests.{eq-eqb, ne_eqb, le-leb}
use Rattle.sheet.specs.Kinds.{pick, kinds, limit, once, needed}
use Rattle.sheet.specs.Sheet.{line, lines_text, Sheet, text_from, render, IsRow, AreRows, IsSheet, Within}
use Rattle.sheet.specs.Refusal.{lines_of, is_line, kind_of_line, latest, of_kind, open_kind, none_needed, is_in_order, is_complete, verdict_below, verdict}
use Rattle.sheet.specs.Refusal.{row_of, sheet_of}
use Rattle.std.specs.Prelude.{Ok}
use Rattle.sheet.proofs.KindLaws.{not_needed}
use Rattle.sheet.proofs.LineLaws.{line_kind, line_row, is_line_lem, line_lines}
use Rattle.sheet.proofs.CheckLaws.{false_if, kind_more, kind_other, open_of, open_more, verdict_lines}
use Rattle.sheet.proofs.SoundLaws.{Passes, Whole, pass_sound}

-- the lines of n kinds from k on
line_list : Sheet → ℕ → ℕ → List (List ℕ)
line_list s k zero = []
line_list s k (suc n) = map (line k) (s k) ++ line_list s (suc k) n

lines_rows : (rows : List (List ℕ)) (k : ℕ) (r : List ℕ) → k < kinds → lines_of (lines_text k rows ++ r) ≡ map (line k) rows ++ lines_of r
unfolding lines_text
lines_rows [] k r h = refl
lines_rows (row ∷ rows) k r h =
    ap lines_of (append_assoc (line k row) (lines_text k rows) r)
    ∙ line_lines k row (lines_text k rows ++ r) h
    ∙ ap (λ (t : List (List ℕ)). line k row ∷ t) (lines_rows rows k r h)

lines_text_lem : (s : Sheet) (k n : ℕ) → k + n ≤ kinds → lines_of (text_from s k n) ≡ line_list s k n
unfolding text_from line_list lines_of
lines_text_lem s k zero h = refl
lines_text_lem s k (suc n) h =
    lines_rows (s k) k (text_from s (suc k) n) (omega arith)
    ∙ ap (λ (t : List (List ℕ)). map (line k) (s k) ++ t) (lines_text_lem s (suc k) n (omega arith))

-- one kind more that is not needed
none_snoc : (n a : ℕ) → none_needed a n ≡ true → needed (a + n) ≡ false → none_needed a (suc n) ≡ true
unfolding none_needed
none_snoc zero a e d = let z : a + zero ≡ a = omega arith in rw (ap needed (sym z) ∙ d)
none_snoc (suc n) a e d =
    by (needed a) e (λ r. none_snoc n (suc a) r (let z : suc a + n ≡ a + suc n = omega arith in ap needed z ∙ d))
  where
    by : (b : Bool) → pick b false (none_needed (suc a) n) ≡ true → (none_needed (suc a) n ≡ true → none_needed (suc a) (suc n) ≡ true)
        → pick b false (none_needed (suc a) (suc n)) ≡ true
    by true q later = q
    by false q later = later q

none_to : (a k : ℕ) → a ≤ k → none_needed a (k - a) ≡ true → needed k ≡ false → none_needed a (suc k - a) ≡ true
none_to a k h e d =
    let z : a + (k - a) ≡ k = omega arith in
    let y : suc (k - a) ≡ suc k - a = omega arith in
    subst (λ (n : ℕ). none_needed a n ≡ true) y (none_snoc (k - a) a e (ap needed z ∙ d))

in_order : (above : List (List ℕ)) (k : ℕ) → open_of above ≤ k → none_needed (open_of above) (k - open_of above) ≡ true
    → is_in_order (length above) (latest above) k ≡ true
unfolding is_in_order
in_order above k h e = rw (le-leb (open_of above) k h) e

-- what is known before the rows of kind k come
record Ready (above : List (List ℕ)) (k : ℕ) : Type 0 where
  low : open_of above ≤ k
  none : none_needed (open_of above) (k - open_of above) ≡ true
  fresh : (j : ℕ) → k ≤ j → of_kind j above ≡ []

-- and where one stands, and n more come
record Midst (above : List (List ℕ)) (k n : ℕ) : Type 0 where
  opens : open_of above ≡ pick (once k) (suc k) k
  room : length (of_kind k above) + n ≤ limit k
  last : once k ≡ true → n ≡ 0
  fresh : (j : ℕ) → k < j → of_kind j above ≡ []

module _ (k : ℕ) (kind : k < kinds) where
  -- a line of kind k that is in order, where there is room for it and for n more
  one_more : (above : List (List ℕ)) (row : List ℕ) (n : ℕ) → IsRow k row → is_in_order (length above) (latest above) k ≡ true
      → length (of_kind k above) + suc n ≤ limit k → (once k ≡ true → n ≡ 0) → ((j : ℕ) → k < j → of_kind j above ≡ [])
      → Passes above (line k row) × Midst (above ++ (line k row ∷ [])) k n
  one_more above row n r order room last fresh =
      let e : kind_of_line (line k row) ≡ k = line_kind k row kind r in
      let o : is_in_order (length above) (latest above) (kind_of_line (line k row)) ≡ true =
      subst (λ (j : ℕ). is_in_order (length above) (latest above) j ≡ true) (sym e) order in
      let m : length (of_kind k (above ++ (line k row ∷ []))) ≡ length (of_kind k above) + 1 = ap length (kind_more above (line k row) k e)
      ∙ simp length-append in (
        record {
          good = subst (λ (j : ℕ). is_line j (line k row) ≡ true) (sym e) (is_line_lem k row kind r);
          order = o;
          room = subst (λ (j : ℕ). length (of_kind j above) < limit j) (sym e) (omega arith);
        },
        record {
          opens = open_more above (line k row) o ∙ ap (λ (j : ℕ). pick (once j) (suc j) j) e;
          room = omega arith;
          last = last;
          fresh = λ j h. kind_other above (line k row) j (λ q. omega (arith, e)) ∙ fresh j h;
        },
      )

  -- the rows behind the first
  more_in_order : (above : List (List ℕ)) (n : ℕ) → Midst above k (suc n) → is_in_order (length above) (latest above) k ≡ true
  unfolding none_needed
  more_in_order above n b = by (once k) refl
    where
      by : (x : Bool) → once k ≡ x → is_in_order (length above) (latest above) k ≡ true
      by true e = absurd (omega (arith, b.last e))
      by false e =
          let o : open_of above ≡ k = b.opens ∙ ap (λ (x : Bool). pick x (suc k) k) e in
          let z : k - open_of above ≡ 0 = omega arith in
          in_order above k (omega arith) (rw z)

  pass_rows : (rows above rest : List (List ℕ)) → AreRows k rows → Midst above k (length rows)
      → (Midst (above ++ map (line k) rows) k 0 → Whole (above ++ map (line k) rows) rest) → Whole above (map (line k) rows ++ rest)
  pass_rows [] above rest a b more =
      subst (λ (x : List (List ℕ)). Whole x rest) (append-nil above) (more (subst (λ (x : List (List ℕ)). Midst x k 0) (sym (append-nil above)) b))
  pass_rows (row ∷ rows) above rest a b more =
      let p = one_more above row (length rows) a.0 (more_in_order above (length rows) b) b.room (λ e. absurd (omega (arith, b.last e))) b.fresh in
      let e : (above ++ (line k row ∷ [])) ++ map (line k) rows ≡ above ++ (line k row ∷ map (line k) rows) =
      append_assoc above (line k row ∷ []) (map (line k) rows) in (
        p.0,
        pass_rows rows (above ++ (line k row ∷ [])) rest a.1 p.1
            (λ b'. subst (λ (x : List (List ℕ)). Whole x rest) (sym e) (more (subst (λ (x : List (List ℕ)). Midst x k 0) e b'))),
      )

  -- behind them the next kind may come
  midst_ready : (above : List (List ℕ)) → Midst above k 0 → Ready above (suc k)
  unfolding none_needed
  midst_ready above b = by (once k) refl
    where
      by : (x : Bool) → once k ≡ x → Ready above (suc k)
      by true e =
          let o : open_of above ≡ suc k = b.opens ∙ ap (λ (x : Bool). pick x (suc k) k) e in
          let z : suc k - open_of above ≡ 0 = omega arith in
          record { low = omega arith; none = rw z; fresh = λ j h. b.fresh j (omega arith) }
      by false e =
          let o : open_of above ≡ k = b.opens ∙ ap (λ (x : Bool). pick x (suc k) k) e in
          let z : suc k - open_of above ≡ 1 = omega arith in
          let d : needed k ≡ false = not_needed k e in
          record { low = omega arith; none = rw (z, o, d); fresh = λ j h. b.fresh j (omega arith) }

  -- a kind without rows is not needed
  no_rows_ready : (above : List (List ℕ)) → needed k ≡ false → Ready above k → Ready above (suc k)
  no_rows_ready above d b =
      record { low = omega (arith, b.low); none = none_to (open_of above) k b.low b.none d; fresh = λ j h. b.fresh j (omega arith) }

pass_kinds : (s : Sheet) (n k : ℕ) (above : List (List ℕ)) → k + n ≡ kinds → IsSheet s → Within s → Ready above k → Whole above (line_list s k n)
unfolding line_list is_complete
pass_kinds s zero k above e is w b = let z : k ≡ kinds = omega arith in subst (λ (j : ℕ). none_needed (open_of above) (j - open_of above) ≡ true) z b.none
pass_kinds s (suc n) k above e is w b = by (s k) refl (λ top r. pass_kinds s n (suc k) top (omega arith) is w r)
  where
    kind : k < kinds
    kind = omega arith

    none : s k ≡ [] → needed k ≡ false
    none q = false_if (needed k) (λ d. omega (arith, is.one k kind d, ap length q))

    by : (rows : List (List ℕ)) → s k ≡ rows → ((top : List (List ℕ)) → Ready top (suc k) → Whole top (line_list s (suc k) n))
        → Whole above (map (line k) rows ++ line_list s (suc k) n)
    by [] q later = later above (no_rows_ready k kind above (none q) b)
    by (row ∷ rows) q later =
        let a : AreRows k (row ∷ rows) = subst (AreRows k) q (is.rows k kind) in
        let f : length (of_kind k above) ≡ 0 = ap length (b.fresh k (omega arith)) in
        let p = one_more k kind above row (length rows) a.0 (in_order above k b.low b.none) (omega (arith, w k kind, ap length q))
        (λ o. omega (arith, is.no_second k kind o, ap length q)) (λ j h. b.fresh j (omega arith)) in (
          p.0,
          pass_rows k kind rows (above ++ (line k row ∷ [])) (line_list s (suc k) n) a.1 p.1 (λ m. later _ (midst_ready k kind _ m)),
        )

ready_none : Ready [] 0
unfolding open_kind none_needed of_kind
ready_none = record { low = omega arith; none = refl; fresh = λ j h. refl }

pub render_sound : (s : Sheet) → IsSheet s → Within s → verdict (render s) ≡ Ok tt
unfolding render
render_sound s is w =
    let e = lines_text_lem s 0 kinds (omega arith) in
    verdict_lines (render s) ∙ ap (verdict_below []) e ∙ pass_sound (line_list s 0 kinds) [] (pass_kinds s kinds 0 [] refl is w ready_none)

-- the rows that are read are the rows that were written
kind_rows : (rows rest : List (List ℕ)) (k : ℕ) → k < kinds → AreRows k rows → of_kind k (map (line k) rows ++ rest) ≡ map (line k) rows ++ of_kind k rest
unfolding of_kind
kind_rows [] rest k h a = refl
kind_rows (row ∷ rows) rest k h a =
    rw (eq-eqb (kind_of_line (line k row)) k (line_kind k row h a.0)) (ap (λ (t : List (List ℕ)). line k row ∷ t) (kind_rows rows rest k h a.1))

kind_not_rows : (rows rest : List (List ℕ)) (j k : ℕ) → j < kinds → (j ≡ k → ⊥) → AreRows j rows → of_kind k (map (line j) rows ++ rest) ≡ of_kind k rest
unfolding of_kind
kind_not_rows [] rest j k h n a = refl
kind_not_rows (row ∷ rows) rest j k h n a =
    rw (ne_eqb (kind_of_line (line j row)) k (λ e. n (sym (line_kind j row h a.0) ∙ e))) (kind_not_rows rows rest j k h n a.1)

module _ (s : Sheet) (a : (j : ℕ) → j < kinds → AreRows j (s j)) (k : ℕ) where
  kind_past : (n j : ℕ) → k < j → j + n ≤ kinds → of_kind k (line_list s j n) ≡ []
  unfolding of_kind line_list
  kind_past zero j h e = refl
  kind_past (suc n) j h e =
      kind_not_rows (s j) (line_list s (suc j) n) j k (omega arith) (λ q. omega arith) (a j (omega arith)) ∙ kind_past n (suc j) (omega arith) (omega arith)

  kind_there : (n j : ℕ) → j ≤ k → k < j + n → j + n ≤ kinds → of_kind k (line_list s j n) ≡ map (line k) (s k)
  unfolding line_list
  kind_there zero j h g e = absurd (omega arith)
  kind_there (suc n) j h g e = by (ℕ_discrete j k) (λ l. kind_there n (suc j) l (omega arith) (omega arith))
    where
      by : Dec (j ≡ k) → (suc j ≤ k → of_kind k (line_list s (suc j) n) ≡ map (line k) (s k))
          → of_kind k (map (line j) (s j) ++ line_list s (suc j) n) ≡ map (line k) (s k)
      by (yes q) later =
          ap (λ (i : ℕ). of_kind k (map (line i) (s i) ++ line_list s (suc j) n)) q
          ∙ kind_rows (s k) (line_list s (suc j) n) k (omega arith) (a k (omega arith))
          ∙ ap (λ (t : List (List ℕ)). map (line k) (s k) ++ t) (kind_past n (suc j) (omega arith) (omega arith))
          ∙ append-nil (map (line k) (s k))
      by (no q) later = kind_not_rows (s j) (line_list s (suc j) n) j k (omega arith) q (a j (omega arith)) ∙ later (omega arith)

rows_back : (rows : List (List ℕ)) (k : ℕ) → k < kinds → AreRows k rows → map (row_of k) (map (line k) rows) ≡ rows
rows_back [] k h a = refl
rows_back (row ∷ rows) k h a =
    let r : row_of k (line k row) ≡ row = line_row k row h a.0 in
    let t : map (row_of k) (map (line k) rows) ≡ rows = rows_back rows k h a.1 in
    cc

pub render_held : (s : Sheet) → IsSheet s → (k : ℕ) → k < kinds → sheet_of (render s) k ≡ s k
unfolding sheet_of render
render_held s is k h =
    ap (λ (ls : List (List ℕ)). map (row_of k) (of_kind k ls)) (lines_text_lem s 0 kinds (omega arith))
    ∙ ap (map (row_of k)) (kind_there s is.rows k kinds 0 (omega arith) (omega arith) (omega arith))
    ∙ rows_back (s k) k h (is.rows k h)

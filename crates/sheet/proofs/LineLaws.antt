-- Laws of lines: a text is a well-formed line exactly if it is the line of a row, and a line stands first in its text exactly as it is written.
-- Assumes nothing.
use Prim.Native.Nat.{ℕ, zero, suc, ◌+◌, ◌*◌, ◌-◌, ◌≤◌, ◌<◌}
use mathlib.Core.Path.{◌≡◌, refl, sym, ap, ◌∙◌, subst}
use mathlib.Core.Bool.{Bool, true, false}
use mathlib.Core.List.{List, [], ◌∷◌, ◌++◌, append_assoc}
use native.Mathlib.Omega.{arith}
use lib.ListN.{length, get_or, take, drop, length-append, take-append-drop, drop_of_length-le}
use lib.Seq.{take_at, drop_at, get_or_at, drop-drop}
use lib.Dec.{eqb, ltb}
use borrow.Author.Tests.{eq-eqb, ne_eqb, eqb-true, lt-ltb, le-ltb, ltb-true}
use Rattle.sheet.specs.Kinds.{pick, kinds, letter, fields, width}
use Rattle.sheet.specs.Field.{field, value, is_field}
use Rattle.sheet.specs.Sheet.{fields_text, line_text, line, Small, IsRow}
use Rattle.sheet.specs.Refusal.{lines_of, are_fields, is_line, kind_of_line, numbers, row_of}
use Rattle.sheet.proofs.Lists.{drop_next}
use Rattle.sheet.proofs.KindLaws.{letter_kind, letter_no_feed}
use Rattle.sheet.proofs.FieldLaws.{pick_both, pick_false, field_length, field_value, is_field_lem, field_is, NoFeed, no_feed_append, field_no_feed}

-- fields that stand at the front of a text
pub record FieldsAre (n : ℕ) (x : List ℕ) : Type 0 where
  pub text : x ≡ fields_text (numbers n x) ++ drop (11 * n) x
  pub small : Small (numbers n x)

pub numbers_length : (n : ℕ) (x : List ℕ) → length (numbers n x) ≡ n
unfolding numbers
numbers_length zero x = refl
numbers_length (suc n) x = ap suc (numbers_length n (drop 11 x))

pub fields_are : (n : ℕ) (x : List ℕ) → are_fields n x ≡ true → FieldsAre n x
unfolding are_fields numbers fields_text
fields_are zero x e = record { text = refl; small = tt }
fields_are (suc n) x e =
    let p = pick_both (is_field (take 11 x)) (are_fields n (drop 11 x)) e in
    let f = field_is (take 11 x) p.0 in
    let r = fields_are n (drop 11 x) p.1 in
    let m : 11 * suc n ≡ 11 + 11 * n = omega arith in
    let d : drop (11 * n) (drop 11 x) ≡ drop (11 * suc n) x = drop-drop (11 * n) 11 x ∙ ap (λ (j : ℕ). drop j x) (sym m) in
    record {
      text =
          sym (take-append-drop 11 x)
          ∙ ap (λ (t : List ℕ). t ++ drop 11 x) f.text
          ∙ ap (λ (t : List ℕ). field (value (take 11 x)) ++ t) (r.text ∙ ap (λ (t : List ℕ). fields_text (numbers n (drop 11 x)) ++ t) d)
          ∙ sym (append_assoc (field (value (take 11 x))) (fields_text (numbers n (drop 11 x))) (drop (11 * suc n) x));
      small = (f.small, r.small);
    }

module _ (r : List ℕ) where
  pub take_field : (n : ℕ) → take 11 (field n ++ r) ≡ field n
  take_field n = take_at (field n) r 11 (field_length n)

  pub drop_field : (n : ℕ) → drop 11 (field n ++ r) ≡ r
  drop_field n = drop_at (field n) r 11 (field_length n)

pub are_fields_lem : (row r : List ℕ) → Small row → are_fields (length row) (fields_text row ++ r) ≡ true
unfolding are_fields fields_text
are_fields_lem [] r s = refl
are_fields_lem (n ∷ ns) r s =
    let a : (field n ++ fields_text ns) ++ r ≡ field n ++ (fields_text ns ++ r) = append_assoc (field n) (fields_text ns) r in
    rw (a, take_field (fields_text ns ++ r) n, drop_field (fields_text ns ++ r) n, is_field_lem n s.0) (are_fields_lem ns r s.1)

pub numbers_text : (row r : List ℕ) → Small row → numbers (length row) (fields_text row ++ r) ≡ row
unfolding numbers fields_text
numbers_text [] r s = refl
numbers_text (n ∷ ns) r s =
    let a : (field n ++ fields_text ns) ++ r ≡ field n ++ (fields_text ns ++ r) = append_assoc (field n) (fields_text ns) r in
    let h = field_value n s.0 in
    let t = numbers_text ns r s.1 in
    rw (a, take_field (fields_text ns ++ r) n, drop_field (fields_text ns ++ r) n) (cc)

pub fields_length : (row : List ℕ) → length (fields_text row) ≡ 11 * length row
unfolding fields_text
fields_length [] = refl
fields_length (n ∷ ns) = simp length-append (omega (arith, field_length n, fields_length ns))

pub fields_no_feed : (row : List ℕ) → NoFeed (fields_text row)
unfolding fields_text
fields_no_feed [] = tt
fields_no_feed (n ∷ ns) = no_feed_append (field n) (fields_text ns) (field_no_feed n) (fields_no_feed ns)

-- a turn of the loop over the fields of a line
module _ (s : List ℕ) (n c : ℕ) (h : c < n) where
  turn : are_fields (n - c) (drop (11 * c) s) ≡ pick (is_field (take 11 (drop (11 * c) s))) (are_fields (n - (c + 1)) (drop (11 * (c + 1)) s)) false
  unfolding are_fields
  turn =
      let m : n - c ≡ suc (n - (c + 1)) = omega arith in
      let d : 11 * c + 11 ≡ 11 * (c + 1) = omega arith in
      rw m (ap (λ (t : List ℕ). pick (is_field (take 11 (drop (11 * c) s))) (are_fields (n - (c + 1)) t) false)
      (drop-drop 11 (11 * c) s ∙ ap (λ (j : ℕ). drop j s) d))

  pub fields_step : (w : ℕ) → w ≡ 11 → is_field (take w (drop (11 * c) s)) ≡ true
      → are_fields (n - (c + 1)) (drop (11 * (c + 1)) s) ≡ are_fields (n - c) (drop (11 * c) s)
  fields_step w e t =
      let u : is_field (take 11 (drop (11 * c) s)) ≡ true = subst (λ (j : ℕ). is_field (take j (drop (11 * c) s)) ≡ true) e t in
      sym (turn ∙ rw u)

  pub fields_stop : (w : ℕ) → w ≡ 11 → is_field (take w (drop (11 * c) s)) ≡ false → are_fields (n - c) (drop (11 * c) s) ≡ false
  fields_stop w e t =
      let u : is_field (take 11 (drop (11 * c) s)) ≡ false = subst (λ (j : ℕ). is_field (take j (drop (11 * c) s)) ≡ false) e t in
      turn ∙ rw u

pub fields_end : (s : List ℕ) (n c : ℕ) → n ≤ c → are_fields (n - c) (drop (11 * c) s) ≡ true
unfolding are_fields
fields_end s n c h = let z : n - c ≡ 0 = omega arith in rw z

-- a well-formed line is the line of the row that it holds
pub record LineIs (k : ℕ) (l : List ℕ) : Type 0 where
  pub kind : k < kinds
  pub long : length l ≡ width k
  pub text : l ≡ line k (row_of k l)
  pub row : IsRow k (row_of k l)

one_left : (l : List ℕ) (i c : ℕ) → length l ≡ i + 1 → get_or l i 0 ≡ c → drop i l ≡ c ∷ []
one_left l i c h e =
    drop_next l i (omega arith)
    ∙ ap (λ (t : List ℕ). get_or l i 0 ∷ t) (drop_of_length-le l {i = i + 1} (omega arith))
    ∙ ap (λ (d : ℕ). d ∷ []) e

pub line_is : (k : ℕ) (l : List ℕ) → is_line k l ≡ true → LineIs k l
unfolding is_line width line line_text row_of
line_is k l e =
    let p = pick_both (ltb k kinds) _ e in
    let q = pick_both (eqb (length l) (2 + 11 * fields k)) _ p.1 in
    let u = pick_both (eqb (get_or l 0 0) (letter k)) _ q.1 in
    let w = pick_both (eqb (get_or l (2 + 11 * fields k - 1) 0) 10) _ u.1 in
    let f = fields_are (fields k) (drop 1 l) w.1 in
    let long : length l ≡ 2 + 11 * fields k = eqb-true (length l) (2 + 11 * fields k) q.0 in
    let m : 2 + 11 * fields k - 1 ≡ 1 + 11 * fields k = omega arith in
    let feed : get_or l (1 + 11 * fields k) 0 ≡ 10 = ap (λ (j : ℕ). get_or l j 0) (sym m) ∙ eqb-true (get_or l (2 + 11 * fields k - 1) 0) 10 w.0 in
    let end : drop (11 * fields k) (drop 1 l) ≡ 10 ∷ [] = drop-drop (11 * fields k) 1 l ∙ one_left l (1 + 11 * fields k) 10 (omega arith) feed in
    let head : get_or l 0 0 ≡ letter k = eqb-true (get_or l 0 0) (letter k) u.0 in
    record {
      kind = ltb-true k kinds p.0;
      long = long;
      text =
          drop_next l 0 (omega arith)
          ∙ ap (λ (c : ℕ). c ∷ drop 1 l) head
          ∙ ap (λ (t : List ℕ). letter k ∷ t) (f.text ∙ ap (λ (t : List ℕ). fields_text (numbers (fields k) (drop 1 l)) ++ t) end);
      row = record { count = numbers_length (fields k) (drop 1 l); small = f.small };
    }

-- the tests of a line, one by one
pub line_test : (k : ℕ) (l : List ℕ) → k < kinds → length l ≡ width k → get_or l 0 0 ≡ letter k → get_or l (width k - 1) 0 ≡ 10
    → is_line k l ≡ are_fields (fields k) (drop 1 l)
unfolding is_line
line_test k l h n c f = rw (lt-ltb k kinds h, eq-eqb (length l) (width k) n, eq-eqb (get_or l 0 0) (letter k) c, eq-eqb (get_or l (width k - 1) 0) 10 f)

pub line_not_kind : (k : ℕ) (l : List ℕ) → kinds ≤ k → is_line k l ≡ false
unfolding is_line
line_not_kind k l h = rw (le-ltb k kinds h)

pub line_not_long : (k : ℕ) (l : List ℕ) → (length l ≡ width k → ⊥) → is_line k l ≡ false
unfolding is_line
line_not_long k l h = rw (ne_eqb (length l) (width k) h) (pick_false (ltb k kinds) false refl)

pub line_not_letter : (k : ℕ) (l : List ℕ) → (get_or l 0 0 ≡ letter k → ⊥) → is_line k l ≡ false
unfolding is_line
line_not_letter k l h = rw (ne_eqb (get_or l 0 0) (letter k) h) (pick_false (ltb k kinds) _ (pick_false (eqb (length l) (width k)) false refl))

pub line_not_feed : (k : ℕ) (l : List ℕ) → (get_or l (width k - 1) 0 ≡ 10 → ⊥) → is_line k l ≡ false
unfolding is_line
line_not_feed k l h =
    rw (ne_eqb (get_or l (width k - 1) 0) 10 h)
    (pick_false (ltb k kinds) _ (pick_false (eqb (length l) (width k)) _ (pick_false (eqb (get_or l 0 0) (letter k)) false refl)))

-- the line of a row is well formed, and holds that row
module _ (k : ℕ) (row : List ℕ) (kind : k < kinds) (is : IsRow k row) where
  pub line_length : length (line k row) ≡ width k
  unfolding width line line_text
  line_length = simp length-append (omega (arith, fields_length row, is.count))

  pub line_kind : kind_of_line (line k row) ≡ k
  unfolding kind_of_line line line_text
  line_kind = letter_kind k kind

  pub line_row : row_of k (line k row) ≡ row
  unfolding row_of line line_text
  line_row = subst (λ (n : ℕ). numbers n (fields_text row ++ (10 ∷ [])) ≡ row) is.count (numbers_text row (10 ∷ []) is.small)

  pub is_line_lem : is_line k (line k row) ≡ true
  unfolding is_line width line line_text
  is_line_lem =
      let f : are_fields (fields k) (fields_text row ++ (10 ∷ [])) ≡ true =
      subst (λ (n : ℕ). are_fields n (fields_text row ++ (10 ∷ [])) ≡ true) is.count (are_fields_lem row (10 ∷ []) is.small) in
      let n : length (letter k ∷ fields_text row ++ (10 ∷ [])) ≡ 2 + 11 * fields k = line_length in
      let w : 2 + 11 * fields k - 1 ≡ suc (length (fields_text row)) = omega (arith, fields_length row, is.count) in
      let feed : get_or (letter k ∷ fields_text row ++ (10 ∷ [])) (2 + 11 * fields k - 1) 0 ≡ 10 =
      ap (λ (j : ℕ). get_or (letter k ∷ fields_text row ++ (10 ∷ [])) j 0) w ∙ get_or_at (fields_text row) 10 [] 0 (length (fields_text row)) refl in
      rw (
        lt-ltb k kinds kind,
        eq-eqb (length (letter k ∷ fields_text row ++ (10 ∷ []))) (2 + 11 * fields k) n,
        eq-eqb (letter k) (letter k) refl,
        eq-eqb (get_or (letter k ∷ fields_text row ++ (10 ∷ [])) (2 + 11 * fields k - 1) 0) 10 feed,
      ) f

-- the lines of a text: up to the first line feed, and then those of the rest
feed_lines : (xs r : List ℕ) → NoFeed xs → lines_of (xs ++ 10 ∷ r) ≡ (xs ++ (10 ∷ [])) ∷ lines_of r
unfolding lines_of
feed_lines [] r f = refl
feed_lines (x ∷ xs) r f = rw (ne_eqb x 10 f.0, feed_lines xs r f.1)

pub line_lines : (k : ℕ) (row r : List ℕ) → k < kinds → lines_of (line k row ++ r) ≡ line k row ∷ lines_of r
unfolding line line_text
line_lines k row r h =
    let a : (fields_text row ++ (10 ∷ [])) ++ r ≡ fields_text row ++ 10 ∷ r = append_assoc (fields_text row) (10 ∷ []) r in
    rw a (feed_lines (letter k ∷ fields_text row) r (letter_no_feed k h, fields_no_feed row))

-- the first line of a text that is not empty
pub record First (x : List ℕ) : Type 0 where
  pub line : List ℕ
  pub others : List (List ℕ)
  pub rest : List ℕ
  pub lines : lines_of x ≡ line ∷ others
  pub text : x ≡ line ++ rest
  pub head : get_or line 0 0 ≡ get_or x 0 0

first_by : (c : ℕ) (cs : List ℕ) (t : Bool) → eqb c 10 ≡ t → (ls : List (List ℕ)) → lines_of cs ≡ ls → (0 < length cs → First cs) → First (c ∷ cs)
unfolding lines_of
first_by c cs true e ls q more =
    record { line = 10 ∷ []; others = lines_of cs; rest = cs; lines = rw e; text = ap (λ (d : ℕ). d ∷ cs) (eqb-true c 10 e); head = sym (eqb-true c 10 e) }
first_by c [] false e ls q more = record { line = c ∷ []; others = []; rest = []; lines = rw e; text = refl; head = refl }
first_by c (d ∷ ds) false e ls q more =
    let f = more (omega arith) in
    record { line = c ∷ f.line; others = f.others; rest = f.rest; lines = rw (e, f.lines); text = ap (λ (t : List ℕ). c ∷ t) f.text; head = refl }

pub first_line : (x : List ℕ) → 0 < length x → First x
first_line [] h = absurd (omega arith)
first_line (c ∷ cs) h = first_by c cs (eqb c 10) refl (lines_of cs) refl (λ m. first_line cs m)

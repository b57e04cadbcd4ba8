-- Laws of filling: in a sound text every field stands where the counts say, and a turn of each loop stores what the definition stores.
-- Assumes nothing.
use Prim.Native.Nat.{ℕ, zero, suc, ◌+◌, ◌*◌, ◌-◌, ◌≤◌, ◌<◌}
use mathlib.Core.Path.{◌≡◌, refl, sym, ap, ◌∙◌, subst, subst⁻¹}
use mathlib.Core.List.{List, [], ◌∷◌, ◌++◌, append_assoc, append-nil}
use native.Mathlib.Omega.{arith}
use native.Mathlib.Numerals.{add-one}
use native.Mathlib.Nat.{zero-mul, suc-mul, mul-le-mul_right, sub-zero, suc-sub-suc, zero-sub}
use lib.ListN.{length, get_or, set, take, drop, length-append, length-drop, length-take}
use lib.Seq.{sets, take_all, take_at, drop_at, drop-drop, take-nil, take-take}
use borrow.Rule.Slice.PartMut.{put_mid}
use Rattle.std.proofs.Math.Seq.{take-suc-set}
use Rattle.sheet.proofs.Lists.{put_mid_sets}
use Rattle.sheet.proofs.KindLaws.{base_fits}
use Rattle.sheet.specs.Kinds.{kinds, fields, limit, width, base, cell_count}
use Rattle.sheet.specs.Field.{value}
use Rattle.sheet.specs.Sheet.{fields_text, line_text, line, lines_text, text_from, render, Small, IsRow, AreRows}
use Rattle.sheet.specs.Refusal.{numbers, row_of, verdict, sheet_of}
use Rattle.std.specs.Prelude.{Ok}
use Rattle.sheet.proofs.SoundLaws.{sound_sheet}
use Rattle.sheet.specs.Lines.{AreLines, rows_of, Readable, fields_at}
use Rattle.sheet.specs.Cells.{place, column, stored_columns, stored_kinds, stored}
use Rattle.sheet.proofs.LineLaws.{line_is, line_length, is_line_lem, numbers_text}

-- a turn of the loop over the lines of a column
module _ (text : List ℕ) (p step count i : ℕ) (h : i < count) where
  less : count - i ≡ suc (count - (i + 1))
  less = omega arith

  pub readable_more : Readable text p step (count - i) → Readable text p step (suc (count - (i + 1)))
  readable_more r = subst (Readable text p step) less r

  pub fill_step : (column whole : List ℕ) (n w : ℕ) → w ≡ 11 → i < length column → n ≡ value (take w (drop p text))
      → take i column ++ fields_at text p step (count - i) ≡ whole
      → take (i + 1) (set column i n) ++ fields_at text (p + step) step (count - (i + 1)) ≡ whole
  unfolding fields_at
  fill_step column whole n w e in_column v q =
      let m : n ≡ value (take 11 (drop p text)) = v ∙ ap (λ (j : ℕ). value (take j (drop p text))) e in
      let rest = fields_at text (p + step) step (count - (i + 1)) in
      let t : take (i + 1) (set column i n) ≡ take i column ++ (n ∷ []) = ap (λ (j : ℕ). take j (set column i n)) (add-one i) ∙ take-suc-set column i n in_column in
      ap (λ (x : List ℕ). x ++ rest) t
      ∙ append_assoc (take i column) (n ∷ []) rest
      ∙ ap (λ (d : ℕ). take i column ++ d ∷ rest) m
      ∙ sym (ap (λ (j : ℕ). take i column ++ fields_at text p step j) less)
      ∙ q

pub fill_end : (text column whole : List ℕ) (p step count i : ℕ) → length column ≤ i → count ≤ i → take i column ++ fields_at text p step (count - i) ≡ whole
    → column ≡ whole
unfolding fields_at
fill_end text column whole p step count i g h q =
    let z : count - i ≡ 0 = omega arith in
    sym (append-nil column)
    ∙ ap (λ (x : List ℕ). x ++ []) (sym (take_all i column g))
    ∙ sym (ap (λ (j : ℕ). take i column ++ fields_at text p step j) z)
    ∙ q

-- a part of the front of a list is a part of the list
pub drop_take : (j w : ℕ) (x : List ℕ) → drop j (take w x) ≡ take (w - j) (drop j x)
drop_take zero w x = ap (λ (n : ℕ). take n x) (sym (sub-zero w))
drop_take (suc j) zero x = sym (ap (λ (n : ℕ). take n (drop (suc j) x)) (zero-sub (suc j)))
drop_take (suc j) (suc w) [] = sym (take-nil (suc w - suc j))
drop_take (suc j) (suc w) (y ∷ ys) = drop_take j w ys ∙ ap (λ (n : ℕ). take n (drop j ys)) (sym (suc-sub-suc w j))

take_front : (j w n : ℕ) (x : List ℕ) → j + n ≤ w → take n (drop j (take w x)) ≡ take n (drop j x)
take_front j w n x h = ap (take n) (drop_take j w x) ∙ take-take n (w - j) (drop j x) (omega arith)

pub numbers_at : (n c : ℕ) (x : List ℕ) → c < n → get_or (numbers n x) c 0 ≡ value (take 11 (drop (11 * c) x))
unfolding numbers
numbers_at zero c x h = absurd (omega arith)
numbers_at (suc n) zero x h = refl
numbers_at (suc n) (suc c) x h =
    let m : 11 + 11 * c ≡ 11 * suc c = omega arith in
    numbers_at n c (drop 11 x) (omega arith) ∙ ap (λ (t : List ℕ). value (take 11 t)) (drop-drop (11 * c) 11 x ∙ ap (λ (j : ℕ). drop j x) m)

row_at : (k c at : ℕ) (text : List ℕ) → c < fields k → get_or (row_of k (drop at text)) c 0 ≡ value (take 11 (drop (at + 1 + 11 * c) text))
unfolding row_of
row_at k c at text h =
    numbers_at (fields k) c (drop 1 (drop at text)) h
    ∙ ap (λ (t : List ℕ). value (take 11 t)) (ap (drop (11 * c)) (drop-drop 1 at text) ∙ drop-drop (11 * c) (at + 1) text)

row_front : (k c : ℕ) (x : List ℕ) → c < fields k → get_or (row_of k (take (width k) x)) c 0 ≡ get_or (row_of k x) c 0
unfolding width
row_front k c x h =
    row_at k c 0 (take (width k) x) h
    ∙ ap value (take_front (0 + 1 + 11 * c) (width k) 11 x (omega arith))
    ∙ sym (row_at k c 0 x h)

small_at : (row : List ℕ) (c : ℕ) → Small row → get_or row c 0 < 4294967296
small_at [] c s = omega arith
small_at (n ∷ ns) zero s = s.0
small_at (n ∷ ns) (suc c) s = small_at ns c s.1

-- a column of lines of one kind: its numbers, and that they can be read
module _ (k c : ℕ) (few : c < fields k) (text : List ℕ) where
  pub fields_column : (count at : ℕ) → fields_at text (at + 1 + 11 * c) (width k) count ≡ column c (rows_of k count (drop at text))
  unfolding fields_at column rows_of
  fields_column zero at = refl
  fields_column (suc count) at =
      let m : at + 1 + 11 * c + width k ≡ at + width k + 1 + 11 * c = omega arith in
      let a : value (take 11 (drop (at + 1 + 11 * c) text)) ≡ get_or (row_of k (drop at text)) c 0 = sym (row_at k c at text few) in
      let b : fields_at text (at + 1 + 11 * c + width k) (width k) count ≡ column c (rows_of k count (drop (width k) (drop at text))) =
      ap (λ (j : ℕ). fields_at text j (width k) count) m ∙ fields_column count (at + width k)
      ∙ ap (λ (x : List ℕ). column c (rows_of k count x)) (sym (drop-drop (width k) at text)) in
      ap (λ (n : ℕ). n ∷ fields_at text (at + 1 + 11 * c + width k) (width k) count) a ∙ ap (λ (t : List ℕ). get_or (row_of k (drop at text)) c 0 ∷ t) b

  pub lines_readable : (count at : ℕ) → AreLines k count (drop at text) → Readable text (at + 1 + 11 * c) (width k) count
  unfolding width
  lines_readable zero at l = tt
  lines_readable (suc count) at l =
      let x = drop at text in
      let i = line_is k (take (width k) x) l.0 in
      let v : value (take 11 (drop (at + 1 + 11 * c) text)) ≡ get_or (row_of k (take (width k) x)) c 0 = sym (row_front k c x few ∙ row_at k c at text few) in
      let m : at + 1 + 11 * c + width k ≡ at + width k + 1 + 11 * c = omega arith in (
        omega (arith, i.long, length-take (width k) x, length-drop at text),
        omega (arith, small_at (row_of k (take (width k) x)) c i.row.small),
        subst (λ (j : ℕ). Readable text j (width k) count) (sym m)
            (lines_readable count (at + width k) (subst (AreLines k count) (drop-drop (width k) at text) l.1)),
      )

-- a column lies inside the cells
pub place_fits : (b n m c count most : ℕ) → c < n → count ≤ m → b + n * m ≤ most → b + c * m + count ≤ most
place_fits b n m c count most h g e =
    let p : suc c * m ≤ n * m = mul-le-mul_right m h in
    let q : suc c * m ≡ c * m + m = suc-mul c m in
    omega arith

-- a turn of the loop over the columns of a kind
pub column_step : (k c : ℕ) (rows : List (List ℕ)) (cells after whole : List ℕ) → c < fields k → after ≡ sets cells (place k c) (column c rows)
    → stored_columns k rows c (fields k - c) cells ≡ whole → stored_columns k rows (c + 1) (fields k - (c + 1)) after ≡ whole
unfolding stored_columns
column_step k c rows cells after whole h e q =
    let m : fields k - c ≡ suc (fields k - (c + 1)) = omega arith in
    let r : stored_columns k rows c (suc (fields k - (c + 1))) cells ≡ whole = subst (λ (j : ℕ). stored_columns k rows c j cells ≡ whole) m q in
    ap (λ (j : ℕ). stored_columns k rows j (fields k - (c + 1)) after) (add-one c)
    ∙ ap (λ (t : List ℕ). stored_columns k rows (suc c) (fields k - (c + 1)) t) e
    ∙ r

pub column_end : (k c : ℕ) (rows : List (List ℕ)) (cells whole : List ℕ) → fields k ≤ c → stored_columns k rows c (fields k - c) cells ≡ whole → cells ≡ whole
unfolding stored_columns
column_end k c rows cells whole h q =
    let z : fields k - c ≡ 0 = omega arith in
    subst (λ (j : ℕ). stored_columns k rows c j cells ≡ whole) z q

-- the lines of a kind at the front of a text
module _ (k : ℕ) (kind : k < kinds) (r : List ℕ) where
  pub lines_there : (rows : List (List ℕ)) → AreRows k rows → AreLines k (length rows) (lines_text k rows ++ r)
  unfolding lines_text
  lines_there [] a = tt
  lines_there (row ∷ rows) a =
      let e : (line k row ++ lines_text k rows) ++ r ≡ line k row ++ (lines_text k rows ++ r) = append_assoc (line k row) (lines_text k rows) r in
      let n = line_length k row kind a.0 in
      rw (e, take_at (line k row) (lines_text k rows ++ r) (width k) n, drop_at (line k row) (lines_text k rows ++ r) (width k) n)
      (is_line_lem k row kind a.0, lines_there rows a.1)

  row_there : (row t : List ℕ) → IsRow k row → row_of k (line k row ++ t) ≡ row
  unfolding row_of line line_text
  row_there row t i =
      let e : (fields_text row ++ (10 ∷ [])) ++ t ≡ fields_text row ++ (10 ∷ t) = append_assoc (fields_text row) (10 ∷ []) t in
      ap (numbers (fields k)) e ∙ subst (λ (n : ℕ). numbers n (fields_text row ++ (10 ∷ t)) ≡ row) i.count (numbers_text row (10 ∷ t) i.small)

  pub rows_there : (rows : List (List ℕ)) → AreRows k rows → rows_of k (length rows) (lines_text k rows ++ r) ≡ rows
  unfolding lines_text rows_of
  rows_there [] a = refl
  rows_there (row ∷ rows) a =
      let e : (line k row ++ lines_text k rows) ++ r ≡ line k row ++ (lines_text k rows ++ r) = append_assoc (line k row) (lines_text k rows) r in
      let n = line_length k row kind a.0 in
      rw (e, row_there row (lines_text k rows ++ r) a.0, drop_at (line k row) (lines_text k rows ++ r) (width k) n)
      (ap (λ (t : List (List ℕ)). row ∷ t) (rows_there rows a.1))

  pub lines_length : (rows : List (List ℕ)) → AreRows k rows → length (lines_text k rows) ≡ length rows * width k
  unfolding lines_text
  lines_length [] a = sym (zero-mul (width k))
  lines_length (row ∷ rows) a =
      simp length-append (omega (arith, line_length k row kind a.0, lines_length rows a.1, suc-mul (length rows) (width k)))

-- the tables' entries for a kind, as the code holds them
pub record Entries (k n w most first : ℕ) : Type 0 where
  pub fields_are : n ≡ fields k
  pub width_is : w ≡ width k
  pub limit_is : most ≡ limit k
  pub base_is : first ≡ base k
  pub is_kind : k < kinds

module _ (k n w most first : ℕ) (t : Entries k n w most first) (c : ℕ) (h : c < n) (text : List ℕ) (at count : ℕ) where
  pub column_readable : AreLines k count (drop at text) → Readable text (at + 1 + 11 * c) w count
  column_readable l =
      subst (λ (j : ℕ). Readable text (at + 1 + 11 * c) j count) (sym t.width_is) (lines_readable k c (omega (arith, t.fields_are)) text count at l)

  pub column_fits : count ≤ limit k → first + c * most + count ≤ cell_count
  column_fits l =
      subst (λ (j : ℕ). first + c * j + count ≤ cell_count) (sym t.limit_is)
      (place_fits first (fields k) (limit k) c count cell_count (omega (arith, t.fields_are)) l (omega (arith, t.base_is, base_fits k t.is_kind)))

  pub column_stored : (cells part : List ℕ) (from m z : ℕ) → from ≡ first + c * most → m ≡ count → z ≡ count → from + count ≤ length cells
      → length part ≡ z → part ≡ fields_at text (at + 1 + 11 * c) w z
      → put_mid from m cells part ≡ sets cells (place k c) (column c (rows_of k count (drop at text)))
  unfolding place
  column_stored cells part from m z f p q inside long e =
      put_mid_sets cells part from m (omega arith) (omega arith)
      ∙ ap (λ (j : ℕ). sets cells j part) f
      ∙ ap (sets cells (first + c * most)) (e ∙ ap (fields_at text (at + 1 + 11 * c) w) q)
      ∙ ap (λ (j : ℕ). sets cells (first + c * most) (fields_at text (at + 1 + 11 * c) j count)) t.width_is
      ∙ ap (λ (j : ℕ). sets cells (j + c * most) (fields_at text (at + 1 + 11 * c) (width k) count)) t.base_is
      ∙ ap (λ (j : ℕ). sets cells (base k + c * j) (fields_at text (at + 1 + 11 * c) (width k) count)) t.limit_is
      ∙ ap (λ (x : List ℕ). sets cells (base k + c * limit k) x) (fields_column k c (omega (arith, t.fields_are)) text count at)

-- what is left to store of a sound text, kind after kind
pub record Left (text cells₀ cells : List ℕ) (at k : ℕ) : Type 0 where
  pub known : k ≤ kinds
  pub inside : at ≤ length text
  pub same : length cells ≡ length cells₀
  pub rest : drop at text ≡ text_from (sheet_of text) k (kinds - k)
  pub left : stored_kinds (sheet_of text) k (kinds - k) cells ≡ stored (sheet_of text) cells₀

module _ (text : List ℕ) (sound : verdict text ≡ Ok tt) where
  pub left_all : (cells : List ℕ) → Left text cells cells 0 0
  unfolding stored render
  left_all cells = record { known = omega arith; inside = omega arith; same = refl; rest = sym (sound_sheet text sound).same; left = refl }

  module _ (counts : List ℕ) (counted : (k : ℕ) → k < kinds → get_or counts k 0 ≡ length (sheet_of text k)) (cells₀ cells : List ℕ) (at k : ℕ) (h : k < kinds)
      (u : Left text cells₀ cells at k) where
    later : List ℕ
    later = text_from (sheet_of text) (suc k) (kinds - (k + 1))

    rows : AreRows k (sheet_of text k)
    rows = (sound_sheet text sound).sheet.rows k h

    more : kinds - k ≡ suc (kinds - (k + 1))
    more = omega arith

    there : drop at text ≡ lines_text k (sheet_of text k) ++ later
    unfolding later text_from
    there = u.rest ∙ ap (text_from (sheet_of text) k) more

    pub kind_lines : AreLines k (get_or counts k 0) (drop at text)
    kind_lines =
        subst⁻¹ (λ (n : ℕ). AreLines k n (drop at text)) (counted k h)
        (subst⁻¹ (AreLines k (length (sheet_of text k))) there (lines_there k h later (sheet_of text k) rows))

    kind_rows : rows_of k (get_or counts k 0) (drop at text) ≡ sheet_of text k
    kind_rows =
        ap (λ (n : ℕ). rows_of k n (drop at text)) (counted k h) ∙ ap (rows_of k (length (sheet_of text k))) there ∙ rows_there k h later (sheet_of text k) rows

    pub kind_count : get_or counts k 0 ≤ limit k
    kind_count = omega (arith, counted k h, (sound_sheet text sound).within k h)

    size : length (lines_text k (sheet_of text k)) ≡ get_or counts k 0 * width k
    size = lines_length k h later (sheet_of text k) rows ∙ ap (λ (n : ℕ). n * width k) (sym (counted k h))

    pub kind_room : (w : ℕ) → w ≡ width k → at + get_or counts k 0 * w ≤ length text
    kind_room w e =
        let a : length (drop at text) ≡ length (lines_text k (sheet_of text k)) + length later = ap length there
        ∙ length-append (lines_text k (sheet_of text k)) later in
        let b : get_or counts k 0 * w ≡ get_or counts k 0 * width k = ap (λ (j : ℕ). get_or counts k 0 * j) e in
        omega (arith, size, length-drop at text, u.inside)

    pub left_less : (after : List ℕ) (w : ℕ) → w ≡ width k → length after ≡ length cells
        → after ≡ stored_columns k (rows_of k (get_or counts k 0) (drop at text)) 0 (fields k) cells → Left text cells₀ after (at + get_or counts k 0 * w) (k + 1)
    unfolding stored_kinds later
    left_less after w e n q =
        let z : stored_kinds (sheet_of text) k (suc (kinds - (k + 1))) cells ≡ stored (sheet_of text) cells₀ =
        subst (λ (j : ℕ). stored_kinds (sheet_of text) k j cells ≡ stored (sheet_of text) cells₀) more u.left in
        let o : k + 1 ≡ suc k = add-one k in
        let b : get_or counts k 0 * w ≡ length (lines_text k (sheet_of text k)) = ap (λ (j : ℕ). get_or counts k 0 * j) e ∙ sym size in
        record {
          known = omega arith;
          inside = kind_room w e;
          same = n ∙ u.same;
          rest =
              sym (drop-drop (get_or counts k 0 * w) at text)
              ∙ ap (drop (get_or counts k 0 * w)) there
              ∙ drop_at (lines_text k (sheet_of text k)) later (get_or counts k 0 * w) (sym b)
              ∙ ap (λ (j : ℕ). text_from (sheet_of text) j (kinds - (k + 1))) (sym o);
          left =
              ap (λ (j : ℕ). stored_kinds (sheet_of text) j (kinds - (k + 1)) after) o
              ∙ ap (λ (t : List ℕ). stored_kinds (sheet_of text) (suc k) (kinds - (k + 1)) t)
              (q ∙ ap (λ (r : List (List ℕ)). stored_columns k r 0 (fields k) cells) kind_rows)
              ∙ z;
        }

pub left_none : (text cells₀ cells : List ℕ) (at k : ℕ) → kinds ≤ k → Left text cells₀ cells at k → cells ≡ stored (sheet_of text) cells₀
unfolding stored_kinds
left_none text cells₀ cells at k h u =
    let z : kinds - k ≡ 0 = omega arith in
    subst (λ (j : ℕ). stored_kinds (sheet_of text) k j cells ≡ stored (sheet_of text) cells₀) z u.left

-- Rows that are written one behind the other are one text
use Prim.Native.Nat.{ℕ, zero, suc, ◌+◌, ◌*◌, ◌-◌, ◌≤◌, ◌<◌}
use mathlib.Core.Path.{◌≡◌, refl, sym, ap, ◌∙◌}
use mathlib.Core.Bool.{Bool, true, false, not}
use mathlib.Core.List.{List, [], ◌∷◌, ◌++◌, map, append_assoc, append-nil, map-append}
use native.Mathlib.Nat.{mul-suc, mul-zero}
use native.Mathlib.Omega.{arith}
use lib.ListN.{length, get_or, set, take, drop, length-map, length-append, length-drop, drop_of_length-le}
use lib.Dec.{ltb, leb}
use borrow.Author.Tests.{le-ltb, le-leb, lt-leb, leb-true, leb-false, not-true, not-false}
use borrow.Rule.Slice.PartMut.{mid_of, put_mid}
use lib.Ieee.{Float}
use lib.Seq.{sets, sets-eq, take_all, drop-drop}
use Rattle.std.proofs.Math.Seq.{take-suc, take-suc-set}
use native.Mathlib.Numerals.{add-one}
use Rattle.columns.specs.Below.{joined}
use Rattle.columns.proofs.Joining.{joined_next, joined_none, from_on_all}
use Rattle.std.specs.Prelude.{Result, Ok, Err, IsOk, is_ok}
use Rattle.sheet.specs.Answer.{no_room, Wrote}
use Rattle.sheet.specs.Kinds.{pick}
use Rattle.sheet.specs.declared.write.NoRoom.{NoRoom}
use Rattle.sheet.proofs.Lists.{sets_append}
use Rattle.sheet.proofs.WriteLaws.{put_none, put_more, put_as, wrote_none, wrote_all, line_length}
use Rattle.filling.specs.SourceTables.{WorkColumns}
use Rattle.filling.specs.declared.lent.Rooms.{Rooms}
use Rattle.table_text.specs.TablesText.{field_in, row_line, link_line, use_line, gap_line, gap_segment_line, columns_text, bytes_of_rows}
use Rattle.table_text.specs.declared.write.Column.{Column}

-- tests of room: two that say the same, and what each answer says
pub leb_same : (a b c d : ℕ) → (a ≤ b → c ≤ d) → (b < a → d < c) → leb a b ≡ leb c d
leb_same a b c d f g = by (leb a b) refl
  where
    by : (t : Bool) → leb a b ≡ t → leb a b ≡ leb c d
    by true e = e ∙ sym (le-leb c d (f (leb-true a b e)))
    by false e = e ∙ sym (lt-leb c d (g (leb-false a b e)))

pub room_short : {r : Bool} (a b : ℕ) → r ≡ leb a b → not r ≡ true → b < a
room_short {r} a b e t = leb-false a b (sym e ∙ not-true r t)

pub room_enough : {r : Bool} (a b : ℕ) → r ≡ leb a b → not r ≡ false → a ≤ b
room_enough {r} a b e t = leb-true a b (sym e ∙ not-false r t)

-- rows of w bytes
module _ (row : ℕ → List ℕ) (w : ℕ) (wide : (j : ℕ) → length (row j) ≡ w) where
  -- a row written, and those left behind it
  pub rows_step : (n i p q : ℕ) (out after : List ℕ) → i < n → q ≡ p + w → after ≡ sets out p (row i)
      → sets after q (joined row (i + 1) (n - (i + 1))) ≡ sets out p (joined row i (n - i))
  rows_step n i p q out after h e g =
      let rest = joined row (i + 1) (n - (i + 1)) in
      let f : q ≡ p + length (row i) = e ∙ ap (λ (j : ℕ). p + j) (sym (wide i)) in
      ap (λ (o : List ℕ). sets o q rest) g
      ∙ ap (λ (j : ℕ). sets (sets out p (row i)) j rest) f
      ∙ sets_append (row i) rest out p
      ∙ ap (sets out p) (sym (joined_next row i n h))

  pub rows_start : (n p q : ℕ) (out : List ℕ) → p ≡ q → sets out p (joined row 0 (n - 0)) ≡ sets out q (joined row 0 n)
  rows_start n p q out e = ap (λ (j : ℕ). sets out j (joined row 0 (n - 0))) e ∙ ap (sets out q) (sym (from_on_all row n))

  pub rows_end : (n i p : ℕ) (out : List ℕ) → n ≤ i → sets out p (joined row i (n - i)) ≡ out
  rows_end n i p out h = ap (sets out p) (joined_none row i (n - i) (λ k a b. absurd (omega (arith, h, a, b))))

  pub rows_length : (i n : ℕ) → length (joined row i n) ≡ w * n
  unfolding joined
  rows_length i zero = sym (mul-zero w)
  rows_length i (suc n) = length-append (row i) (joined row (suc i) n) ∙ omega (arith, wide i, rows_length (suc i) n, mul-suc w n)

-- the line of a row, column by column
module _ (columns : List Column) where
  pub row_step : (i : ℕ) (row : List ℕ) (c v : ℕ) (d : Column) → c < length columns → c < length row → v ≡ field_in (get_or columns c d) i
      → take c row ≡ map (λ (x : Column). field_in x i) (take c columns)
      → take (c + 1) (set row c v) ≡ map (λ (x : Column). field_in x i) (take (c + 1) columns)
  row_step i row c v d h g e q =
      let f : Column → ℕ = λ (x : Column). field_in x i in
      ap (λ (j : ℕ). take j (set row c v)) (add-one c)
      ∙ take-suc-set row c v g
      ∙ (λ t. q t ++ (e t ∷ []))
      ∙ sym (map-append f (take c columns) (get_or columns c d ∷ []))
      ∙ ap (map f) (sym (take-suc columns c d h))
      ∙ ap (λ (j : ℕ). map f (take j columns)) (sym (add-one c))

  pub row_end : (i : ℕ) (row : List ℕ) (c k : ℕ) → length columns ≤ c → k ≡ c → take c row ≡ map (λ (x : Column). field_in x i) (take c columns)
      → take k row ≡ map (λ (x : Column). field_in x i) columns
  row_end i row c k h e q =
      ap (λ (j : ℕ). take j row) e ∙ q ∙ ap (map (λ (x : Column). field_in x i)) (take_all c columns h)

  pub row_wide : (letter i : ℕ) → length (row_line letter columns i) ≡ 2 + 11 * length columns
  row_wide letter i = omega (arith, line_length letter (map (λ (x : Column). field_in x i) columns), length-map columns (λ (x : Column). field_in x i))

-- the lines' widths
pub link_wide : (prevs nexts : List ℕ) (i : ℕ) → length (link_line prevs nexts i) ≡ 24
link_wide prevs nexts i = line_length 108 _

pub use_wide : (insts : List ℕ) (mains lefts rights : List Float) (i : ℕ) → length (use_line insts mains lefts rights i) ≡ 46
use_wide insts mains lefts rights i = line_length 117 _

pub gap_wide : (froms tos : List ℕ) (weights : List Float) (lives : List ℕ) (freqs : List Float) (blocks : List ℕ) (i : ℕ)
    → length (gap_line froms tos weights lives freqs blocks i) ≡ 68
gap_wide froms tos weights lives freqs blocks i = line_length 103 _

pub gap_segment_wide : (froms tos values gaps : List ℕ) (i : ℕ) → length (gap_segment_line froms tos values gaps i) ≡ 46
gap_segment_wide froms tos values gaps i = line_length 111 _

-- the text of rows, four tables
module _ (c : WorkColumns) (rows : Rooms) where
  abbrev links_part : List ℕ
  links_part = joined (link_line c.prevs c.nexts) 0 rows.links

  abbrev uses_part : List ℕ
  uses_part = joined (use_line c.insts c.mains c.lefts c.rights) 0 rows.uses

  abbrev gaps_part : List ℕ
  gaps_part = joined (gap_line c.froms c.tos c.weights c.lives c.freqs c.blocks) 0 rows.gaps

  abbrev segments_part : List ℕ
  segments_part = joined (gap_segment_line c.segment_froms c.segment_tos c.segment_values c.segment_gaps) 0 rows.gap_segments

  links_bytes : length links_part ≡ 24 * rows.links
  links_bytes = rows_length _ 24 (link_wide c.prevs c.nexts) 0 rows.links

  uses_bytes : length uses_part ≡ 46 * rows.uses
  uses_bytes = rows_length _ 46 (use_wide c.insts c.mains c.lefts c.rights) 0 rows.uses

  gaps_bytes : length gaps_part ≡ 68 * rows.gaps
  gaps_bytes = rows_length _ 68 (gap_wide c.froms c.tos c.weights c.lives c.freqs c.blocks) 0 rows.gaps

  segments_bytes : length segments_part ≡ 46 * rows.gap_segments
  segments_bytes =
      rows_length _ 46 (gap_segment_wide c.segment_froms c.segment_tos c.segment_values c.segment_gaps) 0 rows.gap_segments

  -- how many bytes it has
  pub text_bytes : length (columns_text c rows) ≡ bytes_of_rows rows
  text_bytes = simp length-append (omega (arith, links_bytes, uses_bytes, gaps_bytes, segments_bytes))

  -- too few bytes
  pub text_short : (out : List ℕ) → length out < bytes_of_rows rows → Wrote (columns_text c rows) out out (Err no_room)
  text_short out h = wrote_none (columns_text c rows) out (bytes_of_rows rows) text_bytes h

  -- four tables, written one behind the other
  pub text_put : (out a b d e : List ℕ) (uses_at gaps_at segments_at end : ℕ)
      → uses_at ≡ 24 * rows.links → gaps_at ≡ uses_at + 46 * rows.uses → segments_at ≡ gaps_at + 68 * rows.gaps
      → end ≡ segments_at + 46 * rows.gap_segments → bytes_of_rows rows ≤ length out
      → a ≡ sets out 0 links_part → b ≡ sets a uses_at uses_part → d ≡ sets b gaps_at gaps_part → e ≡ sets d segments_at segments_part
      → Wrote (columns_text c rows) out e (Ok end)
  text_put out a b d e uses_at gaps_at segments_at end p q r s fits f g h k =
      let p₁ = put_more out out a 0 [] links_part 0 (24 * rows.links) 0 (put_none out 0) refl links_bytes f in
      let p₂ = put_more out a b 0 _ uses_part _ (46 * rows.uses) uses_at p₁ (omega arith) uses_bytes g in
      let p₃ = put_more out b d 0 _ gaps_part _ (68 * rows.gaps) gaps_at p₂ (omega arith) gaps_bytes h in
      let p₄ = put_more out d e 0 _ segments_part _ (46 * rows.gap_segments) segments_at p₃ (omega arith) segments_bytes k in
      let whole : (((([] ++ links_part) ++ uses_part) ++ gaps_part) ++ segments_part) ≡ columns_text c rows = simp append_assoc in
      let size : length (columns_text c rows) ≡ end = text_bytes ∙ omega arith in
      wrote_all (columns_text c rows) out e end size (omega arith) (put_as out e 0 _ (columns_text c rows) _ p₄ whole)

-- what is written to the front of the part behind a place, which has room for it
module _ (out part : List ℕ) (at : ℕ) (text : List ℕ) (w : Result ℕ NoRoom) (h : at + length text ≤ length out)
    (wrote : Wrote text (mid_of at (length out - at) out) part w) where
  abbrev k : ℕ
  k = length out - at

  abbrev m : List ℕ
  m = mid_of at k out

  same : m ≡ drop at out
  same = take_all k (drop at out) (omega (arith, length-drop at out))

  roomy : ltb (length m) (length text) ≡ false
  roomy = le-ltb (length m) (length text) (omega (arith, ap length same, length-drop at out))

  pub behind_ok : IsOk w
  behind_ok = ap is_ok (wrote.answer ∙ ap (λ (x : Bool). pick x (Err no_room) (Ok (length text))) roomy)

  pub behind_put : put_mid at k out part ≡ sets out at text
  behind_put =
      let b : part ≡ text ++ drop (length text) m = wrote.bytes ∙ ap (λ (x : Bool). pick x m (text ++ drop (length text) m)) roomy in
      let r : part ≡ text ++ drop (at + length text) out =
      b ∙ ap (λ (x : List ℕ). text ++ drop (length text) x) same ∙ ap (λ (x : List ℕ). text ++ x) (drop-drop (length text) at out) in
      let past : length (drop at out) ≤ k = omega (arith, length-drop at out) in
      let e : drop k (drop at out) ≡ [] = drop_of_length-le (drop at out) past in
      ap (λ (x : List ℕ). take at out ++ (part ++ x)) e
      ∙ ap (λ (x : List ℕ). take at out ++ x) (append-nil part ∙ r)
      ∙ sym (append_assoc (take at out) text (drop (at + length text) out))
      ∙ sym (sets-eq text out at h)

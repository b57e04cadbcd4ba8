-- Refusals 14 and 15: the first bad line decides, and on one line 14 comes before 15.
-- Assumes nothing.
use Rattle.std.specs.Prelude.{ℕ, zero, suc, ◌+◌, ◌-◌, ◌<◌, ◌≤◌, max, ◌≡◌, Bool, true, false, List, [], ◌∷◌, ◌++◌, map, length, get_or, take, drop, eqb, leb, ltb, Result, Ok, Err, IfOk}
use Rattle.std.specs.Result.{result_map_both}
use Rattle.sheet.specs.Kinds.{pick, kinds, letter, fields, limit, once, needed, width, kind_of}
use Rattle.sheet.specs.Field.{value, is_field}
use Rattle.sheet.specs.Sheet.{Sheet}
use Rattle.sheet.specs.declared.check.BadLine.{BadLine}

-- a byte put in front of the first of some lines
abbrev pub join_first : ℕ → List (List ℕ) → List (List ℕ)
join_first c [] = (c ∷ []) ∷ []
join_first c (l ∷ ls) = (c ∷ l) ∷ ls

-- the lines of a text, each with its line feed; the last may have none
unfoldable pub lines_of : List ℕ → List (List ℕ)
lines_of [] = []
lines_of (c ∷ cs) = pick (eqb c 10) ((10 ∷ []) ∷ lines_of cs) (join_first c (lines_of cs))

-- n fields stand at the front of a text
unfoldable pub are_fields : ℕ → List ℕ → Bool
are_fields zero x = true
are_fields (suc n) x = pick (is_field (take 11 x)) (are_fields n (drop 11 x)) false

-- a text is a well-formed line of kind k, that is, the line of a row: its length, its letter, its line feed, its fields
unfoldable pub is_line : ℕ → List ℕ → Bool
is_line k l =
    pick (ltb k kinds)
    (pick (eqb (length l) (width k))
    (pick (eqb (get_or l 0 0) (letter k)) (pick (eqb (get_or l (width k - 1) 0) 10) (are_fields (fields k) (drop 1 l)) false) false) false)
    false

-- the kind that a line's letter names
unfoldable pub kind_of_line : List ℕ → ℕ
kind_of_line l = kind_of (get_or l 0 0)

-- the latest kind among some lines
unfoldable pub latest : List (List ℕ) → ℕ
latest [] = 0
latest (l ∷ ls) = max (kind_of_line l) (latest ls)

-- the lines of kind k among some lines
unfoldable pub of_kind : ℕ → List (List ℕ) → List (List ℕ)
of_kind k [] = []
of_kind k (l ∷ ls) = pick (eqb (kind_of_line l) k) (l ∷ of_kind k ls) (of_kind k ls)

-- the first kind that may stand next below n lines, the latest of kind m: no kind stands below a later one, nor again where one is asked
unfoldable pub open_kind : ℕ → ℕ → ℕ
open_kind n m = pick (eqb n 0) 0 (pick (once m) (suc m) m)

-- among n kinds from k on there is none of which a line is needed
unfoldable pub none_needed : ℕ → ℕ → Bool
none_needed k zero = true
none_needed k (suc n) = pick (needed k) false (none_needed (suc k) n)

-- a line of kind k is in order below n lines, the latest of kind m: it may stand next, and none that is needed is missing above it
unfoldable pub is_in_order : ℕ → ℕ → ℕ → Bool
is_in_order n m k = pick (leb (open_kind n m) k) (none_needed (open_kind n m) (k - open_kind n m)) false

-- no line that is needed is missing below n lines, the latest of kind m
unfoldable pub is_complete : ℕ → ℕ → Bool
is_complete n m = none_needed (open_kind n m) (kinds - open_kind n m)

-- what is wrong with a line below the lines above it: 14 malformed or out of order, 15 one too many of its kind, 0 nothing
unfoldable pub fault : List (List ℕ) → List ℕ → ℕ
fault above l =
    pick (is_line (kind_of_line l) l)
    (pick (is_in_order (length above) (latest above) (kind_of_line l)) (pick (ltb (length (of_kind (kind_of_line l) above)) (limit (kind_of_line l))) 0 15) 14)
    14

-- what is said of a text: that it is sound, or the refusal of a line
abbrev pub Verdict : Type 0
Verdict = Result (Unit {0}) BadLine

abbrev pub refusal : ℕ → ℕ → Verdict
refusal number line = Err (record { number = number; line = line })

-- a refusal with its place where there is a fault, else what is said of the lines below
abbrev pub judged : ℕ → ℕ → Verdict → Verdict
judged zero place v = v
judged (suc n) place v = refusal (suc n) place

-- the first bad line of some lines below those above them, or the place of one that is missing at the end; lines count from 1
unfoldable pub verdict_below : List (List ℕ) → List (List ℕ) → Verdict
verdict_below above [] = pick (is_complete (length above) (latest above)) (Ok tt) (refusal 14 (length above + 1))
verdict_below above (l ∷ ls) = judged (fault above l) (length above + 1) (verdict_below (above ++ (l ∷ [])) ls)

-- a text's verdict; so of an empty text the missing P is refused, at line 1
unfoldable pub verdict : List ℕ → Verdict
verdict text = verdict_below [] (lines_of text)

-- the numbers that n fields at the front of a text make
unfoldable pub numbers : ℕ → List ℕ → List ℕ
numbers zero x = []
numbers (suc n) x = value (take 11 x) ∷ numbers n (drop 11 x)

-- the row that a line of kind k holds
unfoldable pub row_of : ℕ → List ℕ → List ℕ
row_of k l = numbers (fields k) (drop 1 l)

-- the sheet that a text holds
unfoldable pub sheet_of : List ℕ → Sheet
sheet_of text k = map (row_of k) (of_kind k (lines_of text))

-- how many lines of each kind a text has, each within its limit
pub record Counted (text counts : List ℕ) : Type 0 where
  pub rows : (k : ℕ) → k < kinds → get_or counts k 0 ≡ length (sheet_of text k)
  pub within : (k : ℕ) → k < kinds → get_or counts k 0 ≤ limit k

-- an answer but for its counts
abbrev pub said : {E : Type 0} → Result (List ℕ) E → Result (Unit {0}) E
said r = result_map_both (λ counts. tt) (λ e. e) r

-- what a check answers: the counts of a sound text, or the refusal
pub record Checked (text : List ℕ) (r : Result (List ℕ) BadLine) : Type 0 where
  pub answer : said r ≡ verdict text
  pub counted : IfOk r (Counted text)

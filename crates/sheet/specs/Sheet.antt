-- A sheet and its text.
-- Assumes nothing.
use Rattle.std.specs.Prelude.{ℕ, zero, suc, ◌≤◌, ◌<◌, ◌^◌, ◌≡◌, true, List, [], ◌∷◌, ◌++◌, length}
use Rattle.sheet.specs.Kinds.{kinds, letter, fields, limit, once, needed}
use Rattle.sheet.specs.Field.{field}

-- the text of a row's fields
unfoldable pub fields_text : List ℕ → List ℕ
fields_text [] = []
fields_text (n ∷ ns) = field n ++ fields_text ns

-- a line: a letter, the fields, a line feed
unfoldable pub line_text : ℕ → List ℕ → List ℕ
line_text c ns = c ∷ fields_text ns ++ (10 ∷ [])

-- the line of a row of kind k
unfoldable pub line : ℕ → List ℕ → List ℕ
line k row = line_text (letter k) row

-- the lines of rows of kind k
unfoldable pub lines_text : ℕ → List (List ℕ) → List ℕ
lines_text k [] = []
lines_text k (row ∷ rows) = line k row ++ lines_text k rows

-- a sheet: the rows of each kind
abbrev pub Sheet : Type 0
Sheet = ℕ → List (List ℕ)

-- the text of n kinds from k on
unfoldable pub text_from : Sheet → ℕ → ℕ → List ℕ
text_from s k zero = []
text_from s k (suc n) = lines_text k (s k) ++ text_from s (suc k) n

-- a sheet's text: its lines in the order P B V S U W E F
unfoldable pub render : Sheet → List ℕ
render s = text_from s 0 kinds

-- a row of kind k: as many numbers as the kind has fields, each unsigned 32-bit
abbrev pub Small : List ℕ → Type 0
Small [] = Unit {0}
Small (n ∷ ns) = (n < 2 ^ 32) × Small ns

pub record IsRow (k : ℕ) (row : List ℕ) : Type 0 where
  pub count : length row ≡ fields k
  pub small : Small row

abbrev pub AreRows : ℕ → List (List ℕ) → Type 0
AreRows k [] = Unit {0}
AreRows k (row ∷ rows) = IsRow k row × AreRows k rows

-- a sheet: rows of each kind, one where one is needed, and none behind it where no second may stand
pub record IsSheet (s : Sheet) : Type 0 where
  pub rows : (k : ℕ) → k < kinds → AreRows k (s k)
  pub one : (k : ℕ) → k < kinds → needed k ≡ true → length (s k) ≡ 1
  pub no_second : (k : ℕ) → k < kinds → once k ≡ true → length (s k) ≤ 1

-- a sheet within the limits
abbrev pub Within : Sheet → Type 0
Within s = (k : ℕ) → k < kinds → length (s k) ≤ limit k

-- Lines of one kind at the front of a text, as they are read after the check. For contracts of private functions.
-- Assumes nothing.
use Rattle.std.specs.Prelude.{ℕ, zero, suc, ◌+◌, ◌≤◌, ◌<◌, ◌^◌, ◌≡◌, true, List, [], ◌∷◌, length, take, drop}
use Rattle.sheet.specs.Kinds.{width}
use Rattle.sheet.specs.Field.{value}
use Rattle.sheet.specs.Refusal.{is_line, row_of}

-- n well-formed lines of kind k stand at the front of a text
abbrev pub AreLines : ℕ → ℕ → List ℕ → Type 0
AreLines k zero x = Unit {0}
AreLines k (suc n) x = (is_line k (take (width k) x) ≡ true) × AreLines k n (drop (width k) x)

-- the rows that they hold
unfoldable pub rows_of : ℕ → ℕ → List ℕ → List (List ℕ)
rows_of k zero x = []
rows_of k (suc n) x = row_of k x ∷ rows_of k n (drop (width k) x)

-- n fields, the first at p and step bytes apart, lie inside a text and make unsigned 32-bit numbers
abbrev pub Readable : List ℕ → ℕ → ℕ → ℕ → Type 0
Readable text p step zero = Unit {0}
Readable text p step (suc n) = (p + 11 ≤ length text) × (value (take 11 (drop p text)) < 2 ^ 32) × Readable text (p + step) step n

-- the numbers that they make
unfoldable pub fields_at : List ℕ → ℕ → ℕ → ℕ → List ℕ
fields_at text p step zero = []
fields_at text p step (suc n) = value (take 11 (drop p text)) ∷ fields_at text (p + step) step n

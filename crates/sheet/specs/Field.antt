-- A field: a number right-justified in 11 columns, and the number that a field's bytes make.
-- Assumes nothing.
use Rattle.std.specs.Prelude.{ℕ, zero, suc, ◌+◌, ◌*◌, ◌-◌, ◌/◌, ◌%◌, Bool, false, List, [], ◌∷◌, ◌++◌, length, eqb, leb}
use Rattle.std.specs.Str.{bytes_eq}
use Rattle.sheet.specs.Kinds.{pick}

-- the last digit of what is left of a number, a blank where nothing is left: no leading zeros
unfoldable pub digit_or_blank : ℕ → ℕ
digit_or_blank n = pick (eqb n 0) 32 (48 + n % 10)

-- what is left of a number, right-justified in w columns
unfoldable pub digits : ℕ → ℕ → List ℕ
digits zero n = []
digits (suc w) n = digits w (n / 10) ++ (digit_or_blank n ∷ [])

-- a field: the last digit always stands
unfoldable pub field : ℕ → List ℕ
field n = digits 10 (n / 10) ++ ((48 + n % 10) ∷ [])

-- the number that bytes make behind n, read as decimal digits; a blank counts as 0
unfoldable pub value_behind : ℕ → List ℕ → ℕ
value_behind n [] = n
value_behind n (c ∷ cs) = value_behind (n * 10 + (c - 48)) cs

unfoldable pub value : List ℕ → ℕ
value cs = value_behind 0 cs

-- a text is a field: it has 11 columns, the number that they make is unsigned 32-bit, and the text is that number's
unfoldable pub is_field : List ℕ → Bool
is_field x = pick (eqb (length x) 11) (pick (leb (value x) 4294967295) (bytes_eq x (field (value x))) false) false

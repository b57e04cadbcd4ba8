-- The kinds of lines of a sheet: one table. A kind is its place there, and all else about kinds follows from the table.
-- Assumes nothing.
use Rattle.std.specs.Prelude.{ℕ, zero, suc, ◌+◌, ◌*◌, max, Bool, true, false, cond, List, [], ◌∷◌, get_or, ltb, Option, Some, None, ◌==◌}
use Rattle.std.specs.List.{position_or_len}
use Rattle.sheet.specs.declared.kinds.Asked.{Asked}
use Rattle.sheet.specs.declared.kinds.Asked.TheVariants.{ExactlyOne, AtMostOne, Any}
use Rattle.sheet.specs.declared.kinds.Kind.{Kind}

-- a where a test holds, else b
abbrev pub pick : {A : Type 0} → Bool → A → A → A
pick true a b = a
pick false a b = b

-- the limits of this layer: of uses or reservations, and of another kind
abbrev pub many : ℕ
many = 256

abbrev pub few : ℕ
few = 128

-- a kind: its letter, how many fields a line has, how many lines a sheet may have, and what is asked of their number
abbrev pub kind : ℕ → ℕ → ℕ → Asked → Kind
kind c n most asked = record { letter = c; fields = n; limit = most; asked = asked }

-- the kinds in the order of a sheet: P B V S U W E F. P: k, three scales, units. B: frequency, first, end. V: code.
-- S: start, end, value, first use, end use, flags. U: position, kind, cost. W: weight.
-- E: unit, start, end, kind, index, fixed. F: unit, point, value.
abbrev pub kind_table : List Kind
kind_table =
    kind 80 5 1 ExactlyOne
    ∷ kind 66 3 few Any
    ∷ kind 86 1 few Any
    ∷ kind 83 6 few Any
    ∷ kind 85 3 many Any
    ∷ kind 87 1 few Any
    ∷ kind 69 6 many Any
    ∷ kind 70 3 few Any
    ∷ []

-- a kind's name is its place
abbrev pub kind_p : ℕ
kind_p = 0

abbrev pub kind_b : ℕ
kind_b = 1 + kind_p

abbrev pub kind_v : ℕ
kind_v = 1 + kind_b

abbrev pub kind_s : ℕ
kind_s = 1 + kind_v

abbrev pub kind_u : ℕ
kind_u = 1 + kind_s

abbrev pub kind_w : ℕ
kind_w = 1 + kind_u

abbrev pub kind_e : ℕ
kind_e = 1 + kind_w

abbrev pub kind_f : ℕ
kind_f = 1 + kind_e

-- how many kinds there are
abbrev pub kinds : ℕ
kinds = 1 + kind_f

-- a kind's row; of what is no kind, one of zeros
unfoldable pub kind_at : ℕ → Kind
kind_at k = get_or kind_table k (kind 0 0 0 Any)

unfoldable pub letter : ℕ → ℕ
letter k = (kind_at k).letter

unfoldable pub fields : ℕ → ℕ
fields k = (kind_at k).fields

abbrev pub limit_of : ℕ → ℕ
limit_of k = (get_or kind_table k (kind 0 0 0 Any)).limit

unfoldable pub limit : ℕ → ℕ
limit k = (kind_at k).limit

-- a sheet has no second line of a kind
abbrev pub is_once : Asked → Bool
is_once ExactlyOne = true
is_once AtMostOne = true
is_once Any = false

unfoldable pub once : ℕ → Bool
once k = is_once (kind_at k).asked

-- a sheet is not without a line of a kind
abbrev pub is_needed : Asked → Bool
is_needed ExactlyOne = true
is_needed AtMostOne = false
is_needed Any = false

unfoldable pub needed : ℕ → Bool
needed k = is_needed (kind_at k).asked

-- a line's length in bytes: the letter, the fields in 11 columns each, the line feed
unfoldable pub width : ℕ → ℕ
width k = 2 + 11 * fields k

-- the longest line of the first n kinds
unfoldable pub widest_to : ℕ → ℕ
widest_to zero = 2
widest_to (suc n) = max (width n) (widest_to n)

-- the longest line
unfoldable pub widest : ℕ
widest = widest_to kinds

-- the kind that a letter names; `kinds` for any other byte
unfoldable pub kind_of : ℕ → ℕ
kind_of c = position_or_len (λ x. x.letter == c) kind_table

-- a kind, and none for what is past them
abbrev pub as_kind : ℕ → Option ℕ
as_kind k = cond (ltb k kinds) (Some k) None

-- where the cells of kind k start: behind those of the kinds before it, each with its fields times its limit
unfoldable pub base : ℕ → ℕ
base zero = 0
base (suc k) = base k + fields k * limit k

-- how many cells a sheet needs
unfoldable pub cell_count : ℕ
cell_count = base kinds

-- how many lines of the first n kinds a sheet may have
unfoldable pub lines_to : ℕ → ℕ
lines_to zero = 0
lines_to (suc n) = limit n + lines_to n

-- how many lines a sheet has at most
unfoldable pub most_lines : ℕ
most_lines = lines_to kinds

-- the bytes of so many lines of each of the first n kinds
unfoldable pub bytes : ℕ → (ℕ → ℕ) → ℕ
bytes zero rows = 0
bytes (suc n) rows = rows n * width n + bytes n rows

-- the bytes of the longest sheet
unfoldable pub longest_text : ℕ
longest_text = bytes kinds limit

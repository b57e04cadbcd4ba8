-- A walk over a table's rows: what the row before says, the row itself, and tests joined by "or"
use mathlib.Core.Path.{◌≡◌, sym, ap, ◌∙◌}
use mathlib.Core.Bool.{Bool, true, false, ◌&&◌, ◌||◌, cond}
use mathlib.Core.List.{List}
use Prim.Native.Nat.{ℕ, ◌+◌, ◌≤◌, ◌<◌}
use native.Mathlib.Nat.{lt_of_lt_of_le, le_of_eq}
use native.Mathlib.Numerals.{add-one}
use lib.ListN.{length, get_or}
use Rattle.std.specs.List.{position, position_or_len}
use Rattle.std.specs.Option.{unwrap_or}
use Rattle.std.proofs.Common.{Some, None, ltb, arith, le_trans, zero-le}
use Rattle.std.proofs.lemmas.List.Sums.{position_or_len_is}
use Rattle.std.proofs.lemmas.Bool.Decides.{nat_tests}
use Rattle.columns.proofs.Firsts.{first_in}
use Rattle.columns.specs.First.{first_below}
use Rattle.columns.specs.Table.{table, row_before}
use Rattle.columns.proofs.Tables.{table_length, table_at}

-- before the next row stands this one
pub before_next : {A : Type 0} (rows : List A) (none : A) (i : ℕ) → get_or rows i none ≡ row_before rows none (i + 1)
before_next rows none i = ap (row_before rows none) (sym (add-one i))

-- a table's own row
pub own_row : {A : Type 0} (row : ℕ → A) (n i : ℕ) (d x : A) → x ≡ row i → i < length (table row n) → x ≡ get_or (table row n) i d
own_row row n i d x e h = e ∙ sym (table_at row n i d (lt_of_lt_of_le h (le_of_eq (table_length row n))))

-- tests joined by "or" and "and"
pub or_first : (a b : Bool) → a ≡ true → (a || b) ≡ true
or_first a b p = rw p

pub or_second : (a b c : Bool) → a ≡ false → b ≡ c → (a || b) ≡ c
or_second a b c p q = rw p q

pub or_none : {a b : Bool} → a ≡ false → b ≡ false → (a || b) ≡ false
or_none {a} {b} p q = or_second a b false p q

pub and_both : (a b c : Bool) → a ≡ true → b ≡ c → (a && b) ≡ c
and_both a b c p q = rw p q

pub and_first : (a b : Bool) → a ≡ false → (a && b) ≡ false
and_first a b p = rw p

-- in a column, the first place is the position
or_length : (i n : ℕ) → i ≤ n → unwrap_or (cond (ltb i n) (Some i) None) n ≡ i
or_length i n h = grind (arith, nat_tests)

pub first_position : (test : ℕ → Bool) (col : List ℕ) → unwrap_or (position test col) (length col) ≡ first_below (λ (k : ℕ). test (get_or col k 0)) (length col)
first_position test col =
    let f = first_in (λ (k : ℕ). test (get_or col k 0)) (length col) in
    let e = position_or_len_is test col _ 0 f.to (λ k h. f.passed k zero-le h) f.found in
    or_length (position_or_len test col) (length col) (le_trans (le_of_eq e) f.to) ∙ e

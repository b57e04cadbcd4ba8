-- Laws of the kinds: the place of a letter in the table, what holds of each row of it, and that kinds have cells of their own.
-- Assumes nothing.
use Prim.Native.Nat.{ℕ, zero, suc, ◌+◌, ◌*◌, ◌-◌, ◌≤◌, ◌<◌}
use mathlib.Core.Path.{◌≡◌, refl, sym, ap, ◌∙◌, subst}
use mathlib.Core.Bool.{Bool, true, false, not}
use mathlib.Core.List.{List, [], ◌∷◌}
use mathlib.Core.Logic.{◌⊎◌, inl, inr, ⊎_elim}
use native.Mathlib.Nat.{eq-or-lt_of_le, le_of_suc-le-suc}
use native.Mathlib.Decide.{dec_lt}
use native.Mathlib.Omega.{arith}
use lib.Dec.{T, eqb, leb}
use lib.ListN.{length, get_or, get_or-eq_default}
use borrow.Author.Tests.{eqb-true, eqb-false, leb-true, not-true}
use Rattle.sheet.specs.declared.kinds.Asked.{Asked}
use Rattle.sheet.specs.declared.kinds.Asked.TheVariants.{ExactlyOne, AtMostOne, Any}
use Rattle.sheet.specs.declared.kinds.Kind.{Kind}
use Rattle.sheet.specs.Kinds.{pick, kind, kind_table, kinds, kind_at, letter, fields, limit, is_once, once, is_needed, needed, width, kind_of}
use Rattle.sheet.specs.Kinds.{widest_to, widest, base, cell_count, lines_to, most_lines}

-- far above every entry of the table
abbrev entry_bound : ℕ
entry_bound = 65536

-- a test that holds of each number below n, which antt computes
abbrev pub all_below : ℕ → (ℕ → Bool) → Bool
all_below zero f = true
all_below (suc n) f = pick (f n) (all_below n f) false

all_by : (n : ℕ) (f : ℕ → Bool) (k : ℕ) → k < suc n → (b : Bool) → f n ≡ b → T (pick b (all_below n f) false) → (T (all_below n f) → k < n → f k ≡ true)
    → f k ≡ true
all_by n f k h true e u below = ⊎_elim (λ q. ap f q ∙ e) (λ l. below u l) (eq-or-lt_of_le (le_of_suc-le-suc h))
all_by n f k h false e u below = absurd u

pub all_at : (n : ℕ) (f : ℕ → Bool) → T (all_below n f) → (k : ℕ) → k < n → f k ≡ true
all_at zero f t k h = absurd (omega arith)
all_at (suc n) f t k h = all_by n f k h (f n) refl t (λ u. all_at n f u k)

pub letter_kind : (k : ℕ) → k < kinds → kind_of (letter k) ≡ k
unfolding kind_of letter kind_at
letter_kind k h = eqb-true (kind_of (letter k)) k (all_at kinds (λ j. eqb (kind_of (letter j)) j) tt k h)

pub letter_no_feed : (k : ℕ) → k < kinds → letter k ≡ 10 → ⊥
unfolding letter kind_at
letter_no_feed k h e = eqb-false (letter k) 10 (not-true (eqb (letter k) 10) (all_at kinds (λ j. not (eqb (letter j) 10)) tt k h)) e

pub split : (a b : ℕ) → (a < b) ⊎ (b ≤ a)
split a b = by (dec_lt a b)
  where
    by : Dec (a < b) → (a < b) ⊎ (b ≤ a)
    by (yes h) = inl h
    by (no h) = inr (omega arith)

-- inside a list the default does not matter
pub either_default : (rows : List Kind) (d e : Kind) (k : ℕ) → k < length rows → get_or rows k d ≡ get_or rows k e
either_default [] d e k h = absurd (omega arith)
either_default (x ∷ xs) d e zero h = refl
either_default (x ∷ xs) d e (suc k) h = either_default xs d e k (omega arith)

-- the row of what is no kind
pub kind_past : (k : ℕ) → kinds ≤ k → kind_at k ≡ kind 0 0 0 Any
unfolding kind_at
kind_past k h = get_or-eq_default kind_table (kind 0 0 0 Any) h

pub fields_past : (k : ℕ) → kinds ≤ k → fields k ≡ 0
unfolding fields
fields_past k h = ap (λ (x : Kind). x.fields) (kind_past k h)

fields_below : (k : ℕ) → k < kinds → fields k ≤ entry_bound
unfolding fields kind_at
fields_below k h = leb-true (fields k) entry_bound (all_at kinds (λ j. leb (fields j) entry_bound) tt k h)

-- entries of the table are small
pub fields_few : (k : ℕ) → fields k ≤ entry_bound
fields_few k = ⊎_elim (fields_below k) (λ h. omega (arith, fields_past k h)) (split k kinds)

pub limit_small : (k : ℕ) → k < kinds → limit k ≤ entry_bound
unfolding limit kind_at
limit_small k h = leb-true (limit k) entry_bound (all_at kinds (λ j. leb (limit j) entry_bound) tt k h)

-- no line is longer than the longest
width_to : (n k : ℕ) → k < n → width k ≤ widest_to n
unfolding widest_to
width_to zero k h = absurd (omega arith)
width_to (suc n) k h = ⊎_elim (λ l. omega (arith, width_to n k l)) (λ l. let z : k ≡ n = omega arith in omega (arith, ap width z)) (split k n)

widest_some : (n : ℕ) → 2 ≤ widest_to n
unfolding widest_to
widest_some zero = omega arith
widest_some (suc n) = omega (arith, widest_some n)

pub widest_two : 2 ≤ widest
unfolding widest
widest_two = widest_some kinds

pub widest_small : widest ≤ entry_bound
unfolding widest widest_to width fields kind_at
widest_small = leb-true widest entry_bound refl

pub width_two : (k : ℕ) → 2 ≤ width k
unfolding width
width_two k = omega arith

pub width_most : (k : ℕ) → width k ≤ widest
unfolding widest width
width_most k = ⊎_elim (width_to kinds k) (λ h. omega (arith, fields_past k h, widest_some kinds)) (split k kinds)

-- a kind of which no second line may stand is a kind, and one that is needed is such a kind
pub once_kind : (k : ℕ) → once k ≡ true → k < kinds
unfolding once
once_kind k e =
    ⊎_elim (λ h. h)
    (λ h. let z : ◌≡◌ {A = Bool} false true = subst (λ (x : Kind). is_once x.asked ≡ true) (kind_past k h) e in absurd (subst T (sym z) tt))
    (split k kinds)

needed_asked : (a : Asked) → is_needed a ≡ true → is_once a ≡ true
needed_asked ExactlyOne e = refl
needed_asked AtMostOne e = refl
needed_asked Any e = e

pub needed_once : (k : ℕ) → needed k ≡ true → once k ≡ true
unfolding needed once
needed_once k e = needed_asked (kind_at k).asked e

once_asked : (a : Asked) → is_once a ≡ false → is_needed a ≡ false
once_asked ExactlyOne e = e
once_asked AtMostOne e = refl
once_asked Any e = refl

pub not_needed : (k : ℕ) → once k ≡ false → needed k ≡ false
unfolding needed once
not_needed k e = once_asked (kind_at k).asked e

-- a sheet's lines can be counted, and its cells
pub lines_small : most_lines < 4294967295
unfolding most_lines lines_to limit kind_at
lines_small = leb-true (suc most_lines) 4294967295 refl

pub cells_small : cell_count < 4294967295
unfolding cell_count base fields limit kind_at
cells_small = leb-true (suc cell_count) 4294967295 refl

-- the cells of a kind lie before those of each later kind, and inside the cells
pub base_next : (k : ℕ) → base (suc k) ≡ base k + fields k * limit k
unfolding base
base_next k = refl

base_rises : (n k : ℕ) → base k ≤ base (n + k)
base_rises zero k = let z : 0 + k ≡ k = omega arith in omega (arith, ap base z)
base_rises (suc n) k =
    let z : suc n + k ≡ suc (n + k) = omega arith in
    omega (arith, base_rises n k, base_next (n + k), ap base z)

pub base_before : (a b : ℕ) → a < b → base a + fields a * limit a ≤ base b
base_before a b h =
    let z : b - suc a + suc a ≡ b = omega arith in
    omega (arith, base_rises (b - suc a) (suc a), base_next a, ap base z)

pub base_fits : (k : ℕ) → k < kinds → base k + fields k * limit k ≤ cell_count
unfolding cell_count
base_fits k h = base_before k kinds h

-- Tables by row number: their length, their rows, when two are equal, and when a column is the filled one
use mathlib.Core.Path.{◌≡◌, refl, sym, ap, ap₂, ◌∙◌}
use mathlib.Core.Logic.{⊎_elim}
use mathlib.Core.List.{List, [], ◌∷◌, map}
use Prim.Native.Nat.{ℕ, zero, suc, ◌+◌, ◌-◌, ◌≤◌, ◌<◌, suc-le-suc, min}
use native.Mathlib.Nat.{le_refl, le_trans, le_of_eq, lt_of_lt_of_le, le_of_suc-le-suc, not-suc-le-zero, zero-lt-suc}
use native.Mathlib.Omega.{arith}
use lib.ListN.{length, get_or, drop, length-append, length-drop, get_or-append, get_or-eq_default}
use lib.Seq.{ext_get_or, get_or-append-add, get_or-drop}
use Rattle.columns.specs.Table.{table, shortest, filled}
use Rattle.columns.proofs.Firsts.{split}

-- no column is shorter than the shortest
pub shortest_at_most : (ns : List ℕ) (k : ℕ) → k < length ns → shortest ns ≤ get_or ns k 0
shortest_at_most [] k h = absurd (not-suc-le-zero h)
shortest_at_most (n ∷ []) zero h = le_refl n
shortest_at_most (n ∷ []) (suc k) h = absurd (not-suc-le-zero (le_of_suc-le-suc h))
shortest_at_most (n ∷ m ∷ ns) zero h = first n (shortest (m ∷ ns))
  where
    first : (a b : ℕ) → min a b ≤ a
    first a b = omega arith
shortest_at_most (n ∷ m ∷ ns) (suc k) h = le_trans (second n (shortest (m ∷ ns))) (shortest_at_most (m ∷ ns) k (le_of_suc-le-suc h))
  where
    second : (a b : ℕ) → min a b ≤ b
    second a b = omega arith

-- of two lengths the shorter stands for both
pub shortest_first : (n m : ℕ) (ns : List ℕ) → shortest (min n m ∷ ns) ≡ shortest (n ∷ m ∷ ns)
shortest_first n m [] = refl
shortest_first n m (k ∷ ns) = let rest = shortest (k ∷ ns) in omega arith

-- what stands past a column does not matter to its rows
pub row_any : {A : Type 0} (xs : List A) (d e : A) (i : ℕ) → i < length xs → get_or xs i d ≡ get_or xs i e
row_any [] d e i h = absurd (not-suc-le-zero h)
row_any (x ∷ xs) d e zero h = refl
row_any (x ∷ xs) d e (suc i) h = row_any xs d e i (omega (arith, h))

module _ {A : Type 0} where
  pub table_length : (row : ℕ → A) (n : ℕ) → length (table row n) ≡ n
  unfolding table
  table_length row zero = refl
  table_length row (suc n) = ap suc (table_length (λ (k : ℕ). row (suc k)) n)

  -- a row number of a table of columns is inside each column
  pub row_inside : (row : ℕ → A) (ns : List ℕ) (i k : ℕ) → i < length (table row (shortest ns)) → k < length ns → i < get_or ns k 0
  row_inside row ns i k h l = lt_of_lt_of_le h (le_trans (le_of_eq (table_length row (shortest ns))) (shortest_at_most ns k l))

  pub table_at : (row : ℕ → A) (n i : ℕ) (d : A) → i < n → get_or (table row n) i d ≡ row i
  unfolding table
  table_at row zero i d h = absurd (not-suc-le-zero h)
  table_at row (suc n) zero d h = refl
  table_at row (suc n) (suc i) d h = table_at (λ (k : ℕ). row (suc k)) n i d (le_of_suc-le-suc h)

  -- past its rows a table has the default
  pub table_past : (row : ℕ → A) (n i : ℕ) (d : A) → n ≤ i → get_or (table row n) i d ≡ d
  table_past row n i d h = get_or-eq_default (table row n) d (le_trans (le_of_eq (table_length row n)) h)

  pub table_same : (row other : ℕ → A) (n : ℕ) → ((k : ℕ) → k < n → row k ≡ other k) → table row n ≡ table other n
  unfolding table
  table_same row other zero h = refl
  table_same row other (suc n) h =
      ap₂ (λ (x : A) (xs : List A). x ∷ xs) (h 0 (zero-lt-suc n))
      (table_same (λ (k : ℕ). row (suc k)) (λ (k : ℕ). other (suc k)) n (λ k l. h (suc k) (suc-le-suc l)))

  pub table_map : {B : Type 0} (f : A → B) (row : ℕ → A) (n : ℕ) → map f (table row n) ≡ table (λ (k : ℕ). f (row k)) n
  unfolding table
  table_map f row zero = refl
  table_map f row (suc n) = ap (λ xs. f (row 0) ∷ xs) (table_map f (λ (k : ℕ). row (suc k)) n)

  -- a list is the table of its rows
  pub table_of : (l : List A) (d : A) → table (λ (k : ℕ). get_or l k d) (length l) ≡ l
  unfolding table
  table_of [] d = refl
  table_of (x ∷ l) d = ap (λ (xs : List A). x ∷ xs) (table_of l d)

  -- a column with the rows, and what it had past them, is the filled one
  module _ (row : ℕ → A) (n : ℕ) (lent now : List A) (d : A) (room : n ≤ length lent) (long : length now ≡ length lent)
      (rows : (k : ℕ) → k < n → get_or now k d ≡ row k) (rest : (k : ℕ) → n ≤ k → get_or now k d ≡ get_or lent k d) where
    m : ℕ
    m = length (table row n)

    joined : (a b : ℕ) → a ≤ b → a + (b - a) ≡ b
    joined a b h = omega arith

    full : length (filled (table row n) lent) ≡ length lent
    unfolding m
    full =
        length-append (table row n) (drop m lent) ∙ ap (λ (x : ℕ). m + x) (length-drop m lent)
        ∙ joined m (length lent) (le_trans (le_of_eq (table_length row n)) room)

    past : (k : ℕ) → n ≤ k → get_or (filled (table row n) lent) k d ≡ get_or lent k d
    unfolding m
    past k l =
        let e : m + (k - m) ≡ k = joined m k (le_trans (le_of_eq (table_length row n)) l) in
        ap (λ (x : ℕ). get_or (filled (table row n) lent) x d) (sym e)
        ∙ get_or-append-add (table row n) (drop m lent) (k - m) d ∙ get_or-drop m lent (k - m) d ∙ ap (λ (x : ℕ). get_or lent x d) e

    pub filled_is : now ≡ filled (table row n) lent
    unfolding m
    filled_is =
        ext_get_or d now (filled (table row n) lent) (long ∙ sym full)
        (λ k _. ⊎_elim
        (λ l. rows k l ∙ sym (table_at row n k d l) ∙ sym (get_or-append (table row n) (drop m lent) d k
        (lt_of_lt_of_le l (le_of_eq (sym (table_length row n))))))
        (λ l. rest k l ∙ sym (past k l))
        (split k n))

-- Tables that are lent as one slice a column
use Rattle.std.specs.Prelude.{ℕ, zero, suc, min, Bool, false, ◌||◌, List, [], ◌∷◌, ◌++◌, length, get_or, drop}

-- a table of n rows, by row number
unfoldable pub table : {A : Type 0} → (ℕ → A) → ℕ → List A
table row zero = []
table row (suc n) = row 0 ∷ table (λ (k : ℕ). row (suc k)) n

-- how many rows columns of these lengths have: as many as the shortest
abbrev pub shortest : List ℕ → ℕ
shortest [] = 0
shortest (n ∷ []) = n
shortest (n ∷ m ∷ ns) = min n (shortest (m ∷ ns))

-- a lent column after its first rows are filled: later rows are unchanged
abbrev pub filled : {A : Type 0} → List A → List A → List A
filled rows lent = rows ++ drop (length rows) lent

-- the row before row i, or no row
abbrev pub row_before : {A : Type 0} → List A → A → ℕ → A
row_before rows none zero = none
row_before rows none (suc i) = get_or rows i none

-- some row passes a test
unfoldable pub any_of : {A : Type 0} → (A → Bool) → List A → Bool
any_of test [] = false
any_of test (x ∷ xs) = test x || any_of test xs

-- rows stored one after the other, each by a step that takes the columns on
unfoldable pub stored_in : {A C : Type 0} → (A → C → C) → List A → C → C
stored_in step [] c = c
stored_in step (r ∷ rows) c = stored_in step rows (step r c)

-- something holds of each item of a list
abbrev pub Each : {A : Type 0} → (A → Type 0) → List A → Type 0
Each P [] = Unit {0}
Each P (x ∷ xs) = P x × Each P xs

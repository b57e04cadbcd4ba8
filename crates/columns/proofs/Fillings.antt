-- Filled columns: cut to the rows that fill them, as long as before, filled again; one row more, the last row changed or read; rows stored one after the other
use mathlib.Core.Path.{◌≡◌, refl, sym, ap, ap₂, ◌∙◌}
use mathlib.Core.List.{List, [], ◌∷◌, ◌++◌, map}
use Prim.Native.Nat.{ℕ, zero, suc, ◌+◌, ◌≤◌, ◌<◌}
use native.Mathlib.Nat.{le_trans, le_of_eq, not-suc-le-zero, le_of_suc-le-suc}
use native.Mathlib.Omega.{arith}
use lib.ListN.{length, get_or, set, take, drop, length-map}
use lib.Seq.{sets, sets-eq}
use Rattle.columns.specs.Table.{table, filled, stored_in}

module _ {A : Type 0} where
  pub filled_take : (rows lent : List A) → take (length rows) (filled rows lent) ≡ rows
  filled_take rows lent = go rows (drop (length rows) lent)
    where
      go : (xs more : List A) → take (length xs) (xs ++ more) ≡ xs
      go [] more = refl
      go (x ∷ xs) more = ap (λ (l : List A). x ∷ l) (go xs more)

  pub filled_long : (rows lent : List A) → length rows ≤ length lent → length (filled rows lent) ≡ length lent
  filled_long [] lent h = refl
  filled_long (r ∷ rows) [] h = absurd (not-suc-le-zero h)
  filled_long (r ∷ rows) (x ∷ lent) h = ap suc (filled_long rows lent (le_of_suc-le-suc h))

  pub filled_again : (rows others lent : List A) → length rows ≡ length others → filled rows (filled others lent) ≡ filled rows lent
  filled_again rows others lent e =
      ap (λ (l : List A). rows ++ l) (ap (λ (n : ℕ). drop n (filled others lent)) e ∙ past others lent ∙ ap (λ (n : ℕ). drop n lent) (sym e))
    where
      gone : (xs more : List A) → drop (length xs) (xs ++ more) ≡ more
      gone [] more = refl
      gone (x ∷ xs) more = gone xs more

      past : (others lent : List A) → drop (length others) (filled others lent) ≡ drop (length others) lent
      past others lent = gone others (drop (length others) lent)

  pub filled_at : (rows lent : List A) (k : ℕ) (d : A) → k < length rows → get_or (filled rows lent) k d ≡ get_or rows k d
  filled_at rows lent k d h = go rows (drop (length rows) lent) k h
    where
      go : (xs more : List A) (k : ℕ) → k < length xs → get_or (xs ++ more) k d ≡ get_or xs k d
      go [] more k h = absurd (not-suc-le-zero h)
      go (x ∷ xs) more zero h = refl
      go (x ∷ xs) more (suc k) h = go xs more k (le_of_suc-le-suc h)

  -- a column that is filled, cut to the rows used
  pub filled_cut : (rows lent : List A) {now : List A} {n : ℕ} → now ≡ filled rows lent → n ≡ length rows → take n now ≡ rows
  filled_cut rows lent {now} {n} e u = ap (take n) e ∙ ap (λ (m : ℕ). take m (filled rows lent)) u ∙ filled_take rows lent

  -- a column cut to its first rows is the table of them
  pub cut_table : (l : List A) (n : ℕ) (d : A) → n ≤ length l → take n l ≡ table (λ (k : ℕ). get_or l k d) n
  unfolding table
  cut_table l zero d h = refl
  cut_table [] (suc n) d h = absurd (not-suc-le-zero h)
  cut_table (x ∷ l) (suc n) d h = ap (λ (xs : List A). x ∷ xs) (cut_table l n d (le_of_suc-le-suc h))

-- ---- a column of a field of the rows
module _ {A B : Type 0} (field : A → B) where
  -- one row more
  pub filled_more : (rows : List A) (u : A) (lent : List B) → length rows < length lent
      → set (filled (map field rows) lent) (length rows) (field u) ≡ filled (map field (rows ++ (u ∷ []))) lent
  filled_more [] u [] h = absurd (not-suc-le-zero h)
  filled_more [] u (b ∷ bs) h = refl
  filled_more (r ∷ rows) u [] h = absurd (not-suc-le-zero h)
  filled_more (r ∷ rows) u (b ∷ bs) h = ap (λ (l : List B). field r ∷ l) (filled_more rows u bs (le_of_suc-le-suc h))

  -- the last row changed
  pub filled_changed : (rows : List A) (u v : A) (lent : List B) → length rows < length lent
      → set (filled (map field (rows ++ (u ∷ []))) lent) (length rows) (field v) ≡ filled (map field (rows ++ (v ∷ []))) lent
  filled_changed rows u v [] h = absurd (not-suc-le-zero h)
  filled_changed [] u v (b ∷ bs) h = refl
  filled_changed (r ∷ rows) u v (b ∷ bs) h = ap (λ (l : List B). field r ∷ l) (filled_changed rows u v bs (le_of_suc-le-suc h))

  -- the last row read
  pub filled_read : (rows : List A) (u : A) (lent : List B) (d : B) → length rows < length lent
      → get_or (filled (map field (rows ++ (u ∷ []))) lent) (length rows) d ≡ field u
  filled_read rows u [] d h = absurd (not-suc-le-zero h)
  filled_read [] u (b ∷ bs) d h = refl
  filled_read (r ∷ rows) u (b ∷ bs) d h = filled_read rows u bs d (le_of_suc-le-suc h)

  -- as long as before
  pub filled_field_long : (rows : List A) (lent : List B) → length rows ≤ length lent → length (filled (map field rows) lent) ≡ length lent
  filled_field_long rows lent h = filled_long (map field rows) lent (le_trans (le_of_eq (length-map rows field)) h)

-- ---- rows stored one after the other, a field of them in a column, from the place on where the next row stands
module _ {A B C : Type 0} (step : A → C → C) (place : C → ℕ) (next : (r : A) (c : C) → place (step r c) ≡ suc (place c))
    (column : C → List B) (field : A → B) (one : (r : A) (c : C) → column (step r c) ≡ set (column c) (place c) (field r)) where
  stored_column : (rows : List A) (c : C) → column (stored_in step rows c) ≡ sets (column c) (place c) (map field rows)
  unfolding stored_in
  stored_column [] c = refl
  stored_column (r ∷ rows) c = stored_column rows (step r c) ∙ ap₂ (λ (l : List B) (n : ℕ). sets l n (map field rows)) (one r c) (next r c)

  -- from the first row on they fill it
  pub stored_filled : (rows : List A) (c : C) → place c ≡ 0 → length rows ≤ length (column c)
      → column (stored_in step rows c) ≡ filled (map field rows) (column c)
  stored_filled rows c z h =
      let e = length-map rows field in
      let a : 0 + length (map field rows) ≡ length (map field rows) = omega arith in
      stored_column rows c ∙ ap (λ (n : ℕ). sets (column c) n (map field rows)) z ∙ sets-eq (map field rows) (column c) 0 (omega (arith, e, h))
      ∙ ap (λ (n : ℕ). map field rows ++ drop n (column c)) a

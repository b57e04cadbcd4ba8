-- Laws of the cells: no two columns share a cell, so that each number stands in its own, every other cell is kept, and the sheet that was stored is held.
-- Assumes nothing.
use Prim.Native.Nat.{ℕ, zero, suc, ◌+◌, ◌*◌, ◌≤◌, ◌<◌}
use mathlib.Core.Path.{◌≡◌, refl, sym, ap, ◌∙◌, subst}
use mathlib.Core.List.{List, [], ◌∷◌}
use mathlib.Core.Logic.{◌⊎◌, inl, inr, ⊎_elim}
use native.Mathlib.Omega.{arith}
use native.Mathlib.Nat.{mul-le-mul_right, suc-mul, add-zero}
use native.Mathlib.Decide.{ℕ_discrete}
use lib.ListN.{length, get_or, set, take, drop, length-set, length-drop, length-map, get_or-map}
use lib.Seq.{sets, length-sets, get_or-set_same, get_or-set_other, get_or-take, get_or-drop, length-take-le, ext_get_or}
use Rattle.sheet.specs.Kinds.{kinds, fields, limit, base, cell_count}
use Rattle.sheet.specs.Sheet.{Sheet, IsRow, AreRows, Within}
use Rattle.sheet.specs.Cells.{place, column, stored_columns, stored_kinds, stored, held_row, held_rows, held}
use Rattle.sheet.proofs.Lists.{drop_next}
use Rattle.sheet.proofs.KindLaws.{split, base_before, base_fits}
use Rattle.sheet.proofs.FillLaws.{place_fits}

-- an index is outside a run of n from p on
abbrev pub Outside : ℕ → ℕ → ℕ → Type 0
Outside j p n = (j < p) ⊎ (p + n ≤ j)

sets_outside : (vs l : List ℕ) (p j : ℕ) → Outside j p (length vs) → get_or (sets l p vs) j 0 ≡ get_or l j 0
sets_outside [] l p j o = refl
sets_outside (v ∷ vs) l p j o =
    sets_outside vs (set l p v) (suc p) j (⊎_elim (λ a. inl (omega arith)) (λ b. inr (omega arith)) o)
    ∙ get_or-set_other l p j v 0 (⊎_elim (λ a. omega arith) (λ b. omega arith) o)

sets_inside : (vs l : List ℕ) (p i : ℕ) → i < length vs → p + length vs ≤ length l → get_or (sets l p vs) (p + i) 0 ≡ get_or vs i 0
sets_inside [] l p i h e = absurd (omega arith)
sets_inside (v ∷ vs) l p zero h e =
    let z : p + zero ≡ p = add-zero p in
    ap (λ (j : ℕ). get_or (sets (set l p v) (suc p) vs) j 0) z
    ∙ sets_outside vs (set l p v) (suc p) p (inl (omega arith))
    ∙ get_or-set_same l p v 0 (omega arith)
sets_inside (v ∷ vs) l p (suc i) h e =
    let z : p + suc i ≡ suc p + i = omega arith in
    ap (λ (j : ℕ). get_or (sets (set l p v) (suc p) vs) j 0) z
    ∙ sets_inside vs (set l p v) (suc p) i (omega arith) (omega (arith, length-set l p v))

column_length : (c : ℕ) (rows : List (List ℕ)) → length (column c rows) ≡ length rows
unfolding column
column_length c rows = length-map rows (λ (row : List ℕ). get_or row c 0)

columns_length : (n c k : ℕ) (rows : List (List ℕ)) (cells : List ℕ) → length (stored_columns k rows c n cells) ≡ length cells
unfolding stored_columns
columns_length zero c k rows cells = refl
columns_length (suc n) c k rows cells = columns_length n (suc c) k rows (sets cells (place k c) (column c rows)) ∙ length-sets cells (place k c) (column c rows)

-- columns that a cell is outside of
columns_outside : (n c k j : ℕ) (rows : List (List ℕ)) (cells : List ℕ) → ((d : ℕ) → c ≤ d → d < c + n → Outside j (place k d) (length rows))
    → get_or (stored_columns k rows c n cells) j 0 ≡ get_or cells j 0
unfolding stored_columns
columns_outside zero c k j rows cells o = refl
columns_outside (suc n) c k j rows cells o =
    columns_outside n (suc c) k j rows (sets cells (place k c) (column c rows)) (λ d a b. o d (omega arith) (omega arith))
    ∙ sets_outside (column c rows) cells (place k c) j (subst (Outside j (place k c)) (sym (column_length c rows)) (o c (omega arith) (omega arith)))

kinds_outside : (n k j : ℕ) (s : Sheet) (cells : List ℕ) → ((m d : ℕ) → k ≤ m → m < k + n → d < fields m → Outside j (place m d) (length (s m)))
    → get_or (stored_kinds s k n cells) j 0 ≡ get_or cells j 0
unfolding stored_kinds
kinds_outside zero k j s cells o = refl
kinds_outside (suc n) k j s cells o =
    kinds_outside n (suc k) j s (stored_columns k (s k) 0 (fields k) cells) (λ m d a b f. o m d (omega arith) (omega arith) f)
    ∙ columns_outside (fields k) 0 k j (s k) cells (λ d a b. o k d (omega arith) (omega arith) (omega arith))

-- every cell in no used row is kept
pub cells_kept : (s : Sheet) (cells : List ℕ) (j : ℕ) → ((k c : ℕ) → k < kinds → c < fields k → Outside j (place k c) (length (s k)))
    → get_or (stored s cells) j 0 ≡ get_or cells j 0
unfolding stored
cells_kept s cells j o = kinds_outside kinds 0 j s cells (λ m d a b f. o m d b f)

-- the cells of two kinds lie apart
end_of : ℕ → ℕ
end_of k = base k + fields k * limit k

kinds_apart : (a b : ℕ) → (a ≡ b → ⊥) → (end_of a ≤ base b) ⊎ (end_of b ≤ base a)
unfolding end_of
kinds_apart a b n = ⊎_elim (λ h. inl (base_before a b h)) (λ h. inr (base_before b a (omega arith))) (split a b)

-- a cell of one column is outside of every other
module _ (s : Sheet) (within : Within s) (k c i : ℕ) (kind : k < kinds) (few : c < fields k) (row : i < length (s k)) where
  here : ℕ
  here = place k c + i

  here_low : base k ≤ here
  unfolding here place
  here_low = omega arith

  here_high : here < end_of k
  unfolding here place end_of
  here_high = omega (arith, place_fits (base k) (fields k) (limit k) c (limit k) (base k + fields k * limit k) few (omega arith) (omega arith), within k kind)

  other_kind : (m d : ℕ) → m < kinds → d < fields m → (k ≡ m → ⊥) → Outside here (place m d) (length (s m))
  unfolding place end_of
  other_kind m d hm hd n =
      let f = place_fits (base m) (fields m) (limit m) d (length (s m)) (base m + fields m * limit m) hd (within m hm) (omega arith) in
      ⊎_elim (λ a. inl (omega (arith, here_high))) (λ a. inr (omega (arith, here_low))) (kinds_apart k m n)

  later_column : (d : ℕ) → c < d → Outside here (place k d) (length (s k))
  unfolding here place
  later_column d h =
      let p : suc c * limit k ≤ d * limit k = mul-le-mul_right (limit k) h in
      inl (omega (arith, suc-mul c (limit k), within k kind))

  value_there : (cells : List ℕ) → cell_count ≤ length cells → get_or (sets cells (place k c) (column c (s k))) here 0 ≡ get_or (get_or (s k) i []) c 0
  unfolding here column place
  value_there cells e =
      sets_inside (column c (s k)) cells (place k c) i (omega (arith, column_length c (s k)))
      (omega (arith, column_length c (s k), place_fits (base k) (fields k) (limit k) c (length (s k)) cell_count few (within k kind) (base_fits k kind)))
      ∙ get_or-map (λ (r : List ℕ). get_or r c 0) (s k) i []

  held_columns : (n d : ℕ) (cells : List ℕ) → d ≤ c → c < d + n → cell_count ≤ length cells
      → get_or (stored_columns k (s k) d n cells) here 0 ≡ get_or (get_or (s k) i []) c 0
  unfolding stored_columns
  held_columns zero d cells a b e = absurd (omega arith)
  held_columns (suc n) d cells a b e =
      by (ℕ_discrete d c) (λ l. held_columns n (suc d) (sets cells (place k d) (column d (s k))) l (omega arith)
      (omega (arith, length-sets cells (place k d) (column d (s k)))))
    where
      by : Dec (d ≡ c) → (suc d ≤ c → get_or (stored_columns k (s k) (suc d) n (sets cells (place k d) (column d (s k)))) here 0 ≡ get_or (get_or (s k) i []) c 0)
          → get_or (stored_columns k (s k) (suc d) n (sets cells (place k d) (column d (s k)))) here 0 ≡ get_or (get_or (s k) i []) c 0
      by (yes q) later =
          columns_outside n (suc d) k here (s k) (sets cells (place k d) (column d (s k))) (λ x y z. later_column x (omega arith))
          ∙ ap (λ (x : ℕ). get_or (sets cells (place k x) (column x (s k))) here 0) q
          ∙ value_there cells e
      by (no q) later = later (omega arith)

  held_kinds : (n m : ℕ) (cells : List ℕ) → m ≤ k → k < m + n → m + n ≤ kinds → cell_count ≤ length cells
      → get_or (stored_kinds s m n cells) here 0 ≡ get_or (get_or (s k) i []) c 0
  unfolding stored_kinds
  held_kinds zero m cells a b l e = absurd (omega arith)
  held_kinds (suc n) m cells a b l e =
      by (ℕ_discrete m k) (λ g. held_kinds n (suc m) (stored_columns m (s m) 0 (fields m) cells) g (omega arith) (omega arith)
      (omega (arith, columns_length (fields m) 0 m (s m) cells)))
    where
      by : Dec (m ≡ k) → (suc m ≤ k → get_or (stored_kinds s (suc m) n (stored_columns m (s m) 0 (fields m) cells)) here 0 ≡ get_or (get_or (s k) i []) c 0)
          → get_or (stored_kinds s (suc m) n (stored_columns m (s m) 0 (fields m) cells)) here 0 ≡ get_or (get_or (s k) i []) c 0
      by (yes q) later =
          kinds_outside n (suc m) here s (stored_columns m (s m) 0 (fields m) cells) (λ x d y z f. other_kind x d (omega arith) f (λ g. omega arith))
          ∙ ap (λ (x : ℕ). get_or (stored_columns x (s x) 0 (fields x) cells) here 0) q
          ∙ held_columns (fields k) 0 cells (omega arith) (omega arith) e
      by (no q) later = later (omega arith)

-- each number of a stored sheet stands in its own cell
pub cell_held : (s : Sheet) (cells : List ℕ) → Within s → cell_count ≤ length cells → (k c i : ℕ) → k < kinds → c < fields k → i < length (s k)
    → get_or (stored s cells) (place k c + i) 0 ≡ get_or (get_or (s k) i []) c 0
unfolding stored here
cell_held s cells w e k c i h f r = held_kinds s w k c i h f r kinds 0 cells (omega arith) (omega arith) (omega arith) e

kinds_length : (n k : ℕ) (s : Sheet) (cells : List ℕ) → length (stored_kinds s k n cells) ≡ length cells
unfolding stored_kinds
kinds_length zero k s cells = refl
kinds_length (suc n) k s cells = kinds_length n (suc k) s (stored_columns k (s k) 0 (fields k) cells) ∙ columns_length (fields k) 0 k (s k) cells

pub stored_length : (s : Sheet) (cells : List ℕ) → length (stored s cells) ≡ length cells
unfolding stored
stored_length s cells = kinds_length kinds 0 s cells

-- the used cells of a column are that column
pub column_held : (s : Sheet) (cells : List ℕ) → Within s → cell_count ≤ length cells → (k c : ℕ) → k < kinds → c < fields k
    → take (length (s k)) (drop (place k c) (stored s cells)) ≡ column c (s k)
unfolding column place
column_held s cells w e k c h f =
    let x = stored s cells in
    let p = place_fits (base k) (fields k) (limit k) c (length (s k)) cell_count f (w k h) (base_fits k h) in
    let n : length (take (length (s k)) (drop (place k c) x)) ≡ length (s k) =
    length-take-le (length (s k)) (drop (place k c) x) (omega (arith, length-drop (place k c) x, stored_length s cells)) in
    ext_get_or 0 (take (length (s k)) (drop (place k c) x)) (column c (s k)) (n ∙ sym (column_length c (s k)))
    (λ i l.
    get_or-take (length (s k)) (drop (place k c) x) i 0 (omega arith)
    ∙ get_or-drop (place k c) x i 0
    ∙ cell_held s cells w e k c i h f (omega arith)
    ∙ sym (get_or-map (λ (r : List ℕ). get_or r c 0) (s k) i []))

-- the sheet that was stored is held
row_held : (n c k i : ℕ) (cells row : List ℕ) → length row ≡ c + n → ((d : ℕ) → d < length row → get_or cells (place k d + i) 0 ≡ get_or row d 0)
    → held_row cells k i c n ≡ drop c row
unfolding held_row
row_held zero c k i cells row e h = sym (lib.ListN.drop_of_length-le row {i = c} (omega arith))
row_held (suc n) c k i cells row e h =
    let z : c + 1 ≡ suc c = omega arith in
    ap (λ (x : ℕ). x ∷ held_row cells k i (suc c) n) (h c (omega arith))
    ∙ ap (λ (t : List ℕ). get_or row c 0 ∷ t) (row_held n (suc c) k i cells row (omega arith) h ∙ ap (λ (x : ℕ). drop x row) (sym z))
    ∙ sym (drop_next row c (omega arith))

are_row : (k i : ℕ) (rows : List (List ℕ)) → AreRows k rows → i < length rows → IsRow k (get_or rows i [])
are_row k i [] a h = absurd (omega arith)
are_row k zero (row ∷ rows) a h = a.0
are_row k (suc i) (row ∷ rows) a h = are_row k i rows a.1 (omega arith)

rows_held : (n i k : ℕ) (cells : List ℕ) (rows : List (List ℕ)) → length rows ≡ i + n → AreRows k rows
    → ((d j : ℕ) → d < fields k → j < length rows → get_or cells (place k d + j) 0 ≡ get_or (get_or rows j []) d 0) → held_rows cells k i n ≡ drop i rows
unfolding held_rows
rows_held zero i k cells rows e a h = sym (lib.ListN.drop_of_length-le rows {i = i} (omega arith))
rows_held (suc n) i k cells rows e a h =
    let r = are_row k i rows a (omega arith) in
    let t : held_row cells k i 0 (fields k) ≡ get_or rows i [] = row_held (fields k) 0 k i cells (get_or rows i []) (omega (arith, r.count))
    (λ d l. h d i (omega (arith, r.count)) (omega arith)) in
    ap (λ (x : List ℕ). x ∷ held_rows cells k (suc i) n) t
    ∙ ap (λ (x : List (List ℕ)). get_or rows i [] ∷ x) (rows_held n (suc i) k cells rows (omega arith) a h)
    ∙ sym (lib.Seq.drop-cons rows i [] (omega arith))

pub sheet_held : (s : Sheet) (cells counts : List ℕ) → Within s → cell_count ≤ length cells → (k : ℕ) → k < kinds → AreRows k (s k)
    → get_or counts k 0 ≡ length (s k) → held (stored s cells) counts k ≡ s k
unfolding held
sheet_held s cells counts w e k h a n =
    rows_held (get_or counts k 0) 0 k (stored s cells) (s k) (omega arith) a (λ d j f r. cell_held s cells w e k d j h f r)

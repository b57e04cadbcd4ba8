-- Where the numbers of a sheet are kept: one cell a number, column by column.
-- Assumes nothing.
use Rattle.std.specs.Prelude.{ℕ, zero, suc, ◌+◌, ◌*◌, ◌≡◌, List, [], ◌∷◌, map, length, get_or, ltb, Result, Ok, Err, IfOk}
use Rattle.std.specs.Result.{result_map_both}
use Rattle.std.proofs.lemmas.List.Edits.{sets}
use Rattle.sheet.specs.Kinds.{pick, kinds, fields, limit, base, cell_count}
use Rattle.sheet.specs.Sheet.{Sheet}
use Rattle.sheet.specs.Refusal.{Verdict, verdict, sheet_of, Counted, said}
use Rattle.sheet.specs.declared.fill.ReadError.{ReadError}
use Rattle.sheet.specs.declared.fill.ReadError.TheVariants.{Refused, NoRoom}

-- where column c of kind k starts: each column has as many cells as the kind's limit
unfoldable pub place : ℕ → ℕ → ℕ
place k c = base k + c * limit k

-- where column c of kind k starts, or the end of the cells for a column that a kind does not have
unfoldable pub column_of : ℕ → ℕ → ℕ
column_of k c = pick (ltb c (fields k)) (place k c) cell_count

-- column c of some rows
unfoldable pub column : ℕ → List (List ℕ) → List ℕ
column c rows = map (λ (row : List ℕ). get_or row c 0) rows

-- the cells with n columns from column c on, of rows of kind k, each stored at its place
unfoldable pub stored_columns : ℕ → List (List ℕ) → ℕ → ℕ → List ℕ → List ℕ
stored_columns k rows c zero cells = cells
stored_columns k rows c (suc n) cells = stored_columns k rows (suc c) n (sets cells (place k c) (column c rows))

-- the cells with n kinds from kind k on stored
unfoldable pub stored_kinds : Sheet → ℕ → ℕ → List ℕ → List ℕ
stored_kinds s k zero cells = cells
stored_kinds s k (suc n) cells = stored_kinds s (suc k) n (stored_columns k (s k) 0 (fields k) cells)

-- the cells with a sheet stored
unfoldable pub stored : Sheet → List ℕ → List ℕ
stored s cells = stored_kinds s 0 kinds cells

-- the cells after a reading, by what it answers: only where the text is read are they stored
unfoldable pub cells_after : Result (List ℕ) ReadError → Sheet → List ℕ → List ℕ
cells_after (Ok counts) s cells = stored s cells
cells_after (Err e) s cells = cells

-- the verdict on a text as a reading has it
abbrev pub as_read : Verdict → Result (Unit {0}) ReadError
as_read v = result_map_both (λ u. u) Refused v

-- a reading: too few cells are no room, whatever the text; else the verdict is the text's, and the counts are its own
pub record Read (text before after : List ℕ) (r : Result (List ℕ) ReadError) : Type 0 where
  pub answer : said r ≡ pick (ltb (length before) cell_count) (Err NoRoom) (as_read (verdict text))
  pub cells : after ≡ cells_after r (sheet_of text) before
  pub counted : IfOk r (Counted text)

-- the sheet that the cells hold, by the counts: number c of row i of kind k is the cell i of column c
unfoldable pub held_row : List ℕ → ℕ → ℕ → ℕ → ℕ → List ℕ
held_row cells k i c zero = []
held_row cells k i c (suc n) = get_or cells (place k c + i) 0 ∷ held_row cells k i (suc c) n

unfoldable pub held_rows : List ℕ → ℕ → ℕ → ℕ → List (List ℕ)
held_rows cells k i zero = []
held_rows cells k i (suc n) = held_row cells k i 0 (fields k) ∷ held_rows cells k (suc i) n

unfoldable pub held : List ℕ → List ℕ → Sheet
held cells counts k = held_rows cells k 0 (get_or counts k 0)

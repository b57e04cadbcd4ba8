-- The job of the cells is that of the sheet that was read into them
use Prim.Native.Nat.{ℕ, ◌≤◌}
use mathlib.Core.Path.{◌≡◌, refl, sym, ap, ◌∙◌}
use native.Mathlib.Nat.{le_of_eq}
use native.Mathlib.Omega.{arith}
use mathlib.Core.List.{List, []}
use mathlib.Core.Bool.{Bool, true, false}
use lib.ListN.{length, get_or, replicate, length-replicate}
use lib.Dec.{ltb}
use borrow.Author.Tests.{le-ltb}
use Rattle.sheet.specs.Kinds.{pick, kind, kind_table, kind_p, kinds, kind_at, needed, cell_count}
use Rattle.sheet.specs.Refusal.{Verdict, verdict, sheet_of}
use Rattle.sheet.specs.Cells.{cells_after, as_read, Read}
use Rattle.sheet.specs.declared.kinds.Asked.TheVariants.{Any}
use Rattle.std.specs.Prelude.{Result, Ok, Err, IfOk}
use Rattle.sheet.specs.declared.check.BadLine.{BadLine}
use Rattle.sheet.specs.declared.fill.ReadError.{ReadError}
use Rattle.sheet.specs.declared.fill.ReadError.TheVariants.{Refused, NoRoom}
use Rattle.sheet.proofs.SoundLaws.{sound_sheet}
use Rattle.sheet.proofs.CellLaws.{stored_length}
use Rattle.sheet.proofs.Exact as exact
use Rattle.cells.specs.SheetJob.{ByKind, job_of_columns, columns_of, job_of_sheet, cells_column, IsColumn, InCells}
use Rattle.cells.proofs.CellColumns.{is_column}

-- numbers by kind and column, of the columns that kinds have
abbrev only : ByKind → ByKind
only f k c = pick (ltb k kinds) (pick (ltb c (get_or kind_table k (kind 0 0 0 Any)).fields) (f k c) []) []

only_same : (f g : ByKind) → ((k c : ℕ) → IsColumn k c → f k c ≡ g k c) → (k c : ℕ) → only f k c ≡ only g k c
only_same f g e k c = by (ltb k kinds) (ltb c (get_or kind_table k (kind 0 0 0 Any)).fields) refl refl
  where
    by : (a b : Bool) → ltb k kinds ≡ a → ltb c (get_or kind_table k (kind 0 0 0 Any)).fields ≡ b
        → pick a (pick b (f k c) []) [] ≡ pick a (pick b (g k c) []) []
    by true true p q = e k c (is_column k c p q)
    by true false p q = refl
    by false b p q = refl

-- the same columns make the same job, which looks at no others
pub job_same : (f g : ByKind) → ((k c : ℕ) → IsColumn k c → f k c ≡ g k c) → job_of_columns f ≡ job_of_columns g
job_same f g e =
    let same : only f ≡ only g = λ i k c. only_same f g e k c i in
    let looked : job_of_columns (only f) ≡ job_of_columns (only g) = ap job_of_columns same in
    looked

-- a sheet has its line P
needed_first : needed kind_p ≡ true
unfolding needed kind_at
needed_first = refl

module _ {text cells cells-now counts : List ℕ} (read : Read text cells cells-now (Ok counts)) where
  -- what a sheet was read into
  pub read_cells : InCells cells-now counts
  unfolding cells_after
  read_cells = record {
    room = omega (arith, exact.read_room text cells cells-now counts read, ap length read.cells, stored_length (sheet_of text) cells);
    one = read.counted.rows kind_p (omega arith)
        ∙ (sound_sheet text (exact.sound text cells cells-now counts read)).sheet.one kind_p (omega arith) needed_first;
    within = read.counted.within;
  }

  -- the job there
  pub read_job : job_of_columns (cells_column cells-now counts) ≡ job_of_sheet (sheet_of text)
  read_job =
      job_same (cells_column cells-now counts) (columns_of (sheet_of text))
      (λ k c i. exact.read_column text cells cells-now counts read k c i.kind i.field)

-- with as many cells as a sheet needs a refusal is the text's own
pub read_refusal : {text cells cells-now : List ℕ} {bad : BadLine} → Read text cells cells-now (Err (Refused bad)) → cell_count ≤ length cells
    → verdict text ≡ Err bad
read_refusal {text} {cells} {cells-now} {bad} read h = by (verdict text) (rw (le-ltb (length cells) cell_count h) at read.answer)
  where
    by : (v : Verdict) → Err (Refused bad) ≡ as_read v → v ≡ Err bad
    by (Ok u) e = let z : ◌≡◌ {A = ℕ} 0 1 = cc in absurd (omega arith)
    by (Err b) e = cc

-- and there is room
pub read_roomy : {text cells cells-now : List ℕ} → Read text cells cells-now (Err NoRoom) → cell_count ≤ length cells → ⊥
read_roomy {text} {cells} read h = by (verdict text) (rw (le-ltb (length cells) cell_count h) at read.answer)
  where
    by : (v : Verdict) → Err NoRoom ≡ as_read v → ⊥
    by (Ok u) e = let z : ◌≡◌ {A = ℕ} 0 1 = cc in omega arith
    by (Err b) e = let z : ◌≡◌ {A = ℕ} 0 1 = cc in omega arith

-- there are as many cells as a sheet needs
pub cells_enough : cell_count ≤ length {A = ℕ} (replicate cell_count 0)
cells_enough = le_of_eq (sym (length-replicate {A = ℕ} cell_count 0))

-- what was read, if it was, lies in the cells
pub read_within : {text cells cells-now : List ℕ} (r : Result (List ℕ) ReadError) → Read text cells cells-now r → IfOk r (λ counts. InCells cells-now counts)
read_within (Ok counts) read = read_cells read
read_within (Err e) read = tt

-- The columns that lie in the cells
use Prim.Native.Nat.{ℕ, ◌+◌, ◌-◌, ◌≤◌}
use mathlib.Core.Path.{◌≡◌, ◌∙◌, ap}
use mathlib.Core.List.{List}
use native.Mathlib.Omega.{arith}
use lib.ListN.{length, get_or, take, drop, length-drop}
use lib.Seq.{length-take-le}
use mathlib.Core.Bool.{true}
use lib.Dec.{ltb}
use borrow.Author.Tests.{lt-ltb, ltb-true}
use Rattle.sheet.specs.Kinds.{kind, kind_table, kinds, kind_at, fields, limit, base, cell_count}
use Rattle.sheet.specs.Cells.{place, column_of}
use Rattle.sheet.specs.declared.kinds.Asked.TheVariants.{Any}
use Rattle.sheet.proofs.KindLaws.{base_fits}
use Rattle.sheet.proofs.FillLaws.{place_fits}
use Rattle.cells.specs.SheetJob.{cells_column, IsColumn, InCells}

-- a column that a kind has, by looking
pub is_column : (k c : ℕ) → ltb k kinds ≡ true → ltb c (get_or kind_table k (kind 0 0 0 Any)).fields ≡ true → IsColumn k c
unfolding fields kind_at
is_column k c h f = record { kind = ltb-true k kinds h; field = ltb-true c (fields k) f }

-- where it starts
pub column_at : {k c : ℕ} → IsColumn k c → column_of k c ≡ place k c
unfolding column_of
column_at {k} {c} i = rw (lt-ltb c (fields k) i.field)

module _ {cells counts : List ℕ} (held : InCells cells counts) {k c : ℕ} (i : IsColumn k c) where
  place_inside : place k c + get_or counts k 0 ≤ length cells
  unfolding place
  place_inside =
      omega (
        arith,
        place_fits (base k) (fields k) (limit k) c (get_or counts k 0) cell_count i.field (held.within k i.kind) (base_fits k i.kind),
        held.room,
      )

  -- it lies inside
  pub column_inside : column_of k c + get_or counts k 0 ≤ length cells
  column_inside = omega (arith, place_inside, column_at i)

  -- it has as many numbers as the kind has rows
  pub column_long : length (cells_column cells counts k c) ≡ get_or counts k 0
  column_long = length-take-le (get_or counts k 0) (drop (place k c) cells) (omega (arith, place_inside, length-drop (place k c) cells))

  -- the part that is lent
  pub column_part : (from to : ℕ) → from ≡ column_of k c → to ≡ from + get_or counts k 0 → take (to - from) (drop from cells) ≡ cells_column cells counts k c
  column_part from to e f =
      let w : to - from ≡ get_or counts k 0 = omega arith in
      ap (λ (n : ℕ). take n (drop from cells)) w ∙ ap (λ (p : ℕ). take (get_or counts k 0) (drop p cells)) (e ∙ column_at i)

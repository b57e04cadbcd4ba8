-- The use table in its four lent columns
use Rattle.std.specs.Prelude.{◌≡◌, ℕ, ◌<◌, List, map, Float, length, get_or, set}
use Rattle.numbers.specs.Weight.{zero_weight}
use Rattle.columns.specs.Table.{filled}
use Rattle.use_rows.specs.declared.row.SplitUse.{SplitUse}

-- instructions, main, left and right weights
pub record UseColumns : Type 0 where
  pub insts : List ℕ
  pub mains : List Float
  pub lefts : List Float
  pub rights : List Float

abbrev pub use_columns : List ℕ → List Float → List Float → List Float → UseColumns
use_columns insts mains lefts rights = record { insts = insts; mains = mains; lefts = lefts; rights = rights }

-- a row that each of the columns has
pub record Inside (at : ℕ) (cols : UseColumns) : Type 0 where
  pub inst : at < length cols.insts
  pub main : at < length cols.mains
  pub left : at < length cols.lefts
  pub right : at < length cols.rights

-- the columns with a row stored
abbrev pub with_use : UseColumns → ℕ → SplitUse → UseColumns
with_use cols at u =
    use_columns (set cols.insts at u.inst.0) (set cols.mains at u.weight)
    (set cols.lefts at u.left_weight) (set cols.rights at u.right_weight)

-- the row that the columns hold
abbrev pub use_in : UseColumns → ℕ → SplitUse
use_in cols at =
    record {
      inst = record { 0 = get_or cols.insts at 0 };
      weight = get_or cols.mains at zero_weight;
      left_weight = get_or cols.lefts at zero_weight;
      right_weight = get_or cols.rights at zero_weight;
    }

-- the columns after their first rows are filled with a table
abbrev pub filled_with : List SplitUse → UseColumns → UseColumns
filled_with rows cols =
    use_columns (filled (map (λ (u : SplitUse). u.inst.0) rows) cols.insts) (filled (map (λ (u : SplitUse). u.weight) rows) cols.mains)
    (filled (map (λ (u : SplitUse). u.left_weight) rows) cols.lefts) (filled (map (λ (u : SplitUse). u.right_weight) rows) cols.rights)

-- the columns hold a table from their first row on, and past it what was there; so many of their rows are used
pub record Holds (rows : List SplitUse) (lent now : UseColumns) (used : ℕ) : Type 0 where
  pub cols : now ≡ filled_with rows lent
  pub count : used ≡ length rows

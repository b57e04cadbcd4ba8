-- Rows of the use table's columns
use Prim.Native.Nat.{ℕ, ◌≤◌}
use native.Mathlib.Omega.{arith}
use Rattle.use_rows.specs.UseColumns.{UseColumns, Inside}

-- what fits more rows fits fewer
pub inside_less : (m n : ℕ) (lent : UseColumns) → m ≤ n → Inside n lent → Inside m lent
inside_less m n lent h i =
    record {
      inst = let x = i.inst in omega (arith, h, x);
      main = let x = i.main in omega (arith, h, x);
      left = let x = i.left in
          omega (arith, h, x);
      right = let x = i.right in omega (arith, h, x);
    }

-- The use table's columns in the struct that holds them while they are filled
use Rattle.std.specs.Prelude.{ℕ}
use Rattle.use_rows.specs.declared.row.UseTable.{UseTable}
use Rattle.use_rows.specs.UseColumns.{UseColumns, use_columns}

-- the columns that it holds
abbrev pub columns_in : UseTable → UseColumns
columns_in t = use_columns t.inst.now t.weight.now t.left_weight.now t.right_weight.now

-- the columns that it was lent, by name, whatever stands in them: while these stay, what is stored in it stands in the lender's columns
abbrev pub lenders : UseTable → ℕ × ℕ × ℕ × ℕ
lenders t = (t.inst.ghost_name, t.weight.ghost_name, t.left_weight.ghost_name, t.right_weight.ghost_name)

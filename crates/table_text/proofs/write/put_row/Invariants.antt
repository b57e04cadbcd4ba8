-- `write::put_row` meets its contract. The invariant: the row begins with the fields of the columns passed.
use Rattle.std.proofs.Common.{◌≡◌, map, take, length}
use Rattle.table_text.specs.TablesText.{field_in}
use Rattle.table_text.specs.declared.write.Column.{Column}
use Rattle.table_text.proofs.write.put_row.Given as goal

abbrev pub invariant-loop-c : goal.invariant-loop-c
invariant-loop-c l = (length l.row ≡ 6) × (take l.c l.row ≡ map (λ (x : Column). field_in x l.i) (take l.c l.columns))

-- `write::put_rows` meets its contract. The invariant: the rows left, written behind those written, give what all give.
use Prim.Native.Nat.{◌+◌, ◌*◌, ◌-◌}
use mathlib.Core.Path.{◌≡◌}
use lib.Seq.{sets}
use Rattle.columns.specs.Below.{joined}
use Rattle.table_text.specs.TablesText.{row_line}
use Rattle.table_text.proofs.write.put_rows.Given as goal

abbrev pub invariant-loop-i : goal.invariant-loop-i
invariant-loop-i l =
    let line = row_line l.letter l.columns in
    sets l.out (l.at + l.width * l.i) (joined line l.i (l.rows - l.i)) ≡ sets l.initial.out l.at (joined line 0 l.rows)

-- `write::put_fields` meets its contract. The invariant: the fields left, written behind those written, give what all give.
-- Assumes nothing.
use Prim.Native.Nat.{◌+◌, ◌*◌}
use mathlib.Core.Path.{◌≡◌}
use lib.ListN.{drop}
use lib.Seq.{sets}
use Rattle.sheet.specs.Sheet.{fields_text}
use Rattle.sheet.proofs.write.put_fields.Given as goal

abbrev pub invariant-loop-n : goal.invariant-loop-n
invariant-loop-n l = (l.p ≡ l.at + 11 * l.n-index) × (sets l.out l.p (fields_text (drop l.n-index l.fields)) ≡ sets l.initial.out l.at (fields_text l.fields))

-- `field::put_number` meets its contract. The invariant: the columns left, stored into the buffer as it is, give what all ten give.
-- Assumes nothing.
use Prim.Native.Nat.{◌/◌}
use mathlib.Core.Path.{◌≡◌}
use lib.Seq.{sets}
use Rattle.sheet.specs.Field.{digits}
use Rattle.sheet.proofs.field.put_number.Given as goal

abbrev pub invariant-loop-i : goal.invariant-loop-i
invariant-loop-i l = sets l.out l.at (digits l.i l.left) ≡ sets l.initial.out l.at (digits 10 (l.n / 10))

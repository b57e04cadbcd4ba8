-- `check::check_text` meets its contract. The invariant: the verdict is that of the lines left, below those passed.
-- Assumes nothing.
use Prim.Native.Nat.{◌-◌}
use lib.ListN.{length}
use Rattle.sheet.proofs.CheckLaws.{Upto}
use Rattle.sheet.proofs.check.check_text.Given as goal

abbrev pub invariant-loop-at : goal.invariant-loop-at
invariant-loop-at l = Upto l.text l.counts l.lines l.latest l.at

abbrev pub decreases-loop-at : goal.decreases-loop-at
decreases-loop-at l = length l.text - l.at

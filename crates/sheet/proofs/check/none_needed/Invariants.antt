-- `check::none_needed` meets its contract. The invariant: none is needed exactly if none of the kinds left is.
-- Assumes nothing.
use Prim.Native.Nat.{◌-◌}
use mathlib.Core.Path.{◌≡◌}
use Rattle.sheet.specs.Refusal.{none_needed}
use Rattle.sheet.proofs.check.none_needed.Given as goal

abbrev pub invariant-loop-k : goal.invariant-loop-k
invariant-loop-k l = none_needed l.k (l.b - l.k) ≡ none_needed l.a (l.b - l.a)

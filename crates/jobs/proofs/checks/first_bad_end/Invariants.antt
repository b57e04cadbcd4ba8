-- `first_bad_end` finds the first bad end: no segment before i is bad
use mathlib.Core.Path.{◌≡◌}
use mathlib.Core.Bool.{false}
use Prim.Native.Nat.{ℕ, ◌<◌}
use Rattle.jobs.specs.Lines.{bad_end_by_last_at}
use Rattle.jobs.proofs.checks.first_bad_end.Given as goal

abbrev pub invariant-loop-i : goal.invariant-loop-i
invariant-loop-i l = (k : ℕ) → k < l.i → bad_end_by_last_at l.uses l.segments k ≡ false

-- `first_bad_use_of` finds the first bad use of the list: none from its first to before i is bad
use mathlib.Core.Path.{◌≡◌}
use mathlib.Core.Bool.{false}
use Prim.Native.Nat.{ℕ, ◌≤◌, ◌<◌}
use Rattle.jobs.specs.Lines.{bad_use_of}
use Rattle.use_checks.proofs.lines.first_bad_use_of.Given as goal

abbrev pub invariant-loop-i : goal.invariant-loop-i
invariant-loop-i l = ((k : ℕ) → l.s.first_use ≤ k → k < l.i → bad_use_of l.limits l.uses l.s k ≡ false)

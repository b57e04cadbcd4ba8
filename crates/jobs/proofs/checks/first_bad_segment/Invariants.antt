-- `first_bad_segment` finds the first bad segment: `last` is the segment before, and no segment before i is bad
use mathlib.Core.Path.{◌≡◌}
use mathlib.Core.Bool.{false}
use Prim.Native.Nat.{ℕ, ◌<◌}
use Rattle.jobs.specs.Rows.{no_segment}
use Rattle.columns.specs.Table.{row_before}
use Rattle.jobs.specs.Lines.{bad_segment}
use Rattle.jobs.proofs.checks.first_bad_segment.Given as goal

abbrev pub invariant-loop-i : goal.invariant-loop-i
invariant-loop-i l = (l.last ≡ row_before l.segments no_segment l.i) ×
    ((k : ℕ) → k < l.i → bad_segment l.limits l.segments k ≡ false)

-- `first_bad_fixed_use` finds the first bad fixed use: `last` is the row before, and no row before i is bad
use mathlib.Core.Path.{◌≡◌}
use mathlib.Core.Bool.{false}
use Prim.Native.Nat.{ℕ, ◌<◌}
use Rattle.jobs.specs.Rows.{no_fixed_use}
use Rattle.columns.specs.Table.{row_before}
use Rattle.jobs.specs.Lines.{bad_fixed_use_at}
use Rattle.jobs.proofs.checks.first_bad_fixed_use.Given as goal

abbrev pub invariant-loop-i : goal.invariant-loop-i
invariant-loop-i l = (l.last ≡ row_before l.fixed_uses no_fixed_use l.i) ×
    ((k : ℕ) → k < l.i → bad_fixed_use_at l.limits l.fixed_uses k ≡ false)

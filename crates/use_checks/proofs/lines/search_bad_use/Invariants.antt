-- `search_bad_use` finds the first bad use, list by list: no use of a list before i is bad
use mathlib.Core.Path.{◌≡◌}
use mathlib.Core.Bool.{false}
use Prim.Native.Nat.{ℕ, ◌<◌}
use Rattle.jobs.specs.Rows.{no_segment}
use Rattle.columns.specs.Table.{row_before}
use Rattle.jobs.specs.Lines.{bad_use_at}
use Rattle.use_checks.proofs.lines.search_bad_use.Given as goal

abbrev pub invariant-loop-i : goal.invariant-loop-i
invariant-loop-i l = ((u : ℕ) → u < (row_before l.segments no_segment l.i).end_use →
    bad_use_at l.limits l.uses l.segments u ≡ false)

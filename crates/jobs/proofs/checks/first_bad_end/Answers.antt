-- `first_bad_end` finds the first bad end: no segment before i is bad
use native.Mathlib.Omega.{arith}
use Rattle.columns.proofs.Firsts.{first_found}
use Rattle.jobs.proofs.checks.first_bad_end.Goals as goal

pub returns-then-end_is_bad : goal.returns-then-end_is_bad
returns-then-end_is_bad c = first_found _ _ c.loop-i.i (omega arith) c.loop-i.invariant (grind arith)

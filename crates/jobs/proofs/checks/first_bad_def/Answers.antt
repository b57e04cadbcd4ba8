-- `first_bad_def` finds the first bad fixed def: no segment before i is bad
use native.Mathlib.Omega.{arith}
use Rattle.columns.proofs.Firsts.{first_found}
use Rattle.jobs.proofs.checks.first_bad_def.Goals as goal

pub returns-then-def_is_bad : goal.returns-then-def_is_bad
returns-then-def_is_bad c = first_found _ _ c.loop-i.i (omega arith) c.loop-i.invariant (grind arith)

-- `number` keeps six digits
use Rattle.std.proofs.Common.{◌<◌}
use Rattle.sheet_cases.proofs.number.Given as goal

abbrev pub invariant-loop-b : goal.invariant-loop-b
invariant-loop-b l = l.n < 1000000

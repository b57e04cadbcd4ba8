-- `run` ends: each piece takes its head off the input
use Rattle.std.proofs.Common.{length}
use Rattle.sheet_cases.proofs.run.Given as goal

abbrev pub decreases-loop-head : goal.decreases-loop-head
decreases-loop-head g l = length l.rest

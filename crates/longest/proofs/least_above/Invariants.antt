-- `least_above` halves what is left between two bits: both stay within the bits of weights
use Rattle.std.proofs.Common.{◌≤◌, ◌-◌}
use Rattle.longest.proofs.least_above.Given as goal

abbrev pub invariant-loop-low : goal.invariant-loop-low
invariant-loop-low l = (l.low ≤ l.high) × (l.high ≤ 2139095040)

abbrev pub decreases-loop-low : goal.decreases-loop-low
decreases-loop-low l = l.high - l.low

-- `sweep` reaches the last place that lower links reach: its state after t blocks is a sweep of `Following`
use Rattle.links.proofs.Following.{Sweep}
use Rattle.links.proofs.split.sweep.Given as goal

abbrev pub invariant-loop-t : goal.invariant-loop-t
invariant-loop-t l = Sweep l.side l.freq l.edges l.limit.0 l.initial.split.0 l.at l.t l.split.0 l.least

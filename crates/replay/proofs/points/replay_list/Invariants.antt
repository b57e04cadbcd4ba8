-- `replay_list` counts a call at each turn, and its calls stay within a file's room
use Rattle.std.proofs.Common.{◌≤◌, ◌<◌, ◌+◌}
use Rattle.replay.proofs.points.replay_list.Given as goal

abbrev pub invariant-loop-call : goal.invariant-loop-call
invariant-loop-call g l = (l.made.all ≤ l.call-counter) × (l.made.agree ≤ l.made.all) × (l.made.bytes ≤ 1100000) × (l.calls < 1000000)
    × (l.at ≤ 1048576 → l.at + l.made.bytes ≤ 1100000)

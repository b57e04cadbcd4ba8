-- `live_insts` goes through the segments with where the one before ended and the sum so far, which lies before that
use mathlib.Core.Path.{◌≡◌}
use Rattle.columns.specs.Below.{sum_below}
use Rattle.overlaps.specs.Live.{live_of}
use Rattle.overlaps.proofs.LiveLaws.{last_of}
use Rattle.overlaps.proofs.live.live_insts.Given as goal

abbrev pub invariant-loop-i : goal.invariant-loop-i
invariant-loop-i l = (l.last.0 ≡ last_of l.end l.i) × (l.sum ≡ sum_below (live_of l.start l.end) l.i)

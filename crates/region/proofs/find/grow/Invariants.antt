-- `grow` tries the own gap and then the side whose turn it is: a try is due, and the walkers stand right for it
use Rattle.growth.specs.Columns.{state_of}
use Rattle.growth.proofs.Tries.{left_to_try}
use Rattle.region.specs.Find.{seen_of, Due, Reached}
use Rattle.region.proofs.find.grow.Given as goal

abbrev pub invariant-grow : goal.invariant-grow
invariant-grow l =
    Due (seen_of l.register l.reserved l.segments l.gaps l.initial' l.k) l.growth l.side
    × Reached l.register l.reserved l.segments l.growth l.walkers

abbrev pub decreases-grow : goal.decreases-grow
decreases-grow l = left_to_try (seen_of l.register l.reserved l.segments l.gaps l.initial' l.k) (state_of l.growth)

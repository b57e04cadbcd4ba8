-- `steps_to` passes the blocks that end before the instruction
use Prim.Native.Nat.{◌+◌, ◌-◌, ◌≤◌}
use Rattle.links.specs.Blocks.{block_in}
use Rattle.links.proofs.blocks.steps_to.Given as goal

abbrev pub invariant-loop-steps : goal.invariant-loop-steps
invariant-loop-steps l = l.first + l.steps ≤ block_in l.end l.n l.inst.0

abbrev pub decreases-loop-steps : goal.decreases-loop-steps
decreases-loop-steps l = block_in l.end l.n l.inst.0 - (l.first + l.steps)

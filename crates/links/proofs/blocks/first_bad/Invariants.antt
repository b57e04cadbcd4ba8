-- `first_bad` finds the first bad block: `start` is where block i has to start, and no block before i is bad
use mathlib.Core.Path.{◌≡◌}
use mathlib.Core.Bool.{false}
use Prim.Native.Nat.{ℕ, ◌≤◌, ◌<◌}
use Rattle.links.specs.Blocks.{blocks_of, start_of, bad_block}
use Rattle.links.proofs.blocks.first_bad.Given as goal

abbrev pub invariant-loop-i : goal.invariant-loop-i
invariant-loop-i l = (l.i ≤ l.n) × (l.start ≡ start_of (blocks_of l.freq l.first l.end) l.i) × ((k : ℕ) → k < l.i → bad_block (blocks_of l.freq l.first l.end) k ≡ false)

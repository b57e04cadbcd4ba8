-- `first_at_least` finds the first place: all before `base` are below x, and all from `base + size` on are not, since the column does
-- not fall
use mathlib.Core.List.{List}
use Prim.Native.Nat.{ℕ, ◌+◌, ◌≤◌, ◌<◌}
use lib.ListN.{get_or}
use Rattle.columns.specs.First.{Rising}
use Rattle.columns.proofs.search.first_at_least.Given as goal

-- the first place lies from base on, and at most at base + size
pub record Between (col : List ℕ) (lo hi x base size : ℕ) : Type 0 where
  pub some : 0 < size
  pub from : lo ≤ base
  pub to : base + size ≤ hi
  pub passed : Rising col lo hi → (k : ℕ) → lo ≤ k → k < base → get_or col k 0 < x
  pub reached : Rising col lo hi → (k : ℕ) → base + size ≤ k → k < hi → x ≤ get_or col k 0

abbrev pub invariant-loop-size : goal.invariant-loop-size
invariant-loop-size l = Between l.col l.lo l.hi l.x l.base l.size

abbrev pub decreases-loop-size : goal.decreases-loop-size
decreases-loop-size l = l.size

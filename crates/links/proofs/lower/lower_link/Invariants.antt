-- `lower_link` finds the link: every block between b and j is passed, and a block that is not lower is passed together with all that its own link passes
use mathlib.Core.Path.{◌≡◌}
use mathlib.Core.Bool.{false, cond}
use mathlib.Core.List.{List}
use Prim.Native.Nat.{ℕ, ◌<◌}
use lib.Dec.{ltb}
use lib.ListN.{length}
use Rattle.links.specs.Links.{is_lower, LiesBeyond}
use Rattle.links.specs.declared.lower.Side.{Side}
use Rattle.links.specs.declared.lower.Side.TheVariants.{Previous, Next}
use Rattle.links.proofs.Linking.{remaining}
use Rattle.links.proofs.lower.lower_link.Given as goal

-- the walk's side, by where it starts
unfoldable pub side_from : ℕ → ℕ → Side
side_from b j = cond (ltb j b) Previous Next

-- the walk from block b stands at j, beyond b or past the list, and has passed every block between
pub record Walk (side : Side) (f : List ℕ) (b j : ℕ) : Type 0 where
  pub onward : j < length f → LiesBeyond side b j
  pub passed : (k : ℕ) → k < length f → LiesBeyond side b k → (j < length f → LiesBeyond side k j) → is_lower f b k ≡ false

abbrev pub invariant-loop-j : goal.invariant-loop-j
invariant-loop-j l = Walk (side_from l.b l.initial.j) l.freq l.b l.j

abbrev pub decreases-loop-j : goal.decreases-loop-j
decreases-loop-j l = remaining (side_from l.b l.initial.j) l.n l.j

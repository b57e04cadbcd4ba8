-- `count_cuts` counts: what it has counted and the cuts left are all cuts
use mathlib.Core.Path.{◌≡◌}
use mathlib.Core.List.{List}
use Prim.Native.Nat.{ℕ, ◌+◌, ◌≤◌, ◌<◌}
use lib.ListN.{length}
use Rattle.links.specs.Links.{beside}
use Rattle.links.specs.declared.lower.Side.{Side}
use Rattle.gaps.specs.Cutting.{Leads, followed, cuts_in}
use Rattle.gaps.proofs.cutting.count_cuts.Given as goal

-- n cuts are counted, and the walk stands at block b with steps left
pub record Counting (side : Side) (links : List ℕ) (last b₀ b n : ℕ) : Type 0 where
  pub leads : Leads side links
  pub inside : b < length links
  pub fuel : ℕ
  pub enough : beside side (length links) b ≤ fuel
  pub counts : n + length (followed side links last fuel b) ≡ length (cuts_in side links last b₀)

abbrev pub invariant-loop-lower : goal.invariant-loop-lower
invariant-loop-lower l = Counting l.side l.links l.last.0 l.initial.b.0 l.b.0 l.n

abbrev pub decreases-loop-lower : goal.decreases-loop-lower
decreases-loop-lower l = beside l.side (length l.links) l.b.0

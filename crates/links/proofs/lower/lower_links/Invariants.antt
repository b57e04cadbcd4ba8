-- `lower_links` fills the column: after t blocks those that are done have their links, and rows past the blocks are as they were
use mathlib.Core.Path.{◌≡◌}
use mathlib.Core.List.{List}
use Prim.Native.Nat.{ℕ, ◌≤◌, ◌<◌}
use lib.ListN.{length, get_or}
use Rattle.links.specs.Links.{lower_link}
use Rattle.links.specs.declared.lower.Side.{Side}
use Rattle.links.proofs.Linking.{Done}
use Rattle.links.proofs.lower.lower_links.Given as goal

pub record Linked (side : Side) (f lent links : List ℕ) (t : ℕ) : Type 0 where
  pub counted : t ≤ length f
  pub long : length links ≡ length lent
  pub done : (k : ℕ) → k < length f → Done side (length f) t k → get_or links k 0 ≡ lower_link side f k
  pub rest : (k : ℕ) → length f ≤ k → get_or links k 0 ≡ get_or lent k 0

abbrev pub invariant-loop-t : goal.invariant-loop-t
invariant-loop-t l = Linked l.side l.freq l.initial.links l.links l.t

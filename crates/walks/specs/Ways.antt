-- The way to a side, which a walk goes: what comes before what, the row ahead of a place, what a place has passed
use Rattle.std.specs.Prelude.{ℕ, ◌+◌, ◌-◌, ◌≤◌, ◌<◌, Bool, ◌&&◌, List, ltb, eqb, get_or}
use Rattle.links.specs.declared.lower.Side.{Side}
use Rattle.links.specs.declared.lower.Side.TheVariants.{Previous, Next}
use Rattle.links.specs.Links.{on_side}

-- the other side
abbrev pub other_side : Side → Side
other_side Previous = Next
other_side Next = Previous

-- on the way to a side a comes no later than b: to the left b ≤ a, to the right a ≤ b
pub record Upto (side : Side) (a b : ℕ) : Type 0 where
  pub is : on_side side b a ≤ on_side side a b

-- it comes before b
pub record Before (side : Side) (a b : ℕ) : Type 0 where
  pub is : on_side side b a < on_side side a b

-- of a stretch from one number to another, the end that comes first, and the one that comes last
abbrev pub first_end : Side → ℕ → ℕ → ℕ
first_end side from to = on_side side to from

abbrev pub last_end : Side → ℕ → ℕ → ℕ
last_end side from to = on_side side from to

-- place i stands between rows i - 1 and i. Row k lies ahead of it: to the left k < i, to the right i ≤ k
pub record Ahead (side : Side) (i k : ℕ) : Type 0 where
  pub is : on_side side (k + 1) i ≤ on_side side i k

-- or it was passed: to the left i ≤ k, to the right k < i
pub record Behind (side : Side) (i k : ℕ) : Type 0 where
  pub is : on_side side i (k + 1) ≤ on_side side k i

-- one of n rows lies ahead: to the left 0 < i, to the right i < n
pub record AnyAhead (side : Side) (i n : ℕ) : Type 0 where
  pub is : on_side side 0 i < on_side side i n

abbrev pub any_ahead : Side → ℕ → ℕ → Bool
any_ahead side i n = on_side side (ltb 0 i) (ltb i n)

-- the first row ahead, and the place behind it
abbrev pub row_ahead : Side → ℕ → ℕ
row_ahead side i = on_side side (i - 1) i

abbrev pub place_behind : Side → ℕ → ℕ
place_behind side i = on_side side (i - 1) (i + 1)

-- one of n rows lies ahead, and the first has the number x in a column
abbrev pub ahead_is : Side → List ℕ → ℕ → ℕ → ℕ → Bool
ahead_is side column n i x = any_ahead side i n && eqb (get_or column (row_ahead side i) 0) x

-- Lower links: the nearest block of strictly lower frequency on a side
use Rattle.std.specs.Prelude.{ℕ, ◌+◌, ◌-◌, ◌<◌, ◌≤◌, ◌≡◌, Bool, true, false, cond, List, ltb, eqb, length, get_or, Option, Some, None}
use Rattle.std.specs.Float.Ieee.{lt}
use Rattle.numbers.specs.Weight.{frequency_limit, value_of}
use Rattle.links.specs.Blocks.{item_limit}
use Rattle.columns.specs.First.{first_below}
use Rattle.columns.specs.Table.{table}
use Rattle.links.specs.declared.lower.Side.{Side}
use Rattle.links.specs.declared.lower.Side.TheVariants.{Previous, Next}
use Rattle.numbers.specs.declared.Block.{Block}

-- how many of n blocks lie on a side of block b
abbrev pub beside : Side → ℕ → ℕ → ℕ
beside Previous n b = b
beside Next n b = n - (b + 1)

-- the block on a side of block b with t blocks between
abbrev pub beyond : Side → ℕ → ℕ → ℕ
beyond Previous b t = b - (t + 1)
beyond Next b t = b + 1 + t

-- the link of a block that has none
abbrev pub absent : ℕ
absent = 4294967295

-- block k's frequency is strictly lower than block b's, as binary32 values
unfoldable pub is_lower : List ℕ → ℕ → ℕ → Bool
is_lower freqs b k = lt (value_of frequency_limit (get_or freqs k 0)) (value_of frequency_limit (get_or freqs b 0))

-- a lower link: the nearest block of strictly lower frequency on its side, absent if none is lower
unfoldable pub lower_link : Side → List ℕ → ℕ → ℕ
lower_link side freqs b =
    let n = beside side (length freqs) b in
    let t = first_below (λ (t : ℕ). is_lower freqs b (beyond side b t)) n in
    cond (ltb t n) (beyond side b t) absent

-- block k lies on a side of block b
abbrev pub LiesBeyond : Side → ℕ → ℕ → Type 0
LiesBeyond Previous b k = k < b
LiesBeyond Next b k = b < k

-- link v of block b, as document 01 says what it names: the nearest block of strictly lower frequency on its side; absent exactly if none
-- is lower
pub record IsLink (side : Side) (freqs : List ℕ) (b v : ℕ) : Type 0 where
  -- no block on the side that is nearer than v is lower; none at all, if v is no block
  pub passed : (k : ℕ) → k < length freqs → LiesBeyond side b k → (v < length freqs → LiesBeyond side k v) → is_lower freqs b k ≡ false
  -- a block lies on the side, and is lower
  pub found : v < length freqs → (LiesBeyond side b v) × (is_lower freqs b v ≡ true)
  -- what is no block is the mark for absent
  pub gone : length freqs ≤ v → v ≡ absent

-- all lower links of a side
abbrev pub link_column : Side → List ℕ → List ℕ
link_column side freqs = table (lower_link side freqs) (length freqs)

-- the answer to a link as it is stored
abbrev pub link_answer : ℕ → Option Block
link_answer link = cond (eqb link absent) None (Some (record { 0 = link }))

-- what linking relies on, of a block list that the checks have passed and a lent column with room for it
pub record Frequencies (freqs : List ℕ) (room : ℕ) : Type 0 where
  pub few : length freqs ≤ item_limit
  pub long : length freqs ≤ room
  pub sound : (k : ℕ) → k < length freqs → get_or freqs k 0 ≤ frequency_limit

-- what holds on the side Previous and what holds on the side Next
abbrev pub on_side : {A : Type 0} → Side → A → A → A
on_side Previous left right = left
on_side Next left right = right

-- ---- for contracts of private functions
-- the block that is linked after t others: those farthest on the side come first
abbrev pub nth : Side → ℕ → ℕ → ℕ
nth Previous n t = t
nth Next n t = n - (t + 1)

-- linking relies on that, and each block beyond block b on a side has its link
pub record LinkedBeyond (side : Side) (freqs links : List ℕ) (b : ℕ) : Type 0 where
  pub inside : b < length freqs
  pub given : Frequencies freqs (length links)
  pub done : (k : ℕ) → k < length freqs → LiesBeyond side b k → get_or links k 0 ≡ lower_link side freqs k

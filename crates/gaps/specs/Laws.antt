-- The words of the laws of gaps: gaps that tile, the least frequency and its block, weights that are placed
use Rattle.std.specs.Prelude.{◌≡◌, ℕ, ◌+◌, ◌-◌, ◌≤◌, ◌<◌, false, cond, List, [], ◌∷◌, leb, Float, length}
use Rattle.std.specs.Float.Ieee.{lt}
use Rattle.links.specs.Blocks.{BlockRow, block_at, block_of}
use Rattle.use_rows.specs.declared.row.SplitUse.{SplitUse}
use Rattle.gaps.specs.Gaps.{Gap, frequency_of}

-- gaps tile the instructions from one to before another: each begins where the one before ends, and none is empty
abbrev pub Run : ℕ → ℕ → List Gap → Type 0
Run lo hi [] = lo ≡ hi
Run lo hi (g ∷ gs) = (g.from ≡ lo) × (g.from < g.to) × Run g.to hi gs

-- a gap meets a block: an instruction is in both
pub record MeetsBlock (blocks : List BlockRow) (g : Gap) (b : ℕ) : Type 0 where
  pub block : b < length blocks
  pub inst : ℕ
  pub in_gap : (g.from ≤ inst) × (inst < g.to)
  pub in_block : ((block_at blocks b).first ≤ inst) × (inst < (block_at blocks b).end)

-- a gap's block is one that the gap meets, it carries the gap's frequency, and no block that the gap meets has a lower one
pub record Least (blocks : List BlockRow) (g : Gap) : Type 0 where
  pub meets : MeetsBlock blocks g g.block
  pub carries : frequency_of blocks g.block ≡ g.freq
  pub least : (b : ℕ) → MeetsBlock blocks g b → lt (frequency_of blocks b) g.freq ≡ false

-- which block it is: the last that the gap meets left of an instruction, otherwise the first
abbrev pub nearest_block : List BlockRow → ℕ → Gap → ℕ
nearest_block blocks best g = cond (leb g.to best) (block_of blocks (g.to - 1)) (block_of blocks g.from)

-- whatever measures a weight by a number: the measure of weights, of the weights placed in gaps, and of a row's left, main and right weight
abbrev pub measure : (Float → ℕ) → List Float → ℕ
measure f [] = 0
measure f (w ∷ ws) = f w + measure f ws

abbrev pub placed : (Float → ℕ) → List Gap → ℕ
placed f [] = 0
placed f (g ∷ gs) = measure f g.weights + placed f gs

abbrev pub row_measure : (Float → ℕ) → SplitUse → ℕ
row_measure f u = f u.left_weight + f u.weight + f u.right_weight

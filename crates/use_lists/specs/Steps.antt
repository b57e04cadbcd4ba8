-- The blocks of the listed uses, one after the other: from which block to which the step to a use goes
use Rattle.std.specs.Prelude.{ℕ, zero, suc, List, get_or}
use Rattle.links.specs.Blocks.{block_in}
use Rattle.jobs.specs.Rows.{no_use}
use Rattle.jobs.specs.declared.rows.Use.{Use}

-- the number before number i, 0 before the first
abbrev pub number_before : (ℕ → ℕ) → ℕ → ℕ
number_before b zero = 0
number_before b (suc i) = b i

-- the block of use u, in the column of ends
abbrev pub block_in_use : List ℕ → ℕ → List Use → ℕ → ℕ
block_in_use ends n uses u = block_in ends n (get_or uses u no_use).position

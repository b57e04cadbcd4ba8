-- The gap table in its six lent columns
use Rattle.std.specs.Prelude.{◌≡◌, ℕ, ◌≤◌, List, map, Float, length}
use Rattle.columns.specs.Table.{filled}
use Rattle.overlaps.specs.Live.{live_column}
use Rattle.overlaps.specs.GapSegments.{Overlap, gap_segments}
use Rattle.gaps.specs.Gaps.{Gap, gap_weight}

-- the gaps' first instructions, and the instructions after their last
abbrev pub froms_of : List Gap → List ℕ
froms_of gaps = map (λ (g : Gap). g.from) gaps

abbrev pub tos_of : List Gap → List ℕ
tos_of gaps = map (λ (g : Gap). g.to) gaps

-- the gaps' live instructions, and their gap segments, of segments in columns
abbrev pub lives_of : List Gap → List ℕ → List ℕ → List ℕ
lives_of gaps starts ends = live_column starts ends (froms_of gaps) (tos_of gaps)

abbrev pub gap_segments_of : List Gap → List ℕ → List ℕ → List ℕ → List Overlap
gap_segments_of gaps starts ends values = gap_segments (froms_of gaps) (tos_of gaps) starts ends values

-- the gaps' frequencies, and the blocks that carry them
abbrev pub min_freqs_of : List Gap → List Float
min_freqs_of gaps = map (λ (g : Gap). g.freq) gaps

abbrev pub gap_blocks_of : List Gap → List ℕ
gap_blocks_of gaps = map (λ (g : Gap). g.block) gaps

-- instructions from and to, weights, live instructions, frequencies and their blocks
pub record GapColumns : Type 0 where
  pub froms : List ℕ
  pub tos : List ℕ
  pub weights : List Float
  pub lives : List ℕ
  pub freqs : List Float
  pub blocks : List ℕ

-- the six as one
abbrev pub gap_columns : List ℕ → List ℕ → List Float → List ℕ → List Float → List ℕ → GapColumns
gap_columns froms tos weights lives freqs blocks =
    record { froms = froms; tos = tos; weights = weights; lives = lives; freqs = freqs; blocks = blocks }

-- the columns have n rows
pub record Rows (n : ℕ) (cols : GapColumns) : Type 0 where
  pub from : n ≤ length cols.froms
  pub to : n ≤ length cols.tos
  pub weight : n ≤ length cols.weights
  pub live : n ≤ length cols.lives
  pub freq : n ≤ length cols.freqs
  pub block : n ≤ length cols.blocks

-- the gap table: its columns hold gaps, and the live instructions that segments have in them, from their first row on, and past them what was
-- there; so many rows are used
pub record GapsHeld (gaps : List Gap) (starts ends : List ℕ) (lent now : GapColumns) (used : ℕ) : Type 0 where
  pub count : used ≡ length gaps
  pub from : now.froms ≡ filled (froms_of gaps) lent.froms
  pub to : now.tos ≡ filled (tos_of gaps) lent.tos
  pub weight : now.weights ≡ filled (map gap_weight gaps) lent.weights
  pub live : now.lives ≡ filled (lives_of gaps starts ends) lent.lives
  pub freq : now.freqs ≡ filled (min_freqs_of gaps) lent.freqs
  pub block : now.blocks ≡ filled (gap_blocks_of gaps) lent.blocks

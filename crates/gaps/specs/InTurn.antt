-- Gaps first, then counts: the two operations that document 02's E10 makes one, each as what it made of the lent columns
use Rattle.std.specs.Prelude.{List, map, ℕ, ◌+◌, get_or}
use Rattle.columns.specs.Table.{table, filled}
use Rattle.overlaps.specs.Live.{live_in_gap}
use Rattle.gaps.specs.Gaps.{Gap, gap_weight}
use Rattle.gaps.specs.GapColumns.{GapColumns, gap_columns, froms_of, tos_of, min_freqs_of, gap_blocks_of}

-- the gap table built: a row for each gap, in which no live instructions are counted yet
abbrev pub gaps_built : List Gap → GapColumns → GapColumns
gaps_built gaps c =
    gap_columns (filled (froms_of gaps) c.froms) (filled (tos_of gaps) c.tos) (filled (map gap_weight gaps) c.weights)
    (filled (map (λ (g : Gap). 0) gaps) c.lives) (filled (min_freqs_of gaps) c.freqs) (filled (gap_blocks_of gaps) c.blocks)

-- live instructions counted in a table of n rows: to each row are added those that segments have from its first instruction to before its end
abbrev pub lives_counted : List ℕ → List ℕ → ℕ → GapColumns → GapColumns
lives_counted starts ends n c =
    gap_columns c.froms c.tos c.weights
    (filled (table (λ (g : ℕ). get_or c.lives g 0 + live_in_gap starts ends (get_or c.froms g 0) (get_or c.tos g 0)) n) c.lives)
    c.freqs c.blocks

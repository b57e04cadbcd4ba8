-- Cases by hand, which the definitions compute
use mathlib.Core.Path.{◌≡◌, refl}
use mathlib.Core.List.{[], ◌∷◌}
use Rattle.columns.specs.Table.{table}
use Rattle.columns.specs.Below.{sum_below, joined}
use Rattle.overlaps.specs.Live.{live_insts, live_column}
use Rattle.overlaps.specs.GapSegments.{overlap_with, overlaps_of, gap_segments}

-- document 01's case A: from point 2 to 14 there are four live instructions, one in the first gap and three in the second
pub one_segment : live_insts (2 ∷ []) (14 ∷ []) ≡ 4
unfolding sum_below
one_segment = refl

pub two_gaps : live_column (2 ∷ []) (14 ∷ []) (0 ∷ 1 ∷ []) (1 ∷ 4 ∷ []) ≡ 1 ∷ 3 ∷ []
unfolding sum_below table
two_gaps = refl

-- an instruction that two segments share counts once: points 2 to 5 and 6 to 9 are in instructions 0 to 2
pub shared : live_insts (2 ∷ 6 ∷ []) (5 ∷ 9 ∷ []) ≡ 3
unfolding sum_below
shared = refl

-- a segment cut at a gap's end
pub cut : gap_segments (0 ∷ 1 ∷ []) (1 ∷ 4 ∷ []) (2 ∷ []) (14 ∷ []) (7 ∷ [])
    ≡ record { from = 2; to = 4; value = 7; gap = 0 } ∷ record { from = 4; to = 14; value = 7; gap = 1 } ∷ []
unfolding joined overlap_with overlaps_of
cut = refl

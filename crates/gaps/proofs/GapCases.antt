-- Gaps that the definition gives, by computation: answers of the Rust with cuts on both sides, and weights whose order decides; the Rust names no blocks
use mathlib.Core.Path.{◌≡◌, refl}
use Prim.Native.Nat.{ℕ}
use mathlib.Core.List.{List, [], ◌∷◌, map}
use lib.Ieee.{binary32, to_bits, of_bits, add, round, lt}
use Rattle.numbers.specs.Weight.{value_of, weight_limit}
use Rattle.columns.specs.First.{first_below}
use Rattle.links.specs.Blocks.{BlockRow, block_of}
use Rattle.links.specs.Links.{is_lower, lower_link}
use Rattle.links.specs.Split.{follow}
use Rattle.use_rows.specs.Uses.{frequency_at}
use Rattle.columns.specs.Below.{joined}
use Rattle.use_rows.specs.declared.row.SplitUse.{SplitUse}
use Rattle.gaps.specs.Gaps.{Gap, gap_weight, cut_gaps, cuts, gaps_between, gaps_of}
use Rattle.numbers.specs.Sum.{plus}

-- a row of the use table from its numbers, weights by their bits
row : ℕ → ℕ → ℕ → ℕ → SplitUse
unfolding value_of of_bits
row inst main left right =
    record {
      inst = record { 0 = inst };
      weight = value_of weight_limit main;
      left_weight = value_of weight_limit left;
      right_weight =
          value_of weight_limit right;
    }

-- a gap as numbers: from, to, the bits of its weight and of its frequency, and the block that carries it
shown : Gap → List ℕ
unfolding to_bits plus add round
shown g = g.from ∷ g.to ∷ to_bits binary32 (gap_weight g) ∷ to_bits binary32 g.freq ∷ g.block ∷ []

table_of : List BlockRow → List SplitUse → ℕ → List (List ℕ)
unfolding gaps_of gaps_between cuts cut_gaps joined follow lower_link is_lower first_below block_of frequency_at value_of of_bits lt
table_of blocks uses best = map shown (gaps_of blocks uses best)

-- two cuts on the left, one on the right, where a right weight stands before the cut
two_one : table_of (record { frequency = 2; first = 0; end = 5 } ∷ record { frequency = 8388609; first = 5; end = 6 } ∷ record
    { frequency = 0; first = 6; end = 7 } ∷ record { frequency = 1065353216; first = 7; end = 12 } ∷ record { frequency = 2; first = 12; end = 17 } ∷ [])
    (row 0 0 0 2 ∷ row 3 131072 0 0 ∷ row 6 0 0 0 ∷ row 10 36654633 0 1065353216 ∷ row 12 131072 0 0 ∷ []) 3
    ≡ (0 ∷ 3 ∷ 2 ∷ 2 ∷ 0 ∷ []) ∷ (3 ∷ 5 ∷ 131072 ∷ 2 ∷ 0 ∷ []) ∷ (5 ∷ 6 ∷ 0 ∷ 8388609 ∷ 1 ∷ []) ∷ (6 ∷ 7 ∷ 0 ∷ 0 ∷ 2 ∷ []) ∷ (7 ∷ 10 ∷ 0 ∷ 1065353216 ∷ 3 ∷ [])
    ∷ (10 ∷ 11 ∷ 36654633 ∷ 1065353216 ∷ 3 ∷ []) ∷ (11 ∷ 12 ∷ 1065353216 ∷ 1065353216 ∷ 3 ∷ []) ∷ (12 ∷ 13 ∷ 131072 ∷ 2 ∷ 4 ∷ []) ∷ []
unfolding table_of shown row
two_one = refl

-- two cuts on either side; an equal block is no cut
two_two : table_of (record { frequency = 2122317824; first = 0; end = 1 } ∷ record { frequency = 2139095038; first = 1; end = 3 } ∷ record
    { frequency = 2139095039; first = 3; end = 6 } ∷ record { frequency = 2130706432; first = 6; end = 9 } ∷ record
    { frequency = 2130706432; first = 9; end = 11 } ∷ record { frequency = 2122317824; first = 11; end = 12 } ∷ record
    { frequency = 1065353216; first = 12; end = 13 } ∷ record { frequency = 2139095038; first = 13; end = 15 } ∷ [])
    (row 0 0 0 0 ∷ row 4 2139095039 0 0 ∷ row 5 2130706431 0 0 ∷ row 7 0 0 2130706432 ∷ row 14 0 0 0 ∷ []) 1
    ≡ (0 ∷ 1 ∷ 0 ∷ 2122317824 ∷ 0 ∷ []) ∷ (1 ∷ 3 ∷ 0 ∷ 2139095038 ∷ 1 ∷ []) ∷ (3 ∷ 4 ∷ 0 ∷ 2139095039 ∷ 2 ∷ [])
    ∷ (4 ∷ 5 ∷ 2139095039 ∷ 2139095039 ∷ 2 ∷ []) ∷ (5 ∷ 6 ∷ 2130706431 ∷ 2139095039 ∷ 2 ∷ []) ∷ (6 ∷ 8 ∷ 0 ∷ 2130706432 ∷ 3 ∷ [])
    ∷ (8 ∷ 11 ∷ 2130706432 ∷ 2130706432 ∷ 3 ∷ []) ∷ (11 ∷ 12 ∷ 0 ∷ 2122317824 ∷ 5 ∷ []) ∷ (12 ∷ 15 ∷ 0 ∷ 1065353216 ∷ 6 ∷ []) ∷ []
unfolding table_of shown row
two_two = refl

-- on each side the near weight 1.5 × 2^-24, then 1.0, then 2^-24, added in this order, give 1 + 2^-22; every other order gives 1 + 2^-23
far_weights_order : table_of (record { frequency = 1065353216; first = 0; end = 8 } ∷ [])
    (row 0 864026624 0 1065353216 ∷ row 3 1065353216 868220928 868220928 ∷ row 6 864026624 1065353216 0 ∷ []) 1
    ≡ (0 ∷ 3 ∷ 1065353218 ∷ 1065353216 ∷ 0 ∷ []) ∷ (3 ∷ 4 ∷ 1065353216 ∷ 1065353216 ∷ 0 ∷ []) ∷ (4 ∷ 7 ∷ 1065353218 ∷ 1065353216 ∷ 0 ∷ []) ∷ []
unfolding table_of shown row
far_weights_order = refl

-- Use tables that the definition gives, by computation: answers of the Rust
use mathlib.Core.Path.{◌≡◌, refl}
use Prim.Native.Nat.{ℕ}
use mathlib.Core.List.{List, [], ◌∷◌, map}
use lib.Ieee.{binary32, to_bits, of_bits, add, sub, mul, round, eq}
use Rattle.numbers.specs.Weight.{value_of, cost_limit}
use Rattle.numbers.specs.Cost.{spill_cost, scaled}
use Rattle.columns.specs.First.{first_below}
use Rattle.links.specs.Blocks.{block_of}
use Rattle.use_rows.specs.declared.row.SplitUse.{SplitUse}
use Rattle.use_rows.specs.Uses.{part_of, added_to_row, carries, split_use, rows_from, use_table, Source, cost_of, frequency_at, first_inst, last_inst, use_table_of}

-- a row as numbers, its weights by their bits
shown : SplitUse → List ℕ
unfolding to_bits
shown u = u.inst.0 ∷ to_bits binary32 u.weight ∷ to_bits binary32 u.left_weight ∷ to_bits binary32 u.right_weight ∷ []

table_of : Source → List (List ℕ)
unfolding use_table rows_from carries split_use added_to_row part_of cost_of frequency_at first_inst last_inst value_of of_bits spill_cost scaled first_below block_of add sub
    mul round eq
table_of job = map shown (use_table_of job)

-- a fixed def goes before the row of a use at the end of the segment before; left and right weights
unfoldable pub between : Source
unfolding value_of of_bits
between =
    record {
      uses =
          record { position = 2; kind = 4; cost = 1051372203 } ∷ record { position = 1; kind = 0; cost = 0 } ∷ record
          { position = 2; kind = 4; cost = 864026625 } ∷ record { position = 3; kind = 4; cost = 1051372203 } ∷ [];
      segments =
          record { start = 0; end = 4; value = 0; first_use = 0; end_use = 0; flags = 7 } ∷ record
          { start = 4; end = 8; value = 0; first_use = 0; end_use = 1; flags = 0 } ∷ record
          { start = 8; end = 12; value = 0; first_use = 1; end_use = 4; flags = 9 } ∷ [];
      codes = 0 ∷ [];
      scales =
          record {
            cheaper_than_move = value_of cost_limit 1056964608;
            cheaper_than_load = value_of cost_limit 699438930;
            indirect =
                value_of cost_limit 1048576000;
          };
      blocks =
          record { frequency = 1070596096; first = 0; end = 2 } ∷ record { frequency = 1070596096; first = 2; end = 4 } ∷ record
          { frequency = 1066401792; first = 4; end = 6 } ∷ [];
    }

between_table : table_of between ≡ (0 ∷ 0 ∷ 0 ∷ 0 ∷ []) ∷ (1 ∷ 0 ∷ 0 ∷ 1070596096 ∷ []) ∷ (2 ∷ 869269506 ∷ 1057663659 ∷ 0 ∷ []) ∷ (3 ∷ 0 ∷ 1057663659 ∷ 0 ∷ [])
    ∷ []
unfolding table_of shown between
between_table = refl

-- segments of values with each of the four codes
four_codes : Source
unfolding value_of of_bits
four_codes =
    record {
      uses =
          record { position = 10675; kind = 3; cost = 0 } ∷ record { position = 10675; kind = 2; cost = 0 } ∷ record
          { position = 10676; kind = 2; cost = 0 } ∷ record { position = 10677; kind = 0; cost = 0 } ∷ record { position = 10679; kind = 0; cost = 1 } ∷ record
          { position = 10680; kind = 2; cost = 0 } ∷ record { position = 10684; kind = 1; cost = 0 } ∷ [];
      segments =
          record { start = 42700; end = 42704; value = 3; first_use = 0; end_use = 3; flags = 0 } ∷ record
          { start = 42704; end = 42712; value = 1; first_use = 3; end_use = 3; flags = 7 } ∷ record
          { start = 42712; end = 42718; value = 2; first_use = 3; end_use = 4; flags = 9 } ∷ record
          { start = 42720; end = 42728; value = 0; first_use = 4; end_use = 6; flags = 9 } ∷ record
          { start = 42728; end = 42736; value = 1; first_use = 6; end_use = 7; flags = 1 } ∷ [];
      codes = 0 ∷ 2 ∷ 3 ∷ 1 ∷ [];
      scales =
          record {
            cheaper_than_move = value_of cost_limit 1036831949;
            cheaper_than_load = value_of cost_limit 1073741824;
            indirect =
                value_of cost_limit 8388608;
          };
      blocks = record { frequency = 2; first = 0; end = 262144 } ∷ [];
    }

four_codes_table : table_of four_codes ≡ (10675 ∷ 0 ∷ 0 ∷ 0 ∷ []) ∷ (10676 ∷ 0 ∷ 0 ∷ 0 ∷ []) ∷ (10677 ∷ 0 ∷ 0 ∷ 0 ∷ []) ∷ (10680 ∷ 1 ∷ 0 ∷ 0 ∷ [])
    ∷ (10684 ∷ 0 ∷ 4 ∷ 0 ∷ []) ∷ []
unfolding table_of shown four_codes
four_codes_table = refl

-- The layout of words and columns, pinned by computed cases in which all fields differ
use mathlib.Core.Path.{◌≡◌, refl}
use mathlib.Core.List.{List, [], ◌∷◌}
use Prim.Native.Nat.{ℕ}
use lib.Ieee.{Float, binary32, of_bits, to_bits, div, round, lt, of_int}
use Rattle.numbers.specs.Weight.{value_of}
use Rattle.numbers.specs.Normal.{normalised}
use Rattle.columns.specs.Table.{table}
use Rattle.growth.specs.declared.proposal.SplitProposal.{SplitProposal}
use Rattle.outcome.specs.declared.grow.Answer.TheVariants as Answer·is
use Rattle.filling.specs.SourceTables.{work_columns}
use Rattle.refusals.specs.Job.{job_columns, job_of}
use Rattle.words.specs.Words.{proposed_words, split_point_words, normalised_bits}
use Rattle.std.specs.Prelude.{Some, None, Ok, Err}

-- ---- the words of `gelduvra_propose_split`
-- a proposal whose six fields are 1 to 6, weights by their bits
abbrev numbers_as_fields : SplitProposal
numbers_as_fields =
    record {
      left = Some (record { 0 = 1 });
      right = Some (record { 0 = 2 });
      use_weight = of_bits binary32 3;
      live_insts = 4;
      interference_weight = of_bits binary32 5;
      split_cost = of_bits binary32 6;
    }

-- the same without ends
abbrev without_ends : SplitProposal
without_ends =
    record {
      left = None;
      right = None;
      use_weight = of_bits binary32 3;
      live_insts = 4;
      interference_weight = of_bits binary32 5;
      split_cost = of_bits binary32 6;
    }

pub words_are :
    proposed_words (record { answer = Answer·is.Found numbers_as_fields; uses = 7; gaps = 8; gap_segments = 9 })
    ∷ proposed_words (record { answer = Answer·is.Found without_ends; uses = 7; gaps = 8; gap_segments = 9 })
    ∷ proposed_words (record { answer = Answer·is.NoBestUse; uses = 7; gaps = 8; gap_segments = 9 })
    ∷ proposed_words (record { answer = Answer·is.NoRegion; uses = 7; gaps = 8; gap_segments = 9 })
    ∷ proposed_words (record { answer = Answer·is.Refused (record { number = 12; place = 2 }); uses = 7; gaps = 8; gap_segments = 9 })
    ∷ []
    ≡ (0 ∷ 1 ∷ 2 ∷ 3 ∷ 4 ∷ 5 ∷ 6 ∷ 7 ∷ 8 ∷ 9 ∷ [])
    ∷ (0 ∷ 4294967295 ∷ 4294967295 ∷ 3 ∷ 4 ∷ 5 ∷ 6 ∷ 7 ∷ 8 ∷ 9 ∷ [])
    ∷ (1 ∷ 0 ∷ 0 ∷ 0 ∷ 0 ∷ 0 ∷ 0 ∷ 7 ∷ 8 ∷ 9 ∷ [])
    ∷ (2 ∷ 0 ∷ 0 ∷ 0 ∷ 0 ∷ 0 ∷ 0 ∷ 7 ∷ 8 ∷ 9 ∷ [])
    ∷ (3 ∷ 12 ∷ 2 ∷ 0 ∷ 0 ∷ 0 ∷ 0 ∷ 7 ∷ 8 ∷ 9 ∷ [])
    ∷ []
unfolding of_bits to_bits
words_are = refl

-- ---- the words of `gelduvra_find_optimal_split_point`
pub point_words_are :
    split_point_words (Ok (record { 0 = 5 })) ∷ split_point_words (Err (record { number = 13; place = 6 })) ∷ []
    ≡ (0 ∷ 5 ∷ 0 ∷ []) ∷ (1 ∷ 13 ∷ 6 ∷ []) ∷ []
point_words_are = refl

-- ---- `gelduvra_normalised_weight`
-- 2.0 over 4 instructions, and with a k of 4; infinity over 1; 1.0 over nothing, and zero over nothing, a NaN; the bits behind infinity's, and minus 1.0
pub normalised_bits_are :
    normalised_bits 1073741824 4 0 ∷ normalised_bits 1073741824 4 4 ∷ normalised_bits 2139095040 1 0 ∷ normalised_bits 1065353216 0 0 ∷ normalised_bits 0 0 0
    ∷ normalised_bits 2139095041 1 0 ∷ normalised_bits 3212836864 1 0 ∷ []
    ≡ 1056964608 ∷ 1048576000 ∷ 2139095039 ∷ 2139095039 ∷ 2143289344 ∷ 0 ∷ 0 ∷ []
unfolding of_bits to_bits value_of normalised div round lt of_int
normalised_bits_are = refl

-- ---- the order of the columns
-- a column of one row
abbrev only : ℕ → List ℕ
only n = n ∷ []

-- five parameters, and 23 columns of one row each, numbered in their order
pub job_columns_are :
    job_of (record { k = 1; cheaper_than_move = 2; cheaper_than_load = 3; indirect = 4; units = 5 })
    (job_columns (only 10) (only 11) (only 12) (only 13) (only 14) (only 15) (only 16) (only 17) (only 18) (only 19) (only 20) (only 21) (only 22) (only 23)
    (only 24) (only 25) (only 26) (only 27) (only 28) (only 29) (only 30) (only 31) (only 32))
    ≡ record {
      k = 1;
      cheaper_than_move = 2;
      cheaper_than_load = 3;
      indirect = 4;
      units = 5;
      blocks = record { frequency = 10; first = 11; end = 12 } ∷ [];
      codes = 13 ∷ [];
      segments = record { start = 14; end = 15; value = 16; first_use = 17; end_use = 18; flags = 19 } ∷ [];
      uses = record { position = 20; kind = 21; cost = 22 } ∷ [];
      weights = 23 ∷ [];
      reservations = record { unit = 24; start = 25; end = 26; kind = 27; index = 28; fixed = 29 } ∷ [];
      fixed_uses = record { unit = 30; point = 31; value = 32 } ∷ [];
    }
unfolding table
job_columns_are = refl

-- the bits of a weight
abbrev weights : ℕ → List Float
weights n = of_bits binary32 n ∷ []

-- 16 work columns of one row each, numbered in their order
pub work_columns_are :
    work_columns (only 1) (only 2) (only 3) (weights 4) (weights 5) (weights 6) (only 7) (only 8) (weights 9) (only 10) (weights 11)
    (only 12) (only 13) (only 14) (only 15) (only 16)
    ≡ record {
      prevs = only 1;
      nexts = only 2;
      insts = only 3;
      mains = weights 4;
      lefts = weights 5;
      rights = weights 6;
      froms = only 7;
      tos = only 8;
      weights = weights 9;
      lives = only 10;
      freqs = weights 11;
      blocks = only 12;
      segment_froms = only 13;
      segment_tos = only 14;
      segment_values = only 15;
      segment_gaps = only 16;
    }
work_columns_are = refl

-- Document 01's case A as a job, and jobs like it
use mathlib.Core.List.{List, [], ◌∷◌}
use Prim.Native.Nat.{ℕ, ◌+◌}
use lib.ListN.{length}
use Rattle.links.specs.Blocks.{BlockRow}
use Rattle.jobs.specs.declared.rows.Segment.{Segment}
use Rattle.jobs.specs.declared.rows.Use.{Use}
use Rattle.jobs.specs.declared.rows.Reservation.{Reservation}
use Rattle.filling.specs.declared.lent.Rooms.{Rooms}
use Rattle.refusals.specs.Job.{Job}

-- the rows of a sheet: B, S, U and E
abbrev pub block_row : ℕ → ℕ → ℕ → BlockRow
block_row frequency first end = record { frequency = frequency; first = first; end = end }

abbrev pub segment_row : ℕ → ℕ → ℕ → ℕ → ℕ → ℕ → Segment
segment_row start end value first_use end_use flags =
    record { start = start; end = end; value = value; first_use = first_use; end_use = end_use; flags = flags }

abbrev pub use_row : ℕ → ℕ → ℕ → Use
use_row position kind cost = record { position = position; kind = kind; cost = cost }

abbrev pub reserved_row : ℕ → ℕ → ℕ → ℕ → ℕ → ℕ → Reservation
reserved_row unit start end kind index fixed = record { unit = unit; start = start; end = end; kind = kind; index = index; fixed = fixed }

-- case A's job, with another k, block list, segment, uses, weights or reservations
abbrev pub job_like_a : ℕ → List BlockRow → Segment → List Use → List ℕ → List Reservation → Job
job_like_a k blocks segment uses weights reservations =
    record {
      k = k;
      cheaper_than_move = 1065353216;
      cheaper_than_load = 1065353216;
      indirect = 1065353216;
      units = 1;
      blocks = blocks;
      codes = 0 ∷ [];
      segments = segment ∷ [];
      uses = uses;
      weights = weights;
      reservations = reservations;
      fixed_uses = [];
    }

abbrev pub blocks_of_a : ℕ → List BlockRow
blocks_of_a frequency = block_row frequency 0 4 ∷ []

abbrev pub segment_of_a : Segment
segment_of_a = segment_row 2 14 0 0 2 0

abbrev pub uses_of_a : List Use
uses_of_a = use_row 0 5 1065353216 ∷ use_row 3 4 1065353216 ∷ []

-- with reservations, of these weights
abbrev pub reserving : List ℕ → List Reservation → Job
reserving weights reservations = job_like_a 0 (blocks_of_a 1065353216) segment_of_a uses_of_a weights reservations

-- with another k and another frequency
abbrev pub scaled_by : ℕ → ℕ → Job
scaled_by k frequency = job_like_a k (blocks_of_a frequency) segment_of_a uses_of_a [] []

-- with these blocks and this segment
abbrev pub over : List BlockRow → Segment → Job
over blocks segment = job_like_a 0 blocks segment uses_of_a [] []

-- as many rows as document 01 asks for: uses U+2, gaps U+B+2, gap segments U+B+S+2, links B
abbrev pub enough : Job → Rooms
enough job =
    record {
      uses = length job.uses + 2;
      gaps = length job.uses + length job.blocks + 2;
      gap_segments = length job.uses + length job.blocks + length job.segments + 2;
      links = length job.blocks;
    }

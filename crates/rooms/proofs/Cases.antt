-- Cases by hand, which the definitions compute: jobs that break two lines, ends of a live-out segment; and each limit of the lines 1 to 12,
-- at it and one past it
use mathlib.Core.Path.{◌≡◌, refl}
use mathlib.Core.List.{List, [], ◌∷◌}
use Prim.Native.Nat.{ℕ}
use lib.ListN.{replicate}
use Rattle.columns.specs.First.{first_below}
use Rattle.links.specs.Blocks.{BlockRow, is_bad, refusal, Checked, no_refusal}
use Rattle.jobs.specs.Lines.{bad_bounds, bad_list, bad_def, bad_use, bad_end, bad_span, bad_kind, bad_fixed_use}
use Rattle.columns.specs.Below.{count_below, any_below}
use Rattle.jobs.specs.declared.rows.Segment.{Segment}
use Rattle.jobs.specs.declared.rows.Use.{Use}
use Rattle.jobs.specs.declared.rows.Reservation.{Reservation}
use Rattle.jobs.specs.declared.rows.FixedUse.{FixedUse}
use Rattle.filling.specs.declared.lent.Rooms.{Rooms}
use Rattle.refusals.specs.Refusals.{first_broken, bad_parameters, some_long, bad_sizes}
use Rattle.rooms.specs.Rooms.{refusal_of}

-- ---- jobs like case A
-- the bits of 1.0
abbrev one : ℕ
one = 1065353216

abbrev block : ℕ → ℕ → BlockRow
block frequency end = record { frequency = frequency; first = 0; end = end }

abbrev segment : ℕ → ℕ → ℕ → Segment
segment start end flags = record { start = start; end = end; value = 0; first_use = 0; end_use = 2; flags = flags }

abbrev use_of : ℕ → ℕ → ℕ → Use
use_of position kind cost = record { position = position; kind = kind; cost = cost }

-- case A's segment and its two uses
abbrev one_segment : List Segment
one_segment = segment 2 14 0 ∷ []

abbrev two_uses : List Use
two_uses = use_of 0 5 one ∷ use_of 3 4 one ∷ []

-- exactly the rows that it needs
abbrev room : Rooms
room = record { uses = 4; gaps = 5; gap_segments = 6; links = 1 }

-- what case A is answered with another line P, and with other tables, in the order B V S U W E F
abbrev parameters : ℕ → ℕ → ℕ → ℕ → ℕ → Rooms → Checked
parameters k move load indirect units =
    refusal_of
    (record {
      k = k;
      cheaper_than_move = move;
      cheaper_than_load = load;
      indirect = indirect;
      units = units;
      blocks = block one 4 ∷ [];
      codes = 0 ∷ [];
      segments = one_segment;
      uses = two_uses;
      weights = [];
      reservations = [];
      fixed_uses = [];
    })

abbrev tables : List BlockRow → List ℕ → List Segment → List Use → List ℕ → List Reservation → List FixedUse → Checked
tables blocks codes segments uses weights reservations fixed_uses =
    refusal_of
    (record {
      k = 0;
      cheaper_than_move = one;
      cheaper_than_load = one;
      indirect = one;
      units = 1;
      blocks = blocks;
      codes = codes;
      segments = segments;
      uses = uses;
      weights = weights;
      reservations = reservations;
      fixed_uses = fixed_uses;
    })
    room

-- with one other table
abbrev with_blocks : List BlockRow → Checked
with_blocks blocks = tables blocks (0 ∷ []) one_segment two_uses [] [] []

abbrev with_codes : List ℕ → Checked
with_codes codes = tables (block one 4 ∷ []) codes one_segment two_uses [] [] []

abbrev with_segments : List Segment → List Use → Checked
with_segments segments uses = tables (block one 4 ∷ []) (0 ∷ []) segments uses [] [] []

abbrev with_uses : List Use → Checked
with_uses uses = with_segments one_segment uses

abbrev with_weights : List ℕ → Checked
with_weights weights = tables (block one 4 ∷ []) (0 ∷ []) one_segment two_uses weights [] []

-- ---- jobs that break two lines; live-out segments that end at a Boundary, inside an instruction, and at the last use's instruction
abbrev answers : List Checked
answers =
    parameters 65537 one one one 9 room
    ∷ tables (block one 4 ∷ []) (4 ∷ []) (segment 14 2 0 ∷ []) two_uses [] [] []
    ∷ with_segments (segment 4 14 8 ∷ []) (use_of 4294967295 99 7 ∷ use_of 3 4 one ∷ [])
    ∷ with_uses (use_of 0 5 one ∷ use_of 3 99 7 ∷ [])
    ∷ with_segments (segment 2 16 2 ∷ []) two_uses
    ∷ with_segments (segment 2 14 2 ∷ []) two_uses
    ∷ with_segments (segment 2 12 2 ∷ []) two_uses
    ∷ []

pub answers_are : answers ≡ refusal 1 0 ∷ refusal 4 0 ∷ refusal 6 0 ∷ refusal 7 1 ∷ no_refusal ∷ refusal 8 0 ∷ refusal 8 0 ∷ []
unfolding first_broken first_below bad_parameters some_long bad_sizes is_bad bad_bounds bad_list bad_def bad_use bad_end bad_span bad_kind bad_fixed_use count_below any_below
answers_are = refl

-- ---- the limits
-- what is answered at a limit, and one past it
record Edge : Type 0 where
  at : Checked
  past : Checked

abbrev edge : Checked → Checked → Edge
edge at past = record { at = at; past = past }

-- so many items of a table, in the order B V S U W E F. A long table breaks another line at its first or second item, so that the line
-- which speaks of its length is told apart without looking at all of them.
abbrev many_blocks : ℕ → Checked
many_blocks n = with_blocks (replicate n (block one 4))

abbrev many_codes : ℕ → Checked
many_codes n = with_codes (replicate n 4)

abbrev many_segments : ℕ → Checked
many_segments n = with_segments (replicate n (segment 2 14 0)) two_uses

abbrev many_uses : ℕ → Checked
many_uses n = with_uses (replicate n (use_of 0 5 one))

abbrev many_weights : ℕ → Checked
many_weights n = with_weights (replicate n 2139095041)

abbrev many_reservations : ℕ → Checked
many_reservations n =
    tables (block one 4 ∷ []) (0 ∷ []) one_segment two_uses []
    (replicate n (record { unit = 0; start = 8; end = 12; kind = 3; index = 0; fixed = 0 })) []

abbrev many_fixed_uses : ℕ → Checked
many_fixed_uses n = tables (block one 4 ∷ []) (0 ∷ []) one_segment two_uses [] [] (replicate n (record { unit = 0; point = 8; value = 1 }))

-- flags with a fixed def and live-out: the first use before the segment, the end a Boundary
abbrev flagged : ℕ → Checked
flagged flags = with_segments (segment 4 16 flags ∷ []) (use_of 0 0 0 ∷ use_of 3 4 one ∷ [])

-- case A with so many rows of each work table
abbrev rows : ℕ → ℕ → ℕ → ℕ → Checked
rows uses gaps segments links = parameters 0 one one one 1 (record { uses = uses; gaps = gaps; gap_segments = segments; links = links })

abbrev limits : List Edge
limits =
    edge (parameters 65536 one one one 1 room) (parameters 65537 one one one 1 room)
    ∷ edge (parameters 0 1199570944 one one 1 room) (parameters 0 1199570945 one one 1 room)
    ∷ edge (parameters 0 one 1199570944 one 1 room) (parameters 0 one 1199570945 one 1 room)
    ∷ edge (parameters 0 one one 1199570944 1 room) (parameters 0 one one 1199570945 1 room)
    ∷ edge (parameters 0 one one one 8 room) (parameters 0 one one one 9 room)
    ∷ edge (parameters 0 one one one 1 room) (parameters 0 one one one 0 room)
    ∷ edge (many_blocks 4096) (many_blocks 4097)
    ∷ edge (many_codes 4096) (many_codes 4097)
    ∷ edge (many_segments 4096) (many_segments 4097)
    ∷ edge (many_uses 4096) (many_uses 4097)
    ∷ edge (many_weights 4096) (many_weights 4097)
    ∷ edge (many_reservations 4096) (many_reservations 4097)
    ∷ edge (many_fixed_uses 4096) (many_fixed_uses 4097)
    ∷ edge (with_blocks (block one 262144 ∷ [])) (with_blocks (block one 262145 ∷ []))
    ∷ edge (with_blocks (block 2139095039 4 ∷ [])) (with_blocks (block 2139095040 4 ∷ []))
    ∷ edge (with_codes (3 ∷ [])) (with_codes (4 ∷ []))
    ∷ edge (flagged 15) (flagged 16)
    ∷ edge (with_uses (use_of 0 5 one ∷ use_of 3 9 0 ∷ [])) (with_uses (use_of 0 5 one ∷ use_of 3 10 0 ∷ []))
    ∷ edge (with_uses (use_of 0 5 one ∷ use_of 3 4 1199570944 ∷ [])) (with_uses (use_of 0 5 one ∷ use_of 3 4 1199570945 ∷ []))
    ∷ edge (with_uses (use_of 0 5 one ∷ use_of 3 1 1 ∷ [])) (with_uses (use_of 0 5 one ∷ use_of 3 1 2 ∷ []))
    ∷ edge (with_weights (2139095040 ∷ [])) (with_weights (2139095041 ∷ []))
    ∷ edge (rows 4 5 6 1) (rows 3 5 6 1)
    ∷ edge (rows 4 5 6 1) (rows 4 4 6 1)
    ∷ edge (rows 4 5 6 1) (rows 4 5 5 1)
    ∷ edge (rows 4 5 6 1) (rows 4 5 6 0)
    ∷ []

-- k, three scales, units and none; 4,096 items of B V S U W E F; block end, frequency, code, flags, kind, cost of a class use and of a fixed
-- one, spill weight; the rows of each work table
pub limits_are : limits
    ≡ edge no_refusal (refusal 1 0)
    ∷ edge no_refusal (refusal 1 0)
    ∷ edge no_refusal (refusal 1 0)
    ∷ edge no_refusal (refusal 1 0)
    ∷ edge no_refusal (refusal 2 0)
    ∷ edge no_refusal (refusal 2 0)
    ∷ edge (refusal 3 1) (refusal 2 0)
    ∷ edge (refusal 4 0) (refusal 2 0)
    ∷ edge (refusal 5 1) (refusal 2 0)
    ∷ edge (refusal 5 0) (refusal 2 0)
    ∷ edge (refusal 9 0) (refusal 2 0)
    ∷ edge (refusal 10 0) (refusal 2 0)
    ∷ edge (refusal 11 0) (refusal 2 0)
    ∷ edge no_refusal (refusal 3 0)
    ∷ edge no_refusal (refusal 3 0)
    ∷ edge no_refusal (refusal 4 0)
    ∷ edge no_refusal (refusal 5 0)
    ∷ edge no_refusal (refusal 7 1)
    ∷ edge no_refusal (refusal 7 1)
    ∷ edge no_refusal (refusal 7 1)
    ∷ edge no_refusal (refusal 9 0)
    ∷ edge no_refusal (refusal 12 0)
    ∷ edge no_refusal (refusal 12 1)
    ∷ edge no_refusal (refusal 12 2)
    ∷ edge no_refusal (refusal 12 3)
    ∷ []
unfolding first_broken first_below bad_parameters some_long bad_sizes is_bad bad_bounds bad_list bad_def bad_use bad_end bad_span bad_kind bad_fixed_use count_below any_below
limits_are = refl

-- A job's rows: segments, uses, reservations and fixed uses, from their columns
use Rattle.std.specs.Prelude.{ℕ, ◌/◌, ◌%◌, Bool, List, [], ◌∷◌, eqb, length, get_or}
use Rattle.columns.specs.Table.{table, shortest}
use Rattle.jobs.specs.declared.rows.Segment.{Segment}
use Rattle.jobs.specs.declared.rows.Use.{Use}
use Rattle.jobs.specs.declared.rows.Reservation.{Reservation}
use Rattle.jobs.specs.declared.rows.FixedUse.{FixedUse}

-- a segment of the columns, and the segments
abbrev pub segment_row : List ℕ → List ℕ → List ℕ → List ℕ → List ℕ → List ℕ → ℕ → Segment
segment_row starts ends values firsts lasts flags i =
    record {
      start = get_or starts i 0;
      end = get_or ends i 0;
      value = get_or values i 0;
      first_use = get_or firsts i 0;
      end_use = get_or lasts i 0;
      flags = get_or flags i 0;
    }

abbrev pub segments_of : List ℕ → List ℕ → List ℕ → List ℕ → List ℕ → List ℕ → List Segment
segments_of starts ends values firsts lasts flags =
    table (segment_row starts ends values firsts lasts flags)
    (shortest (length starts ∷ length ends ∷ length values ∷ length firsts ∷ length lasts ∷ length flags ∷ []))

-- a use of the columns, and the uses
abbrev pub use_row : List ℕ → List ℕ → List ℕ → ℕ → Use
use_row positions kinds costs i = record { position = get_or positions i 0; kind = get_or kinds i 0; cost = get_or costs i 0 }

abbrev pub uses_of : List ℕ → List ℕ → List ℕ → List Use
uses_of positions kinds costs = table (use_row positions kinds costs) (shortest (length positions ∷ length kinds ∷ length costs ∷ []))

-- a reservation of the columns, and the reservations
abbrev pub reservation_row : List ℕ → List ℕ → List ℕ → List ℕ → List ℕ → List ℕ → ℕ → Reservation
reservation_row units starts ends kinds indices fixed i =
    record { unit = get_or units i 0; start = get_or starts i 0; end = get_or ends i 0; kind = get_or kinds i 0; index = get_or indices i 0; fixed = get_or fixed i 0 }

abbrev pub reservations_of : List ℕ → List ℕ → List ℕ → List ℕ → List ℕ → List ℕ → List Reservation
reservations_of units starts ends kinds indices fixed =
    table (reservation_row units starts ends kinds indices fixed)
    (shortest (length units ∷ length starts ∷ length ends ∷ length kinds ∷ length indices ∷ length fixed ∷ []))

-- a fixed use of the columns, and the fixed uses
abbrev pub fixed_use_row : List ℕ → List ℕ → List ℕ → ℕ → FixedUse
fixed_use_row units points values i = record { unit = get_or units i 0; point = get_or points i 0; value = get_or values i 0 }

abbrev pub fixed_uses_of : List ℕ → List ℕ → List ℕ → List FixedUse
fixed_uses_of units points values = table (fixed_use_row units points values) (shortest (length units ∷ length points ∷ length values ∷ []))

-- no row: what stands past a table's rows
abbrev pub no_segment : Segment
no_segment = record { start = 0; end = 0; value = 0; first_use = 0; end_use = 0; flags = 0 }

abbrev pub no_use : Use
no_use = record { position = 0; kind = 0; cost = 0 }

abbrev pub no_reservation : Reservation
no_reservation = record { unit = 0; start = 0; end = 0; kind = 0; index = 0; fixed = 0 }

abbrev pub no_fixed_use : FixedUse
no_fixed_use = record { unit = 0; point = 0; value = 0 }

-- flags: 2 live-out, 8 fixed def
abbrev pub live_out : ℕ → Bool
live_out flags = eqb (flags / 2 % 2) 1

abbrev pub fixed_def : ℕ → Bool
fixed_def flags = eqb (flags / 8 % 2) 1

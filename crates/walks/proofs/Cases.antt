-- What a gap segment meets, in cases by hand that the definitions compute: kind 2 of another value, and fixed uses about a row
use mathlib.Core.Path.{◌≡◌, refl}
use mathlib.Core.Bool.{Bool, true, false}
use mathlib.Core.List.{List, [], ◌∷◌}
use Prim.Native.Nat.{ℕ}
use Rattle.columns.specs.Below.{count_below, any_below}
use Rattle.jobs.specs.declared.rows.Reservation.{Reservation}
use Rattle.jobs.specs.declared.rows.FixedUse.{FixedUse}
use Rattle.walks.specs.declared.meeting.GapSegment.{GapSegment}
use Rattle.walks.specs.declared.meeting.Register.{Register}
use Rattle.walks.specs.Meeting.{Reserved, meets, clashes, row_number, use_counts, counts_as_fixed, of_register, fixed_against, fixed_met}
use Rattle.columns.specs.Table.{any_of}

-- a register's only unit
abbrev register : Register
register = record { first = record { 0 = 0 }; units = 1 }

-- a gap segment, a row and a fixed use of that unit
abbrev segment : ℕ → ℕ → ℕ → GapSegment
segment from to value = record { from = record { 0 = from }; to = record { 0 = to }; value = record { 0 = value } }

abbrev row : ℕ → ℕ → ℕ → ℕ → ℕ → Reservation
row start end kind index fixed = record { unit = 0; start = start; end = end; kind = kind; index = index; fixed = fixed }

abbrev fixed_use : ℕ → ℕ → FixedUse
fixed_use point value = record { unit = 0; point = point; value = value }

abbrev reserved : List Reservation → List FixedUse → Reserved
reserved rows uses = record { rows = rows; fixed_uses = uses; weights = 1048576000 ∷ [] }

-- whether a row and fixed uses count as fixed against a segment from a point to 14, of value 0
abbrev against : ℕ → Reservation → List FixedUse → Bool
against from r uses = fixed_met register (reserved (r ∷ []) uses) (segment from 14 0)

abbrev answers : List Bool
answers =
    -- kind 2 of another value
    against 4 (row 8 12 2 1 0) []
    -- a fixed use of another value past the end of a row that is met, before its start, and before its fixed row
    ∷ against 4 (row 8 10 0 0 0) (fixed_use 12 1 ∷ [])
    ∷ against 4 (row 8 10 0 0 0) (fixed_use 4 1 ∷ [])
    ∷ against 4 (row 8 10 0 0 1) (fixed_use 8 1 ∷ fixed_use 12 0 ∷ [])
    -- it is two points long: a segment from point + 2 on is not met; and a row that is not met counts nothing
    ∷ against 6 (row 6 14 0 0 0) (fixed_use 4 1 ∷ [])
    ∷ against 4 (row 0 4 0 0 0) (fixed_use 8 1 ∷ [])
    ∷ []

pub answers_are : answers ≡ true ∷ true ∷ true ∷ false ∷ false ∷ false ∷ []
unfolding fixed_met any_of fixed_against of_register meets counts_as_fixed any_below use_counts row_number count_below clashes
answers_are = refl

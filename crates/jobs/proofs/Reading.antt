-- Rows that were read from columns are the table's, and the row before one
use mathlib.Core.Path.{◌≡◌, ap, ◌∙◌}
use mathlib.Core.List.{List, [], ◌∷◌}
use Prim.Native.Nat.{ℕ, ◌+◌, ◌-◌, ◌≤◌, ◌<◌}
use native.Mathlib.Omega.{arith}
use lib.ListN.{length, get_or}
use Rattle.columns.specs.Table.{shortest, row_before}
use Rattle.jobs.specs.declared.rows.Segment.{Segment}
use Rattle.jobs.specs.declared.rows.Use.{Use}
use Rattle.jobs.specs.declared.rows.FixedUse.{FixedUse}
use Rattle.jobs.specs.declared.rows.Reservation.{Reservation}
use Rattle.jobs.specs.Rows.{segment_row, segments_of, no_segment, use_row, uses_of, no_use, fixed_use_row, fixed_uses_of, no_fixed_use, reservation_row, reservations_of, no_reservation}
use Rattle.jobs.proofs.Walk.{own_row, before_next}

pub own_segment : (a b c d e f : List ℕ) (i : ℕ) (s : Segment) → s ≡ segment_row a b c d e f i → i < length (segments_of a b c d e f)
    → s ≡ get_or (segments_of a b c d e f) i no_segment
own_segment a b c d e f i s p h =
    own_row (segment_row a b c d e f) (shortest (length a ∷ length b ∷ length c ∷ length d ∷ length e ∷ length f ∷ [])) i no_segment s p h

pub own_use : (a b c : List ℕ) (i : ℕ) (u : Use) → u ≡ use_row a b c i → i < length (uses_of a b c) → u ≡ get_or (uses_of a b c) i no_use
own_use a b c i u p h = own_row (use_row a b c) (shortest (length a ∷ length b ∷ length c ∷ [])) i no_use u p h

pub own_fixed_use : (a b c : List ℕ) (i : ℕ) (f : FixedUse) → f ≡ fixed_use_row a b c i → i < length (fixed_uses_of a b c)
    → f ≡ get_or (fixed_uses_of a b c) i no_fixed_use
own_fixed_use a b c i f p h = own_row (fixed_use_row a b c) (shortest (length a ∷ length b ∷ length c ∷ [])) i no_fixed_use f p h

pub own_reservation : (a b c d e f : List ℕ) (i : ℕ) (r : Reservation) → r ≡ reservation_row a b c d e f i → i < length (reservations_of a b c d e f)
    → r ≡ get_or (reservations_of a b c d e f) i no_reservation
own_reservation a b c d e f i r p h =
    own_row (reservation_row a b c d e f) (shortest (length a ∷ length b ∷ length c ∷ length d ∷ length e ∷ length f ∷ [])) i no_reservation r p h

-- the row before one that is not the first
pub row_before_lem : {A : Type 0} (rows : List A) (none : A) (i : ℕ) → 1 ≤ i → get_or rows (i - 1) none ≡ row_before rows none i
row_before_lem rows none i h = before_next rows none (i - 1) ∙ ap (row_before rows none) (back i h)
  where
    back : (i : ℕ) → 1 ≤ i → i - 1 + 1 ≡ i
    back i h = omega arith

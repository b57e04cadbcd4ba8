-- A job's rows after the checks, with their indices as types, and the plain rows back, of which the definitions speak
use Rattle.jobs.specs.declared.rows.Segment.{Segment}
use Rattle.jobs.specs.declared.rows.Use.{Use}
use Rattle.jobs.specs.declared.rows.Reservation.{Reservation}
use Rattle.jobs.specs.declared.rows.FixedUse.{FixedUse}
use Rattle.jobs.specs.declared.checked.LiveSegment.{LiveSegment}
use Rattle.jobs.specs.declared.checked.PlacedUse.{PlacedUse}
use Rattle.jobs.specs.declared.checked.Held.{Held}
use Rattle.jobs.specs.declared.checked.HeldUse.{HeldUse}

-- a segment: points and a value
abbrev pub live_segment : Segment → LiveSegment
live_segment s =
    record {
      start = record { 0 = s.start };
      end = record { 0 = s.end };
      value = record { 0 = s.value };
      first_use = s.first_use;
      end_use = s.end_use;
      flags = s.flags;
    }

abbrev pub plain_segment : LiveSegment → Segment
plain_segment s =
    record {
      start = s.start.0;
      end = s.end.0;
      value = s.value.0;
      first_use = s.first_use;
      end_use = s.end_use;
      flags = s.flags;
    }

-- a use: its instruction
abbrev pub placed_use : Use → PlacedUse
placed_use u = record { position = record { 0 = u.position }; kind = u.kind; cost = u.cost }

abbrev pub plain_use : PlacedUse → Use
plain_use u = record { position = u.position.0; kind = u.kind; cost = u.cost }

-- a reservation: a unit and points
abbrev pub held_reservation : Reservation → Held
held_reservation r =
    record {
      unit = record { 0 = r.unit };
      start = record { 0 = r.start };
      end = record { 0 = r.end };
      kind = r.kind;
      index = r.index;
      fixed = r.fixed;
    }

abbrev pub plain_row : Held → Reservation
plain_row r = record { unit = r.unit.0; start = r.start.0; end = r.end.0; kind = r.kind; index = r.index; fixed = r.fixed }

-- a fixed use: a unit, a point and a value
abbrev pub held_use : FixedUse → HeldUse
held_use f = record { unit = record { 0 = f.unit }; point = record { 0 = f.point }; value = record { 0 = f.value } }

abbrev pub plain_fixed_use : HeldUse → FixedUse
plain_fixed_use f = record { unit = f.unit.0; point = f.point.0; value = f.value.0 }

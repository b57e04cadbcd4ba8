-- Line 7 of all uses at once, for contracts of private functions: what is counted, and how the counts fit where no use is bad
use Rattle.std.specs.Prelude.{ℕ, ◌+◌, ◌-◌, ◌*◌, Bool, ◌&&◌, ◌||◌, cond, List, leb, ltb, eqb, length, get_or}
use Rattle.jobs.specs.Rows.{no_segment, no_use, fixed_def}
use Rattle.columns.specs.Table.{row_before}
use Rattle.columns.specs.Below.{count_below}
use Rattle.jobs.specs.Lines.{cost_most, lies_outside}
use Rattle.jobs.specs.declared.rows.Segment.{Segment}
use Rattle.jobs.specs.declared.rows.Use.{Use}
use Rattle.jobs.specs.declared.rows.Limits.{Limits}

-- a use's kind or cost field is bad
unfoldable pub bad_field : Use → Bool
bad_field u = ltb 9 u.kind || ltb (cost_most u.kind) u.cost

-- the same of use u
abbrev pub bad_field_at : List Use → ℕ → Bool
bad_field_at uses u = bad_field (get_or uses u no_use)

-- a use stands lower than the use before
abbrev pub falls_at : List Use → ℕ → Bool
falls_at uses u = ltb (get_or uses u no_use).position (row_before uses no_use u).position

-- the first use of a segment's list that has to lie inside the segment: the second one of a fixed def
abbrev pub held_from : Segment → ℕ
held_from s = s.first_use + cond (fixed_def s.flags) 1 0

-- a segment's list strays: its last use is past the blocks, or it or the first use that has to lie inside the segment does not
unfoldable pub strays : Limits → List Use → Segment → Bool
strays limits uses s =
    let last = get_or uses (s.end_use - 1) no_use in
    ltb s.first_use s.end_use
    && (leb limits.end (4 * last.position)
    || (ltb (held_from s) s.end_use && (lies_outside s (get_or uses (held_from s) no_use) || lies_outside s last)))

-- the list of segment i strays
abbrev pub strays_at : Limits → List Use → List Segment → ℕ → Bool
strays_at limits uses segments i = strays limits uses (get_or segments i no_segment)

-- a list's first use stands lower than the use before
unfoldable pub begins_lower : List Use → Segment → Bool
begins_lower uses s = ltb s.first_use s.end_use && falls_at uses s.first_use

-- the same of segment i's list
abbrev pub begins_lower_at : List Use → List Segment → ℕ → Bool
begins_lower_at uses segments i = begins_lower uses (get_or segments i no_segment)

-- no field is bad, no list strays, and positions fall as often as from one list to the next
unfoldable pub uses_fit : Limits → List Use → List Segment → Bool
uses_fit limits uses segments =
    eqb (count_below (bad_field_at uses) (length uses)) 0 && eqb (count_below (strays_at limits uses segments) (length segments)) 0
    && eqb (count_below (begins_lower_at uses segments) (length segments)) (count_below (falls_at uses) (length uses))

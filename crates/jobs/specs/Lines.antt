-- Document 01's table, lines 4 to 11: what breaks each line, by place
use Rattle.std.specs.Prelude.{◌≡◌, ℕ, ◌+◌, ◌-◌, ◌*◌, ◌/◌, ◌%◌, ◌≤◌, ◌<◌, Bool, not, ◌&&◌, ◌||◌, cond, List, leb, ltb, eqb, length, get_or}
use Rattle.columns.specs.Table.{row_before}
use Rattle.columns.specs.Below.{count_below, any_below}
use Rattle.numbers.specs.Weight.{weight_limit, cost_limit}
use Rattle.numbers.specs.Point.{round_up}
use Rattle.columns.specs.First.{first_below}
use Rattle.jobs.specs.Rows.{no_segment, no_use, no_reservation, no_fixed_use, live_out, fixed_def}
use Rattle.jobs.specs.declared.rows.Segment.{Segment}
use Rattle.jobs.specs.declared.rows.Use.{Use}
use Rattle.jobs.specs.declared.rows.Reservation.{Reservation}
use Rattle.jobs.specs.declared.rows.FixedUse.{FixedUse}
use Rattle.jobs.specs.declared.rows.Limits.{Limits}

-- a number above a limit
abbrev pub above : ℕ → List ℕ → ℕ → Bool
above limit col i = ltb limit (get_or col i 0)

-- line 4: a rematerialisation code above 3
abbrev pub bad_value : List ℕ → ℕ → Bool
bad_value codes = above 3 codes

-- line 5, of a segment after another: its bounds, value and flags
unfoldable pub bad_bounds : Limits → Segment → Segment → Bool
bad_bounds limits last s =
    leb s.end s.start || eqb (s.start % 4) 3 || eqb (s.end % 4) 3 || ltb limits.end s.end || ltb s.start last.end
    || leb limits.values s.value || ltb 15 s.flags

-- line 5, of a segment after another: its use list, which begins where that one's ended, and ends with the uses if it is the last
unfoldable pub bad_list : Limits → Segment → Bool → Segment → Bool
bad_list limits last is_last s =
    not (eqb s.first_use last.end_use) || ltb s.end_use s.first_use || ltb limits.uses s.end_use
    || (is_last && ltb s.end_use limits.uses)

-- segment i breaks line 5
abbrev pub bad_segment : Limits → List Segment → ℕ → Bool
bad_segment limits segments i =
    bad_bounds limits (row_before segments no_segment i) (get_or segments i no_segment)
    || bad_list limits (row_before segments no_segment i) (eqb (i + 1) (length segments)) (get_or segments i no_segment)

-- line 6, of a segment: the fixed-def flag, and the start isn't a Boundary of instruction 1 or later, or the first use is missing or isn't
-- kind 0 at the instruction before
unfoldable pub bad_def : List Use → Segment → Bool
bad_def uses s =
    let u = get_or uses s.first_use no_use in
    fixed_def s.flags
    && (not (eqb (s.start % 4) 0) || ltb s.start 4 || leb s.end_use s.first_use
    || not (eqb u.kind 0) || not (eqb u.position (s.start / 4 - 1)))

-- some use of a segment's list is at an instruction
abbrev pub has_use_at : List Use → Segment → ℕ → Bool
has_use_at uses s p = any_below (λ (k : ℕ). eqb (get_or uses (s.first_use + k) no_use).position p) (s.end_use - s.first_use)

-- line 8, of the last segment, not live-out: without a use, or with an end that, rounded up to an instruction, is later than one after its
-- last use
abbrev pub bad_last_end : List Use → Segment → Bool
bad_last_end uses s = leb s.end_use s.first_use || ltb ((get_or uses (s.end_use - 1) no_use).position + 1) (round_up s.end)

-- line 8, of a segment: live-out, and its end isn't a Boundary or it has a use at its end's instruction; or the last one, not live-out, and as
-- just said
unfoldable pub bad_end : List Use → Bool → Segment → Bool
bad_end uses is_last s =
    cond (live_out s.flags) (not (eqb (s.end % 4) 0) || has_use_at uses s (s.end / 4)) (is_last && bad_last_end uses s)

-- segment i breaks line 6, or line 8
abbrev pub bad_def_at : List Use → List Segment → ℕ → Bool
bad_def_at uses segments i = bad_def uses (get_or segments i no_segment)

abbrev pub bad_end_at : List Use → List Segment → ℕ → Bool
bad_end_at uses segments i = bad_end uses (eqb (i + 1) (length segments)) (get_or segments i no_segment)

-- line 9: spill weight bits above infinity's
abbrev pub bad_weight : List ℕ → ℕ → Bool
bad_weight weights = above weight_limit weights

-- line 11, of a fixed use after one of a unit at a point: unit unknown or falling, point no Boundary inside the blocks or falling within
-- the unit, value unknown
unfoldable pub bad_fixed_use : Limits → FixedUse → FixedUse → Bool
bad_fixed_use limits last f =
    leb limits.units f.unit || ltb f.unit last.unit || leb limits.values f.value || not (eqb (f.point % 4) 0) || leb limits.end f.point
    || (eqb f.unit last.unit && ltb f.point last.point)

-- fixed use i breaks line 11
abbrev pub bad_fixed_use_at : Limits → List FixedUse → ℕ → Bool
bad_fixed_use_at limits fixed_uses i = bad_fixed_use limits (row_before fixed_uses no_fixed_use i) (get_or fixed_uses i no_fixed_use)

-- how many fixed uses a unit has, wherever they stand
abbrev pub fixed_of : List FixedUse → ℕ → ℕ
fixed_of fixed_uses unit = count_below (λ (i : ℕ). eqb (get_or fixed_uses i no_fixed_use).unit unit) (length fixed_uses)

-- the fixed row of a reservation that has none
abbrev pub no_fixed : ℕ
no_fixed = 4294967295

-- line 10, of a row after another: unit unknown or falling, or a span that is empty, has slot 3, passes the last block's end or, within a
-- unit, starts before the other's end
unfoldable pub bad_span : Limits → Reservation → Reservation → Bool
bad_span limits last r =
    leb limits.units r.unit || ltb r.unit last.unit
    || leb r.end r.start || eqb (r.start % 4) 3 || eqb (r.end % 4) 3 || ltb limits.end r.end
    || (eqb r.unit last.unit && ltb r.start last.end)

-- line 10, of a row whose unit has a number of fixed uses: kind 0 with a spill weight and a fixed row or none, kind 1 with 0 and 0, kind 2
-- with a value and 0; anything else is bad
unfoldable pub bad_kind : Limits → ℕ → Reservation → Bool
bad_kind limits have r =
    cond (eqb r.kind 0) (leb limits.weights r.index || (not (eqb r.fixed no_fixed) && leb have r.fixed))
    (not (eqb r.fixed 0) || cond (eqb r.kind 1) (not (eqb r.index 0)) (not (eqb r.kind 2) || leb limits.values r.index))

-- reservation i breaks line 10
abbrev pub bad_reservation : Limits → List FixedUse → List Reservation → ℕ → Bool
bad_reservation limits fixed_uses reservations i =
    bad_span limits (row_before reservations no_reservation i) (get_or reservations i no_reservation)
    || bad_kind limits (fixed_of fixed_uses (get_or reservations i no_reservation).unit) (get_or reservations i no_reservation)

-- the largest cost field of a kind: fixed uses 1 for memory, class uses the cost limit, others 0
abbrev pub cost_most : ℕ → ℕ
cost_most kind = cond (ltb kind 2) 1 (cond (ltb kind 4) 0 (cond (ltb kind 8) cost_limit 0))

-- a use at an instruction needs 4 × (instruction + 1) above the start and 4 × instruction at most the end
abbrev pub lies_outside : Segment → Use → Bool
lies_outside s u = leb (4 * (u.position + 1)) s.start || ltb s.end (4 * u.position)

-- line 7, of a use of a segment after another use: kind above 9, bad cost field, position falling within the segment, at or past the last
-- block's end, or outside the segment, from which the first use of a fixed def is free
unfoldable pub bad_use : Limits → Segment → Bool → Use → Use → Bool
bad_use limits s isFirst last u =
    ltb 9 u.kind || ltb (cost_most u.kind) u.cost || leb limits.end (4 * u.position) || (not isFirst && ltb u.position last.position)
    || (not (isFirst && fixed_def s.flags) && lies_outside s u)

-- the segment that lists a use
abbrev pub list_of : List Segment → ℕ → ℕ
list_of segments u = first_below (λ (i : ℕ). ltb u (get_or segments i no_segment).end_use) (length segments)

-- use u of segment s breaks line 7
abbrev pub bad_use_of : Limits → List Use → Segment → ℕ → Bool
bad_use_of limits uses s u = bad_use limits s (eqb u s.first_use) (row_before uses no_use u) (get_or uses u no_use)

-- use u breaks line 7
abbrev pub bad_use_at : Limits → List Use → List Segment → ℕ → Bool
bad_use_at limits uses segments u = bad_use_of limits uses (get_or segments (list_of segments u) no_segment) u

-- what line 7 relies on: use lists that follow one another from the first use to the last, as line 5 leaves them
pub record Lists (uses : ℕ) (segments : List Segment) : Type 0 where
  pub some : 0 < length segments
  pub follows : (i : ℕ) → i < length segments → (get_or segments i no_segment).first_use ≡ (row_before segments no_segment i).end_use
  pub forward : (i : ℕ) → i < length segments → (get_or segments i no_segment).first_use ≤ (get_or segments i no_segment).end_use
  pub inside : (i : ℕ) → i < length segments → (get_or segments i no_segment).end_use ≤ uses
  pub all : (row_before segments no_segment (length segments)).end_use ≡ uses

-- ---- for the contract of `first_bad_end`, which looks at the last use of each list alone: after line 7 that decides (proofs/LastUse)
-- the last use of a segment's list is at an instruction
abbrev pub last_use_at : List Use → Segment → ℕ → Bool
last_use_at uses s p = ltb s.first_use s.end_use && eqb (get_or uses (s.end_use - 1) no_use).position p

-- line 8, of a segment, by its last use
unfoldable pub bad_end_by_last : List Use → Bool → Segment → Bool
bad_end_by_last uses is_last s =
    cond (live_out s.flags) (not (eqb (s.end % 4) 0) || last_use_at uses s (s.end / 4)) (is_last && bad_last_end uses s)

abbrev pub bad_end_by_last_at : List Use → List Segment → ℕ → Bool
bad_end_by_last_at uses segments i = bad_end_by_last uses (eqb (i + 1) (length segments)) (get_or segments i no_segment)

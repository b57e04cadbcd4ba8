-- Document 01's table of refusals as a list of lines in its order, lines 1 to 11, and the first line broken
use Rattle.std.specs.Prelude.{◌≡◌, ℕ, ◌-◌, ◌*◌, ◌≤◌, ◌<◌, Bool, true, false, ◌||◌, cond, List, [], ◌∷◌, ltb, eqb, length, get_or}
use Rattle.numbers.specs.Weight.{cost_limit}
use Rattle.columns.specs.First.{first_below}
use Rattle.links.specs.Blocks.{BlockRow, bad_block, item_limit, end_limit, refusal, Checked, no_refusal}
use Rattle.jobs.specs.declared.rows.Segment.{Segment}
use Rattle.jobs.specs.declared.rows.Use.{Use}
use Rattle.jobs.specs.declared.rows.Reservation.{Reservation}
use Rattle.jobs.specs.declared.rows.FixedUse.{FixedUse}
use Rattle.jobs.specs.declared.rows.Limits.{Limits}
use Rattle.jobs.specs.Lines.{bad_value, bad_segment, bad_def_at, bad_use_at, bad_end_at, bad_weight, bad_reservation, bad_fixed_use_at}
use Rattle.refusals.specs.declared.job.Sizes.{Sizes}
use Rattle.refusals.specs.Job.{Job, sizes_of, limits_of}

-- a line of the table: its number, how many places it speaks of, and whether it is broken at a place
pub record Line : Type 0 where
  pub number : ℕ
  pub places : ℕ
  pub broken : ℕ → Bool

-- the first line with a place at which it is broken, by its number and its first such place; no_refusal if there is none
unfoldable pub first_broken : List Line → Checked
first_broken [] = no_refusal
first_broken (l ∷ ls) =
    let place = first_below l.broken l.places in
    cond (ltb place l.places) (refusal l.number place) (first_broken ls)

-- the limits of lines 1 and 2
abbrev pub adjustment_limit : ℕ
adjustment_limit = 65536

abbrev pub unit_limit : ℕ
unit_limit = 8

-- adjustment k above 65,536, or a scale above 1199570944 (65536.0)
unfoldable pub bad_parameters : ℕ → ℕ → ℕ → ℕ → Bool
bad_parameters k move load indirect = ltb adjustment_limit k || ltb cost_limit move || ltb cost_limit load || ltb cost_limit indirect

-- some input table above 4,096 items
unfoldable pub some_long : Sizes → Bool
some_long t =
    ltb item_limit t.blocks || ltb item_limit t.values || ltb item_limit t.segments || ltb item_limit t.uses || ltb item_limit t.weights
    || ltb item_limit t.reservations || ltb item_limit t.fixed_uses

-- no block, no segment, units not 1 to 8, or any input table above 4,096 items
unfoldable pub bad_sizes : ℕ → Sizes → Bool
bad_sizes units t = eqb t.blocks 0 || eqb t.segments 0 || eqb units 0 || ltb unit_limit units || some_long t

-- adjustment k above 65,536, or a scale above 1199570944 (65536.0)
abbrev pub line1 : ℕ → ℕ → ℕ → ℕ → Line
line1 k move load indirect = record { number = 1; places = 1; broken = λ (_ : ℕ). bad_parameters k move load indirect }

-- no block, no segment, units not 1 to 8, or any input table above 4,096 items
abbrev pub line2 : ℕ → Sizes → Line
line2 units sizes = record { number = 2; places = 1; broken = λ (_ : ℕ). bad_sizes units sizes }

-- block list doesn't run from instruction 0 without hole or empty block, ends above 262,144, or frequency bits above 2139095039
abbrev pub line3 : List BlockRow → Line
line3 blocks = record { number = 3; places = length blocks; broken = bad_block blocks }

-- rematerialisation code above 3
abbrev pub line4 : List ℕ → Line
line4 codes = record { number = 4; places = length codes; broken = bad_value codes }

-- segment: start not below end, slot 3, end above 4 times the last block's end, start before the previous end, unknown value,
-- flags above 15, use list not starting where the last one ended (0 at first), ending before it starts or past the uses, or, for
-- the last, short of them
abbrev pub line5 : Limits → List Segment → Line
line5 limits segments = record { number = 5; places = length segments; broken = bad_segment limits segments }

-- fixed-def flag, and the start isn't a Boundary of instruction 1 or later, or the first use is missing or isn't kind 0 at the
-- instruction before
abbrev pub line6 : List Use → List Segment → Line
line6 uses segments = record { number = 6; places = length segments; broken = bad_def_at uses segments }

-- use: kind above 9, bad cost field, position falling within its segment, at or past the last block's end, or outside its segment
abbrev pub line7 : Limits → List Use → List Segment → Line
line7 limits uses segments = record { number = 7; places = length uses; broken = bad_use_at limits uses segments }

-- live-out segment whose end isn't a Boundary or that has a use at its end's instruction; last segment not live-out and either
-- without a use or with an end that, rounded up to an instruction, is later than one after its last use
abbrev pub line8 : List Use → List Segment → Line
line8 uses segments = record { number = 8; places = length segments; broken = bad_end_at uses segments }

-- spill weight bits above 2139095040 (infinity)
abbrev pub line9 : List ℕ → Line
line9 weights = record { number = 9; places = length weights; broken = bad_weight weights }

-- reservation row: what a bad one is stands in `bad_reservation` of jobs
abbrev pub line10 : Limits → List FixedUse → List Reservation → Line
line10 limits fixed_uses reservations = record { number = 10; places = length reservations; broken = bad_reservation limits fixed_uses reservations }

-- fixed-use row: what a bad one is stands in `bad_fixed_use_at` of jobs
abbrev pub line11 : Limits → List FixedUse → Line
line11 limits fixed_uses = record { number = 11; places = length fixed_uses; broken = bad_fixed_use_at limits fixed_uses }

-- lines 1 to 11: what a job alone is held to, in the table's order
abbrev pub job_lines : Job → List Line
job_lines job =
    line1 job.k job.cheaper_than_move job.cheaper_than_load job.indirect
    ∷ line2 job.units (sizes_of job)
    ∷ line3 job.blocks
    ∷ line4 job.codes
    ∷ line5 (limits_of job) job.segments
    ∷ line6 job.uses job.segments
    ∷ line7 (limits_of job) job.uses job.segments
    ∷ line8 job.uses job.segments
    ∷ line9 job.weights
    ∷ line10 (limits_of job) job.fixed_uses job.reservations
    ∷ line11 (limits_of job) job.fixed_uses
    ∷ []

-- what a job alone is refused for
abbrev pub table_refusal_of : Job → Checked
table_refusal_of job = first_broken (job_lines job)

-- the answer of a line of so many places whose first bad place is given: the number of places if there is none
abbrev pub verdict_of : ℕ → ℕ → ℕ → Checked
verdict_of number bad places = cond (ltb bad places) (refusal number bad) no_refusal

-- ---- what makes an answer exact: proofs/FirstBroken
-- no line
abbrev pub no_line : Line
no_line = record { number = 0; places = 0; broken = λ (_ : ℕ). false }

-- a line that is broken at no place
abbrev pub Passed : Line → Type 0
Passed l = (p : ℕ) → p < l.places → l.broken p ≡ false

-- a line that is broken at a place, and at none before it
pub record FirstAt (l : Line) (p : ℕ) : Type 0 where
  pub inside : p < l.places
  pub broken : l.broken p ≡ true
  pub before : (q : ℕ) → q < p → l.broken q ≡ false

-- the line that stands at place i of a list has number n and is first broken at p; those before it in the list have passed
pub record Reported (ls : List Line) (n p i : ℕ) : Type 0 where
  pub inside : i < length ls
  pub number : (get_or ls i no_line).number ≡ n
  pub here : FirstAt (get_or ls i no_line) p
  pub before : (j : ℕ) → j < i → Passed (get_or ls j no_line)

-- some line of a list is reported
pub record SomeReported (ls : List Line) (n p : ℕ) : Type 0 where
  pub at : ℕ
  pub reported : Reported ls n p at

-- ---- for contracts of private functions
-- what lines 5 to 8 rely on: line 2 has passed, and the limits count the uses
pub record FewSegments (limits : Limits) (uses : List Use) (segments : List Segment) : Type 0 where
  pub some : 0 < length segments
  pub few_segments : length segments ≤ item_limit
  pub few_uses : length uses ≤ item_limit
  pub counted : limits.uses ≡ length uses

-- what lines 9 to 11 rely on: line 2 has passed
pub record Few (w e f : ℕ) : Type 0 where
  pub weights : w ≤ item_limit
  pub reservations : e ≤ item_limit
  pub fixed_uses : f ≤ item_limit

-- what the limits rely on: the last of n blocks has an end, and line 3 has passed it
pub record LastEnd (ends : List ℕ) (n : ℕ) : Type 0 where
  pub some : 0 < n
  pub inside : n ≤ length ends
  pub limited : get_or ends (n - 1) 0 ≤ end_limit

-- the limits that columns of a job give, by the sizes of its tables
abbrev pub limits_by : List ℕ → ℕ → Sizes → Limits
limits_by ends units t = record { values = t.values; uses = t.uses; weights = t.weights; units = units; end = 4 * get_or ends (t.blocks - 1) 0 }

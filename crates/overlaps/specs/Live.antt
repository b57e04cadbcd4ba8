-- Live instructions
use Rattle.std.specs.Prelude.{◌≡◌, ℕ, ◌+◌, ◌-◌, ◌*◌, ◌≤◌, ◌<◌, min, max, Bool, ◌&&◌, List, map, leb, ltb, length, get_or}
use Rattle.columns.specs.Below.{count_below, sum_below, any_below}
use Rattle.numbers.specs.Point.{inst_of, round_up}
use Rattle.links.specs.Blocks.{end_limit}
use Rattle.columns.specs.Table.{table, row_before}
use Rattle.jobs.specs.declared.rows.Segment.{Segment}

-- the starts of segments, and their ends
abbrev pub starts_in : List Segment → List ℕ
starts_in segments = map (λ (s : Segment). s.start) segments

abbrev pub ends_in : List Segment → List ℕ
ends_in segments = map (λ (s : Segment). s.end) segments

-- the live instructions of segment i begin at its start's instruction, or where those of the segment before ended if that is later
abbrev pub live_from : List ℕ → List ℕ → ℕ → ℕ
live_from starts ends i = max (round_up (row_before ends 0 i)) (inst_of (get_or starts i 0))

-- and end before its end, rounded up
abbrev pub live_to : List ℕ → ℕ → ℕ
live_to ends i = round_up (get_or ends i 0)

-- how many there are
abbrev pub live_of : List ℕ → List ℕ → ℕ → ℕ
live_of starts ends i = live_to ends i - live_from starts ends i

-- the live instructions of the segments alone
abbrev pub live_insts : List ℕ → List ℕ → ℕ
live_insts starts ends = sum_below (live_of starts ends) (length starts)

-- segment s covers instruction i: points of it lie from 4i to before 4(i + 1)
abbrev pub covers_inst : List ℕ → List ℕ → ℕ → ℕ → Bool
covers_inst starts ends i s = ltb (get_or starts s 0) (4 * (i + 1)) && ltb (4 * i) (get_or ends s 0)

-- some segment covers it
abbrev pub covered : List ℕ → List ℕ → ℕ → Bool
covered starts ends i = any_below (covers_inst starts ends i) (length starts)

-- how many of the instructions from one to before another some segment covers
abbrev pub covered_in : List ℕ → List ℕ → ℕ → ℕ → ℕ
covered_in starts ends from to = count_below (λ (i : ℕ). covered starts ends i && leb from i) to

-- what line 5 leaves: segments are nonempty, start at or after the end before, and end inside the blocks
pub record Segments (starts ends : List ℕ) : Type 0 where
  pub long : length ends ≡ length starts
  pub nonempty : (i : ℕ) → i < length starts → get_or starts i 0 < get_or ends i 0
  pub after : (i : ℕ) → i < length starts → row_before ends 0 i ≤ get_or starts i 0
  pub inside : (i : ℕ) → i < length starts → get_or ends i 0 ≤ 4 * end_limit

-- a list of segments that it leaves
abbrev pub SoundSegments : List Segment → Type 0
SoundSegments segments = Segments (starts_in segments) (ends_in segments)

-- how many of the instructions from a to before e lie from f to before t
abbrev pub overlap : ℕ → ℕ → ℕ → ℕ → ℕ
overlap a e f t = min e t - max a f

-- what segment i adds to a gap's live instructions
abbrev pub live_added : List ℕ → List ℕ → ℕ → ℕ → ℕ → ℕ
live_added starts ends from to i = overlap (live_from starts ends i) (live_to ends i) from to

-- a gap's live instructions
abbrev pub live_in_gap : List ℕ → List ℕ → ℕ → ℕ → ℕ
live_in_gap starts ends from to = sum_below (live_added starts ends from to) (length starts)

-- the live instructions of each gap
abbrev pub live_column : List ℕ → List ℕ → List ℕ → List ℕ → List ℕ
live_column starts ends froms tos = table (λ (g : ℕ). live_in_gap starts ends (get_or froms g 0) (get_or tos g 0)) (length froms)

-- gaps are nonempty, each begins where the one before ends, and the last ends inside the blocks
pub record Gaps (froms tos : List ℕ) : Type 0 where
  pub long : length tos ≡ length froms
  pub nonempty : (g : ℕ) → g < length froms → get_or froms g 0 < get_or tos g 0
  pub follows : (g : ℕ) → g + 1 < length froms → get_or froms (g + 1) 0 ≡ get_or tos g 0
  pub inside : (g : ℕ) → g < length froms → get_or tos g 0 ≤ end_limit

-- the gaps reach from the first live instruction to the last
pub record Reach (starts ends froms tos : List ℕ) : Type 0 where
  pub some : 0 < length froms
  pub first : (i : ℕ) → i < length starts → get_or froms 0 0 ≤ live_from starts ends i
  pub last : (i : ℕ) → i < length starts → live_to ends i ≤ get_or tos (length froms - 1) 0

-- Segments that pass the gaps, in which their live instructions are counted
use Rattle.std.specs.Prelude.{◌≡◌, ℕ, zero, suc, ◌+◌, ◌-◌, ◌≤◌, ◌<◌, max, List, length, get_or}
use Rattle.numbers.specs.Point.{inst_of, round_up}
use Rattle.links.specs.Blocks.{end_limit}
use Rattle.overlaps.specs.Live.{overlap}
use Rattle.overlaps.specs.GapSegments.{EndedBy}
use Rattle.overlaps.specs.declared.passing.PassingSegment.{PassingSegment}

-- segment i, behind live instructions that end at `last`
abbrev pub passing_segment : List ℕ → List ℕ → List ℕ → ℕ → ℕ → PassingSegment
passing_segment starts ends values i last =
    record {
      start = record { 0 = get_or starts i 0 };
      end = record { 0 = get_or ends i 0 };
      value = record { 0 = get_or values i 0 };
      live_from = record { 0 = max last (inst_of (get_or starts i 0)) };
      live_to = record { 0 = round_up (get_or ends i 0) };
    }

-- a segment that comes to a gap: earlier gaps end by its start, and what is held of this one lies before its live instructions
pub record Passing (froms tos : List ℕ) (s : PassingSegment) (gap held : ℕ) : Type 0 where
  pub nonempty : s.start.0 < s.end.0
  pub order : s.live_from.0 ≤ s.live_to.0
  pub end : s.live_to.0 ≡ round_up s.end.0
  pub inside : s.live_to.0 ≤ end_limit
  pub ended : EndedBy froms tos s.start.0 gap
  pub before : held ≤ s.live_from.0

-- how many of its live instructions lie in a gap
abbrev pub live_in : PassingSegment → List ℕ → List ℕ → ℕ → ℕ
live_in s froms tos g = overlap s.live_from.0 s.live_to.0 (get_or froms g 0) (get_or tos g 0)

-- what is counted of the k-th gap from one on before a segment comes: of the first what is held, of later ones nothing
abbrev pub held_at : ℕ → ℕ → ℕ
held_at held zero = held
held_at held (suc k) = 0

-- the first n rows of a column, or of the rest of it that is lent on, are set, and the others are as they were
pub record RowsSet (row : ℕ → ℕ) (n : ℕ) (lent now : List ℕ) : Type 0 where
  pub long : length now ≡ length lent
  pub rows : (k : ℕ) → k < n → get_or now k 0 ≡ row k
  pub others : (k : ℕ) → n ≤ k → get_or now k 0 ≡ get_or lent k 0

-- a segment went from a gap on to another: in what is lent of the live column the gaps passed have their rows, of the other one its count is
-- held, and no later gap has any of its live instructions
pub record CountedIn (froms tos : List ℕ) (s : PassingSegment) (gap held : ℕ) (lent now : List ℕ) (gap' held' : ℕ) : Type 0 where
  pub on : gap ≤ gap'
  pub passed : RowsSet (λ (k : ℕ). held_at held k + live_in s froms tos (gap + k)) (gap' - gap) lent now
  pub holds : held' ≡ held_at held (gap' - gap) + live_in s froms tos gap'
  pub none : (g : ℕ) → gap' < g → live_in s froms tos g ≡ 0

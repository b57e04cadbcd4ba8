-- Line 12: the rows that the lent work tables have, and the rows that they need; the twelve lines
use Rattle.std.specs.Prelude.{ℕ, ◌+◌, ◌≤◌, Bool, List, [], ◌∷◌, ◌++◌, ltb, get_or}
use Rattle.links.specs.Blocks.{item_limit, Checked}
use Rattle.filling.specs.declared.lent.Rooms.{Rooms}
use Rattle.refusals.specs.declared.job.Sizes.{Sizes}
use Rattle.refusals.specs.Job.{Job, sizes_of}
use Rattle.refusals.specs.Refusals.{Line, first_broken, job_lines}

-- the rows that each work table needs, in their order: uses U+2, gaps U+B+2, gap segments U+B+S+2, links B
abbrev pub rooms_needed : Sizes → List ℕ
rooms_needed t = (t.uses + 2) ∷ (t.uses + t.blocks + 2) ∷ (t.uses + t.blocks + t.segments + 2) ∷ t.blocks ∷ []

-- the rows that each work table has, in the same order
abbrev pub rooms_lent : Rooms → List ℕ
rooms_lent r = r.uses ∷ r.gaps ∷ r.gap_segments ∷ r.links ∷ []

-- work table too short
abbrev pub too_short : Sizes → Rooms → ℕ → Bool
too_short t r i = ltb (get_or (rooms_lent r) i 0) (get_or (rooms_needed t) i 0)

-- work table too short: uses U+2, gaps U+B+2, gap segments U+B+S+2, links B
abbrev pub line12 : Sizes → Rooms → Line
line12 sizes rooms = record { number = 12; places = 4; broken = too_short sizes rooms }

-- lines 1 to 12: what a job is held to with the tables that are lent
abbrev pub lines : Job → Rooms → List Line
lines job rooms = job_lines job ++ (line12 (sizes_of job) rooms ∷ [])

-- what a job is refused for with the tables that are lent
abbrev pub refusal_of : Job → Rooms → Checked
refusal_of job rooms = first_broken (lines job rooms)

-- ---- for contracts of private functions
-- what line 12 relies on: line 2 has passed
pub record FewItems (t : Sizes) : Type 0 where
  pub blocks : t.blocks ≤ item_limit
  pub segments : t.segments ≤ item_limit
  pub uses : t.uses ≤ item_limit

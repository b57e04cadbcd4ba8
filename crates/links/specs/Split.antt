-- The lower-cost split point
use Rattle.std.specs.Prelude.{ℕ, zero, suc, ◌+◌, ◌-◌, ◌≤◌, ◌<◌, Bool, true, false, ◌&&◌, ◌||◌, cond, List, [], ◌∷◌, map, ◌≡◌, leb, ltb, eqb, length, get_or, Result, Ok}
use Rattle.links.specs.Blocks.{BlockRow, blocks_of, block_at, start_of, block_of, check_of, SoundBlocks, Checked}
use Rattle.links.specs.Links.{lower_link, Frequencies}
use Rattle.links.specs.declared.lower.Side.{Side}
use Rattle.links.specs.declared.lower.Side.TheVariants.{Previous, Next}
use Rattle.std.specs.Prelude.{Err}
use Rattle.numbers.specs.declared.Inst.{Inst}
use Rattle.links.specs.declared.blocks.Refusal.{Refusal}

-- the blocks reached from block b by following lower links, as long as they are allowed; a block with no lower link ends the chain
unfoldable pub follow : Side → List ℕ → (ℕ → Bool) → ℕ → ℕ → List ℕ
follow side freqs allowed zero b = []
follow side freqs allowed (suc n) b =
    let c = lower_link side freqs b in
    let rest = c ∷ follow side freqs allowed n c in
    cond (ltb c (length freqs) && allowed c) rest []

-- the last of a list, or what stands before it
abbrev pub last_or : ℕ → List ℕ → ℕ
last_or x [] = x
last_or x (y ∷ ys) = last_or y ys

-- a block's split point: late, its end; early, its start
abbrev pub edge : Side → BlockRow → ℕ
edge Previous b = b.end
edge Next b = b.first

-- the split point that is preferred: late, before; early, the instruction after `after`
abbrev pub preferred : Side → ℕ → ℕ → ℕ
preferred Previous after before = before
preferred Next after before = after + 1

-- the instruction whose block the search starts from
abbrev pub home : Side → ℕ → ℕ → ℕ
home Previous after before = before - 1
home Next after before = after + 1

-- the point that a search from one end must not pass
abbrev pub farthest : Side → ℕ → ℕ → ℕ
farthest Previous after before = after + 1
farthest Next after before = before

-- a place that does not pass it
abbrev pub reaches : Side → ℕ → ℕ → Bool
reaches Previous limit place = leb limit place
reaches Next limit place = leb place limit

-- a place that a search between after and before may take
abbrev pub within : Side → List BlockRow → ℕ → ℕ → ℕ → Bool
within side blocks after before c = reaches side (farthest side after before) (edge side (block_at blocks c))

-- the lower-cost split point: that of the last block that lower links reach between after and before, or the preferred one; between
-- neighbours there is one point only
unfoldable pub split_point : Side → List BlockRow → ℕ → ℕ → ℕ
split_point side blocks after before =
    let freqs = map (λ (b : BlockRow). b.frequency) blocks in
    let reached = follow side freqs (within side blocks after before) (length blocks) (block_of blocks (home side after before)) in
    let last = last_or (preferred side after before) (map (λ (c : ℕ). edge side (block_at blocks c)) reached) in
    cond (eqb (after + 1) before) before last

-- the check's refusal, or else the answer
abbrev pub if_sound : {A : Type 0} → Checked → Result A Refusal → Result A Refusal
if_sound (Ok u) answer = answer
if_sound (Err r) answer = Err r

-- early follows the next links, late the previous ones
abbrev pub side_of : Bool → Side
side_of true = Next
side_of false = Previous

-- the instruction before which the split stands, or the refusal of the call
abbrev pub SplitPoint : Type 0
SplitPoint = Result Inst Refusal

-- the answer to the call: refusals 2 and 3, then 13, then the split point
unfoldable pub split_answer : List BlockRow → ℕ → ℕ → Bool → SplitPoint
split_answer blocks after before early =
    if_sound (check_of blocks)
    (cond (leb before after || ltb (start_of blocks (length blocks)) before) (Err (record { number = 13; place = 0 }))
    (Ok (record { 0 = split_point (side_of early) blocks after before })))

-- ---- for contracts of private functions
-- what a sweep over the blocks relies on, of a block list that the checks have passed: `edges` are their ends or their starts
pub record Swept (freqs edges : List ℕ) (b : ℕ) : Type 0 where
  pub inside : b < length freqs
  pub given : Frequencies freqs (length edges)
  pub rising : (i k : ℕ) → i ≤ k → k < length freqs → get_or edges i 0 ≤ get_or edges k 0

-- the last place that lower links reach from block b
abbrev pub last_reached : Side → List ℕ → List ℕ → ℕ → ℕ → ℕ → ℕ
last_reached side freqs edges limit start b =
    last_or start (map (λ (c : ℕ). get_or edges c 0) (follow side freqs (λ (c : ℕ). reaches side limit (get_or edges c 0)) (length freqs) b))

-- what the search relies on: columns of one length that hold a sound block list, and after and before in order and inside it
pub record Between (freqs firsts ends : List ℕ) (after before : ℕ) : Type 0 where
  pub firsts_long : length firsts ≡ length freqs
  pub ends_long : length ends ≡ length freqs
  pub sound : SoundBlocks (blocks_of freqs firsts ends)
  pub order : after < before
  pub inside : before ≤ start_of (blocks_of freqs firsts ends) (length (blocks_of freqs firsts ends))

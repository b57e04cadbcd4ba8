-- The block list: its rows, refusals 2 and 3, and the block of an instruction
use Rattle.std.specs.Prelude.{ℕ, zero, suc, ◌-◌, ◌<◌, ◌≤◌, ◌≡◌, Bool, false, not, ◌&&◌, ◌||◌, cond, List, [], ◌∷◌, leb, ltb, eqb, length, get_or, Result, Ok, Err}
use Rattle.numbers.specs.Weight.{frequency_limit}
use Rattle.columns.specs.First.{first_below, Searchable}
use Rattle.columns.specs.Table.{table, shortest}
use Rattle.links.specs.declared.blocks.Refusal.{Refusal}

-- a block: frequency bits, first instruction, the instruction after its last
pub record BlockRow : Type 0 where
  pub frequency : ℕ
  pub first : ℕ
  pub end : ℕ

-- no block
abbrev pub no_block : BlockRow
no_block = record { frequency = 0; first = 0; end = 0 }

-- the block list that three lent columns hold
abbrev pub blocks_of : List ℕ → List ℕ → List ℕ → List BlockRow
blocks_of freqs firsts ends =
    table (λ (i : ℕ). record { frequency = get_or freqs i 0; first = get_or firsts i 0; end = get_or ends i 0 })
    (shortest (length freqs ∷ length firsts ∷ length ends ∷ []))

-- block i
abbrev pub block_at : List BlockRow → ℕ → BlockRow
block_at blocks i = get_or blocks i no_block

-- where block i has to start: at instruction 0, or where the block before it ends
abbrev pub start_of : List BlockRow → ℕ → ℕ
start_of blocks zero = 0
start_of blocks (suc i) = (block_at blocks i).end

-- limits: 4,096 items in a table, block ends up to 262,144
abbrev pub item_limit : ℕ
item_limit = 4096

abbrev pub end_limit : ℕ
end_limit = 262144

-- a block that has to start at a place breaks line 3: it leaves a hole or overlaps, is empty, ends above the limit or has bad frequency bits
unfoldable pub is_bad : ℕ → BlockRow → Bool
is_bad start b = not (eqb b.first start) || leb b.end b.first || ltb end_limit b.end || ltb frequency_limit b.frequency

-- block i breaks line 3
abbrev pub bad_block : List BlockRow → ℕ → Bool
bad_block blocks i = is_bad (start_of blocks i) (block_at blocks i)

-- a table without fault, or its refusal
abbrev pub Checked : Type 0
Checked = Result Unit Refusal

-- without fault
abbrev pub no_refusal : Checked
no_refusal = Ok tt

-- a refusal of document 01's table
abbrev pub refusal : ℕ → ℕ → Checked
refusal number place = Err (record { number = number; place = place })

-- the block list's part of line 2, then line 3 at its first bad block
unfoldable pub check_of : List BlockRow → Checked
check_of blocks =
    let n = length blocks in
    let bad = first_below (bad_block blocks) n in
    cond (eqb n 0 || ltb item_limit n) (refusal 2 0) (cond (ltb bad n) (refusal 3 bad) no_refusal)

-- a sound block list breaks neither line
pub record SoundBlocks (blocks : List BlockRow) : Type 0 where
  pub some : 0 < length blocks
  pub few : length blocks ≤ item_limit
  pub each : (i : ℕ) → i < length blocks → bad_block blocks i ≡ false

-- the columns of a sound block list, all of one length
pub record SoundColumns (freqs firsts ends : List ℕ) : Type 0 where
  pub firsts_long : length firsts ≡ length freqs
  pub ends_long : length ends ≡ length freqs
  pub sound : SoundBlocks (blocks_of freqs firsts ends)

-- block i's range holds an instruction
abbrev pub holds : List BlockRow → ℕ → ℕ → Bool
holds blocks inst i = leb (block_at blocks i).first inst && ltb inst (block_at blocks i).end

-- the block of an instruction: the one whose range holds it
unfoldable pub block_of : List BlockRow → ℕ → ℕ
block_of blocks inst = first_below (holds blocks inst) (length blocks)

-- the same in the column of ends: the first of n blocks that ends after the instruction
abbrev pub block_in : List ℕ → ℕ → ℕ → ℕ
block_in ends n inst = first_below (λ (i : ℕ). ltb inst (get_or ends i 0)) n

-- what a search for an instruction's block relies on: ends that do not fall, the instruction before the last of them
pub record Ends (ends : List ℕ) (n inst : ℕ) : Type 0 where
  pub some : 0 < n
  pub few : n ≤ item_limit
  pub searchable : Searchable ends 0 n
  pub before : inst < get_or ends (n - 1) 0
  pub limited : inst < end_limit

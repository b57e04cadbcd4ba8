-- Gaps: the instructions from the first use to the last, cut between neighbouring uses where the frequency falls
use Rattle.std.specs.Prelude.{◌≡◌, ℕ, ◌+◌, ◌-◌, ◌<◌, List, [], ◌∷◌, ◌++◌, map, Float, length, get_or}
use Rattle.numbers.specs.Sum.{total}
use Rattle.numbers.specs.Weight.{zero_weight, frequency_limit, value_of}
use Rattle.columns.specs.Table.{table}
use Rattle.links.specs.Blocks.{BlockRow, blocks_of, block_at, block_of, start_of, SoundColumns}
use Rattle.links.specs.Links.{link_column, on_side}
use Rattle.links.specs.Split.{follow, edge, preferred, home, reaches}
use Rattle.links.specs.declared.lower.Side.{Side}
use Rattle.links.specs.declared.lower.Side.TheVariants.{Previous, Next}
use Rattle.use_rows.specs.Uses.{no_weights, frequency_at}
use Rattle.use_rows.specs.UseColumns.{UseColumns, use_in}
use Rattle.columns.specs.Below.{joined}
use Rattle.use_rows.specs.declared.row.SplitUse.{SplitUse}

-- a gap: the instructions from one to before another, the weights placed in it in the order of their addition, its frequency, and the block
-- that carries it
pub record Gap : Type 0 where
  pub from : ℕ
  pub to : ℕ
  pub weights : List Float
  pub freq : Float
  pub block : ℕ

-- a gap's weight
abbrev pub gap_weight : Gap → Float
gap_weight g = total g.weights

-- of two neighbouring uses the one nearer to the best use, and the one farther from it; left of the best use is its side Previous
abbrev pub near : Side → SplitUse → SplitUse → SplitUse
near side earlier later = on_side side later earlier

abbrev pub far : Side → SplitUse → SplitUse → SplitUse
far side earlier later = on_side side earlier later

-- what the nearer use counts only if a region extends from it: its left weight, or its right one
abbrev pub near_weight : Side → SplitUse → Float
near_weight side u = on_side side u.left_weight u.right_weight

-- what the farther use counts only if a region extends to it, and then its main weight
abbrev pub far_weights : Side → SplitUse → List Float
far_weights side u = on_side side u.right_weight u.left_weight ∷ u.weight ∷ []

-- where the farthest gap between two uses ends: with the farther use
abbrev pub far_end : Side → ℕ → ℕ → ℕ
far_end side earlier later = on_side side earlier (later + 1)

-- the gap from an edge to another one, farther from the best use, with the frequency of a block
abbrev pub spanned : Side → ℕ → ℕ → List Float → Float → ℕ → Gap
spanned side edge farther weights freq block =
    record { from = on_side side farther edge; to = on_side side edge farther; weights = weights; freq = freq; block = block }

-- a gap and those farther from the best use, in the order of instructions
abbrev pub in_order : Side → Gap → List Gap → List Gap
in_order Previous g gs = gs ++ (g ∷ [])
in_order Next g gs = g ∷ gs

-- the gaps from an edge and a block on, with cuts at the edges of other blocks: each has the frequency of its block nearest to the best
-- use, the one where it begins; the nearest has the near weight, the farthest the far weights
unfoldable pub cut_gaps : Side → (ℕ → Float) → (ℕ → ℕ) → ℕ → List Float → ℕ → Float → ℕ → List ℕ → List Gap
cut_gaps side freqOf edge_of end ws e w b [] = spanned side e end (w ∷ ws) (freqOf b) b ∷ []
cut_gaps side freqOf edge_of end ws e w b (c ∷ cs) =
    in_order side (spanned side e (edge_of c) (w ∷ []) (freqOf b) b) (cut_gaps side freqOf edge_of end ws (edge_of c) zero_weight c cs)

-- the frequency of a block
abbrev pub frequency_of : List BlockRow → ℕ → Float
frequency_of blocks b = value_of frequency_limit (block_at blocks b).frequency

-- the blocks at whose edges cuts stand between two uses: those that links reach from beside the nearer one, not beyond the farther one's
unfoldable pub cuts : Side → List BlockRow → ℕ → ℕ → List ℕ
cuts side blocks earlier later =
    follow side (map (λ (b : BlockRow). b.frequency) blocks) (reaches side (block_of blocks (on_side side earlier later)))
    (length blocks) (block_of blocks (home side earlier later))

-- the gaps between two neighbouring uses on a side of the best one
unfoldable pub gaps_between : Side → List BlockRow → SplitUse → SplitUse → List Gap
gaps_between side blocks u v =
    cut_gaps side (frequency_of blocks) (λ (c : ℕ). edge side (block_at blocks c)) (far_end side u.inst.0 v.inst.0) (far_weights side (far side u v))
    (preferred side u.inst.0 v.inst.0) (near_weight side (near side u v))
    (block_of blocks (home side u.inst.0 v.inst.0)) (cuts side blocks u.inst.0 v.inst.0)

-- the best use's own gap: one instruction
abbrev pub own_gap : List BlockRow → SplitUse → Gap
own_gap blocks u =
    record {
      from = u.inst.0;
      to = u.inst.0 + 1;
      weights = u.weight ∷ [];
      freq = frequency_at blocks u.inst.0;
      block = block_of blocks u.inst.0;
    }

-- a use of the table
abbrev pub use_of : List SplitUse → ℕ → SplitUse
use_of uses i = get_or uses i (no_weights 0)

-- the gaps on a side, between n neighbouring uses from the i-th on
abbrev pub gaps_on : Side → List BlockRow → List SplitUse → ℕ → ℕ → List Gap
gaps_on side blocks uses i n = joined (λ (k : ℕ). gaps_between side blocks (use_of uses k) (use_of uses (k + 1))) i n

-- the gaps of a use table and its best use
unfoldable pub gaps_of : List BlockRow → List SplitUse → ℕ → List Gap
gaps_of blocks uses best =
    gaps_on Previous blocks uses 0 best ++ (own_gap blocks (use_of uses best) ∷ gaps_on Next blocks uses best (length uses - 1 - best))

-- which of them is the best use's own
abbrev pub initial_gap : List BlockRow → List SplitUse → ℕ → ℕ
initial_gap blocks uses best = length (gaps_on Previous blocks uses 0 best)

-- the use table that its columns hold
abbrev pub uses_in : UseColumns → List SplitUse
uses_in cols = table (use_in cols) (length cols.insts)

-- what the gaps rely on: a sound block list with its links, and a use table whose instructions rise inside the blocks
pub record Cuttable (freqs firsts ends prevs nexts : List ℕ) (uses : UseColumns) (best : ℕ) : Type 0 where
  pub blocks : SoundColumns freqs firsts ends
  pub left_links : prevs ≡ link_column Previous freqs
  pub right_links : nexts ≡ link_column Next freqs
  pub mains_long : length uses.mains ≡ length uses.insts
  pub lefts_long : length uses.lefts ≡ length uses.insts
  pub rights_long : length uses.rights ≡ length uses.insts
  pub best_inside : best < length uses.insts
  pub rises : (k : ℕ) → k + 1 < length uses.insts → get_or uses.insts k 0 < get_or uses.insts (k + 1) 0
  pub inside : (k : ℕ) → k < length uses.insts → get_or uses.insts k 0 < start_of (blocks_of freqs firsts ends) (length (blocks_of freqs firsts ends))

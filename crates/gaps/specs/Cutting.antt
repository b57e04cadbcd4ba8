-- For contracts of private functions: the space between two uses as the code sees it, in columns
use Rattle.std.specs.Prelude.{◌≡◌, ◌⊎◌, ℕ, zero, suc, ◌+◌, ◌≤◌, ◌<◌, ◌&&◌, cond, List, [], ◌∷◌, ltb, Float, length, get_or, set}
use Rattle.numbers.specs.Weight.{frequency_limit, value_of}
use Rattle.links.specs.Blocks.{item_limit, block_in, Ends}
use Rattle.links.specs.Links.{absent, LiesBeyond, on_side}
use Rattle.links.specs.Split.{preferred, home, reaches}
use Rattle.links.specs.declared.lower.Side.{Side}
use Rattle.use_rows.specs.UseColumns.{UseColumns, Inside, use_in}
use Rattle.columns.specs.Table.{stored_in}
use Rattle.columns.specs.Below.{joined}
use Rattle.use_rows.specs.declared.row.SplitUse.{SplitUse}
use Rattle.gaps.specs.Gaps.{Gap, gap_weight, near, far, near_weight, far_end, cut_gaps}
use Rattle.gaps.specs.declared.cutting.Space.{Space}

-- the space between two uses
abbrev pub space_of : Side → List ℕ → ℕ → SplitUse → SplitUse → Space
space_of side ends n u v =
    record {
      edge = record { 0 = preferred side u.inst.0 v.inst.0 };
      end = record { 0 = far_end side u.inst.0 v.inst.0 };
      near = near_weight side (near side u v);
      far = on_side side (far side u v).right_weight (far side u v).left_weight;
      main = (far side u v).weight;
      block = record { 0 = block_in ends n (home side u.inst.0 v.inst.0) };
      last = record { 0 = block_in ends n (on_side side u.inst.0 v.inst.0) };
    }

-- stored links lead to blocks farther on their side, or are absent
pub record Leads (side : Side) (links : List ℕ) : Type 0 where
  pub few : length links ≤ item_limit
  pub each : (b : ℕ) → b < length links → (get_or links b 0 ≡ absent) ⊎ ((get_or links b 0 < length links) × LiesBeyond side b (get_or links b 0))

-- the blocks at whose edges cuts stand, by stored links
unfoldable pub followed : Side → List ℕ → ℕ → ℕ → ℕ → List ℕ
followed side links last zero b = []
followed side links last (suc n) b =
    let c = get_or links b 0 in
    let rest = c ∷ followed side links last n c in
    cond (ltb c (length links) && reaches side last c) rest []

abbrev pub cuts_in : Side → List ℕ → ℕ → ℕ → List ℕ
cuts_in side links last b = followed side links last (length links) b

-- the frequency of a block
abbrev pub freq_in : List ℕ → ℕ → Float
freq_in freqs b = value_of frequency_limit (get_or freqs b 0)

-- the gaps of a space
abbrev pub space_gaps : Side → List ℕ → List ℕ → List ℕ → Space → List Gap
space_gaps side freqs edges links s =
    cut_gaps side (freq_in freqs) (λ (c : ℕ). get_or edges c 0)
    s.end.0 (s.far ∷ s.main ∷ []) s.edge.0 s.near s.block.0 (cuts_in side links s.last.0 s.block.0)

-- the gaps between n neighbouring uses from the i-th on
abbrev pub side_gaps : Side → List ℕ → List ℕ → List ℕ → List ℕ → UseColumns → ℕ → ℕ → List Gap
side_gaps side freqs ends edges links uses i n =
    joined (λ (k : ℕ). space_gaps side freqs edges links (space_of side ends (length freqs) (use_in uses k) (use_in uses (k + 1)))) i n

-- the best use's own gap
abbrev pub own_in : List ℕ → List ℕ → SplitUse → Gap
own_in freqs ends u =
    let b = block_in ends (length freqs) u.inst.0 in
    record { from = u.inst.0; to = u.inst.0 + 1; weights = u.weight ∷ []; freq = freq_in freqs b; block = b }

-- columns of a block list, each as long as the others
pub record Alike (freqs edges links : List ℕ) : Type 0 where
  pub edges_long : length edges ≡ length freqs
  pub links_long : length links ≡ length freqs

-- two uses in order, the later one in a block
abbrev pub Ordered : List ℕ → ℕ → SplitUse → SplitUse → Type 0
Ordered ends n u v = (u.inst.0 < v.inst.0) × Ends ends n v.inst.0

-- uses in order from the i-th to the last
pub record InOrder (ends : List ℕ) (n : ℕ) (uses : UseColumns) (i last : ℕ) : Type 0 where
  pub inside : Inside last uses
  pub each : (k : ℕ) → i ≤ k → k < last → Ordered ends n (use_in uses k) (use_in uses (k + 1))

-- ---- the columns that cutting fills: all but that of live instructions
pub record CutColumns : Type 0 where
  pub froms : List ℕ
  pub tos : List ℕ
  pub weights : List Float
  pub freqs : List Float
  pub blocks : List ℕ

-- the five as one
abbrev pub cut_columns : List ℕ → List ℕ → List Float → List Float → List ℕ → CutColumns
cut_columns froms tos weights freqs blocks = record { froms = froms; tos = tos; weights = weights; freqs = freqs; blocks = blocks }

-- the columns with a row stored
abbrev pub with_row : CutColumns → ℕ → ℕ → ℕ → Float → Float → ℕ → CutColumns
with_row cols at from to weight freq block =
    cut_columns (set cols.froms at from) (set cols.tos at to) (set cols.weights at weight) (set cols.freqs at freq) (set cols.blocks at block)

-- the columns with a gap stored
abbrev pub with_gap : CutColumns → ℕ → Gap → CutColumns
with_gap cols at g = with_row cols at g.from g.to (gap_weight g) g.freq g.block

-- the columns, and the row at which the next gap is stored
pub record AtRow : Type 0 where
  pub at : ℕ
  pub cols : CutColumns

abbrev pub with_next : Gap → AtRow → AtRow
with_next g c = record { at = suc c.at; cols = with_gap c.cols c.at g }

-- gaps stored from a row on
abbrev pub stored_gaps : ℕ → List Gap → CutColumns → CutColumns
stored_gaps at gaps cols = (stored_in with_next gaps (record { at = at; cols = cols })).cols

-- the columns have n rows
pub record CutRows (n : ℕ) (cols : CutColumns) : Type 0 where
  pub from : n ≤ length cols.froms
  pub to : n ≤ length cols.tos
  pub weight : n ≤ length cols.weights
  pub freq : n ≤ length cols.freqs
  pub block : n ≤ length cols.blocks

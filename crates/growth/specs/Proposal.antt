-- The proposal of the region with which growth ends, and a proposal's region
use Rattle.std.specs.Prelude.{ℕ, Bool, true, ◌&&◌, cond, List, [], ◌∷◌, leb, ltb, Float, Option, Some, None}
use Rattle.std.specs.Float.{binary32}
use Rattle.std.specs.Float.Ieee.{add}
use Rattle.numbers.specs.Weight.{zero_weight, heaviest}
use Rattle.links.specs.declared.lower.Side.{Side}
use Rattle.links.specs.declared.lower.Side.TheVariants.{Previous, Next}
use Rattle.links.specs.Links.{on_side}
use Rattle.growth.specs.declared.proposal.SplitProposal.{SplitProposal}
use Rattle.growth.specs.Growth.{GapsSeen, Span, own_span, between, heaviest_in, gap_outside, used_up, passes, grown}
use Rattle.numbers.specs.declared.Inst.{Inst}

-- the frequency of the gap just outside on a side, zero where there is none
abbrev pub freq_outside : Side → ℕ → (ℕ → Float) → Span → Float
freq_outside side n freq s = cond (used_up side n s) zero_weight (freq (gap_outside side s))

-- split cost: the frequencies of the gaps just outside, added
unfoldable pub split_cost : ℕ → (ℕ → Float) → Span → Float
split_cost n freq s = add binary32 (freq_outside Previous n freq s) (freq_outside Next n freq s)

-- an end of a proposal: the first instruction of the gap there, absent at the table's ends
unfoldable pub end_of : Side → ℕ → (ℕ → ℕ) → Span → Option Inst
end_of side n first s = cond (used_up side n s) None (Some (record { 0 = first (on_side side s.left s.right) }))

-- the proposal that a region is, with the heaviest weight it meets given
unfoldable pub proposal_with : ℕ → (ℕ → ℕ) → (ℕ → Float) → Span → Float → SplitProposal
proposal_with n first freq s heaviest =
    record {
      left = end_of Previous n first s;
      right = end_of Next n first s;
      use_weight = s.weight;
      live_insts = s.insts;
      interference_weight = heaviest;
      split_cost = split_cost n freq s;
    }

-- the proposal that a region is
abbrev pub proposal_of : GapsSeen → Span → SplitProposal
proposal_of seen s = proposal_with seen.count seen.first seen.freq s (heaviest_in seen s)

-- the answer: nothing if the best use's own gap fails, else the proposal of the region with which growth ends
unfoldable pub region_of : GapsSeen → Option SplitProposal
region_of seen = cond (passes seen seen.own (own_span seen)) (Some (proposal_of seen (grown seen))) None

-- an instruction is not before a left end, and before a right end; an absent end sets no bound
abbrev pub from_end : Option Inst → ℕ → Bool
from_end None inst = true
from_end (Some i) inst = leb i.0 inst

abbrev pub before_end : Option Inst → ℕ → Bool
before_end None inst = true
before_end (Some i) inst = ltb inst i.0

-- a proposal's region holds an instruction: it lies from the left to before the right
abbrev pub covers : SplitProposal → ℕ → Bool
covers p inst = from_end p.left inst && before_end p.right inst

-- those numbers of a list for which a test holds
unfoldable pub those : (ℕ → Bool) → List ℕ → List ℕ
those test [] = []
those test (g ∷ gs) = cond (test g) (g ∷ those test gs) (those test gs)

-- the gaps of a proposal's region
abbrev pub gaps_covered : GapsSeen → SplitProposal → List ℕ
gaps_covered seen p = those (λ (g : ℕ). covers p (seen.first g)) (between 0 seen.count)

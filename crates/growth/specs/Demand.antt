-- In what demand 3 and the other laws of growth are stated
use Rattle.std.specs.Prelude.{ℕ, zero, suc, ◌+◌, ◌^◌, ◌≤◌, ◌<◌, ◌≡◌, ◌⊎◌, not, List, [], ◌∷◌, ◌++◌, map, T, Float, Some}
use Rattle.numbers.specs.Weight.{Finite, Weight, units_of, zero_weight, Weights, Among}
use Rattle.numbers.specs.Sum.{plus}
use Rattle.numbers.specs.Normal.{normalised, exceeds}
use Rattle.links.specs.declared.lower.Side.{Side}
use Rattle.links.specs.declared.lower.Side.TheVariants.{Previous, Next}
use Rattle.growth.specs.declared.proposal.SplitProposal.{SplitProposal}
use Rattle.growth.specs.Growth.{GapsSeen, Span, between, gaps_in, gap_outside, State, is_open, passes_on, turn, growth}
use Rattle.growth.specs.Proposal.{proposal_of, gaps_covered}

-- a region around the best use's own gap, inside the table
pub record Around (seen : GapsSeen) (s : Span) : Type 0 where
  pub left : s.left ≤ seen.own
  pub own : seen.own < s.right
  pub right : s.right ≤ seen.count

-- growth has ended: no side is open
pub record Ended (seen : GapsSeen) (st : State) : Type 0 where
  pub left : T (not (is_open Previous seen st))
  pub right : T (not (is_open Next seen st))

-- one of the first n tries was on a side, of the gap just outside a region there, and that gap failed at that try
pub record FailedBefore (seen : GapsSeen) (side : Side) (n : ℕ) (s : Span) : Type 0 where
  pub after : ℕ
  pub before : after < n
  pub tried : turn seen (growth seen after) ≡ Some side
  pub gap : gap_outside side (growth seen after).region ≡ gap_outside side s
  pub failed : T (not (passes_on side seen (growth seen after).region))

-- a gap of a region
abbrev pub In : Span → ℕ → Type 0
In s g = (s.left ≤ g) × (g < s.right)

-- a region meets a fixed one: some gap of it does
abbrev pub MeetsFixed : GapsSeen → Span → Type 0
MeetsFixed seen s = (g : ℕ) × In s g × T (seen.fixed g)

-- a sum over gaps
unfoldable pub sum_over : (ℕ → ℕ) → List ℕ → ℕ
sum_over f [] = 0
sum_over f (g ∷ gs) = f g + sum_over f gs

-- the weights of gaps added to a weight, one after the other
abbrev pub added_to : Float → (ℕ → Float) → List ℕ → Float
added_to w weight gaps = plus w (map weight gaps)

-- the gaps that a larger region has more than a smaller one: those left of it and those right of it
abbrev pub gaps_beside : Span → Span → List ℕ
gaps_beside small large = between large.left small.left ++ between small.right large.right

-- the gaps grown in n tries, in their order
unfoldable pub gaps_grown : GapsSeen → ℕ → List ℕ
gaps_grown seen zero = []
gaps_grown seen (suc n) = gaps_grown seen n ++ gaps_beside (growth seen n).region (growth seen (suc n)).region

-- what a checked job's gaps satisfy
pub record SoundGaps (seen : GapsSeen) : Type 0 where
  -- the own gap is one of them, and each begins after the one before
  pub inside : seen.own < seen.count
  pub rising : (g : ℕ) → g + 1 < seen.count → seen.first g < seen.first (g + 1)
  -- weights, frequencies and the weights met are weights
  pub weights : (g : ℕ) → g < seen.count → Weight (seen.weight g)
  pub freqs : (g : ℕ) → g < seen.count → Weight (seen.freq g)
  pub met : (g : ℕ) → g < seen.count → Weights (seen.met g)
  -- all live instructions with k and one more are few enough to be floats, and the numerator is at most 2048
  pub few : sum_over seen.live (between 0 seen.count) + seen.k < 2 ^ 24
  pub fraction : seen.numerator ≤ 2048

-- demand 3 of a proposal, with growth as it stands where the proposal is made
pub record Demand3 (seen : GapsSeen) (st : State) (p : SplitProposal) : Type 0 where
  -- it is the proposal of the region grown
  pub is_grown : p ≡ proposal_of seen st.region
  -- the gaps from its left to before its right are those of that region
  pub covered : gaps_covered seen p ≡ gaps_in st.region
  -- its region meets nothing that counts as fixed
  pub no_fixed : MeetsFixed seen st.region → ⊥
  -- its interference weight is zero or met by a gap of its region
  pub heaviest_met : (p.interference_weight ≡ zero_weight) ⊎ ((g : ℕ) × In st.region g × Among p.interference_weight (seen.met g))
  -- and no gap of its region meets a heavier one
  pub none_heavier : (g : ℕ) → In st.region g → (w : Float) → Among w (seen.met g) → units_of w ≤ units_of p.interference_weight
  -- its normalised weight is finite
  pub finite : Finite (normalised p.use_weight p.live_insts seen.k)
  -- times the fraction, rounded once, it strictly exceeds the interference weight
  pub strict : T (exceeds seen.numerator (normalised p.use_weight p.live_insts seen.k) p.interference_weight)
  -- use weight, interference weight and split cost are weights, none is a NaN
  pub weights : Weight p.use_weight × Weight p.interference_weight × Weight p.split_cost

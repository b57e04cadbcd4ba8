-- Evictions: lists of proposals in which each could evict a reservation of the one before
use Rattle.std.specs.Prelude.{ℕ, ◌≤◌, ◌<◌, ◌≡◌, List, [], ◌∷◌, T, Float, length, get_or, Some}
use Rattle.std.specs.Float.{binary32}
use Rattle.std.specs.Float.Ieee.{to_bits}
use Rattle.columns.specs.Table.{Each}
use Rattle.numbers.specs.Weight.{Finite, zero_weight, heaviest, Weights, Among}
use Rattle.numbers.specs.Normal.{normalised, exceeds}
use Rattle.numbers.specs.Chain.{longest}
use Rattle.growth.specs.declared.proposal.SplitProposal.{SplitProposal}
use Rattle.growth.specs.Growth.{GapsSeen, own_span, weights_in, passes, growth}
use Rattle.growth.specs.Proposal.{proposal_of, region_of, gaps_covered}
use Rattle.growth.specs.Demand.{SoundGaps}

-- what a proposal promises: its normalised weight and interference weight, the weights that its region meets, its test's numerator
pub record Promise : Type 0 where
  pub weight : Float
  pub interference : Float
  pub met : List Float
  pub numerator : ℕ

-- a promise that is kept: the interference weight is the heaviest weight met, and the weight test holds of it
pub record Kept (p : Promise) : Type 0 where
  pub finite : Finite p.weight
  pub weights : Weights p.met
  pub exact : p.interference ≡ heaviest p.met
  pub strict : T (exceeds p.numerator p.weight p.interference)
  pub fraction : p.numerator ≤ 2048

-- a proposal's region meets a reservation that carries a weight: a weight that it meets has those bits
abbrev pub MeetsCarrier : Promise → Float → Type 0
MeetsCarrier p w = (v : Float) × Among v p.met × (to_bits binary32 v ≡ to_bits binary32 w)

-- each after a member meets a reservation that carries the normalised weight of the one before
abbrev pub EvictsAfter : Promise → List Promise → Type 0
EvictsAfter p [] = Unit {0}
EvictsAfter p (q ∷ qs) = MeetsCarrier q p.weight × EvictsAfter q qs

-- each after the first
abbrev pub Evicts : List Promise → Type 0
Evicts [] = Unit {0}
Evicts (p ∷ ps) = EvictsAfter p ps

-- each member after the first
abbrev pub EachAfter : {A : Type 0} → (A → Type 0) → List A → Type 0
EachAfter P [] = Unit {0}
EachAfter P (x ∷ xs) = Each P xs

-- member i
abbrev pub member : List Promise → ℕ → Promise
member ps i = get_or ps i (record { weight = zero_weight; interference = zero_weight; met = []; numerator = 0 })

-- the ring and chain law
pub record EvictionsEnd (ps : List Promise) : Type 0 where
  -- no member meets a reservation that carries its own or a later one's weight
  pub no_ring : (i j : ℕ) → i ≤ j → j < length ps → MeetsCarrier (member ps i) (member ps j).weight → ⊥
  -- with numerators up to 2007 after the first there are at most 10,000 members, and by the estimate at most 9,495
  pub few : EachAfter (λ (p : Promise). p.numerator ≤ 2007) ps → length ps ≤ 10000
  pub fewer : EachAfter (λ (p : Promise). p.numerator ≤ 2007) ps → length ps ≤ longest

-- what a proposal promises, in what growth sees of its job
abbrev pub promise_of : GapsSeen → SplitProposal → Promise
promise_of seen p =
    record {
      weight = normalised p.use_weight p.live_insts seen.k;
      interference = p.interference_weight;
      met = weights_in seen.met (gaps_covered seen p);
      numerator = seen.numerator;
    }

-- a job's gaps as growth sees them, and a proposal
pub record Given : Type 0 where
  pub seen : GapsSeen
  pub proposal : SplitProposal

-- the proposal is growth's after some tries: one before growth is finished, or what is found
pub record AfterTries (g : Given) : Type 0 where
  pub sound : SoundGaps g.seen
  pub own_passes : T (passes g.seen g.seen.own (own_span g.seen))
  pub tries : ℕ
  pub proposed : g.proposal ≡ proposal_of g.seen (growth g.seen tries).region

-- the proposal is what is found
pub record IsFound (g : Given) : Type 0 where
  pub sound : SoundGaps g.seen
  pub found : region_of g.seen ≡ Some g.proposal

-- what it promises
abbrev pub promised : Given → Promise
promised g = promise_of g.seen g.proposal

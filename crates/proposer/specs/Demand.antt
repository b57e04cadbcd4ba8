-- In what the theorems on a job's answer are stated: its best use, what the region of its proposal meets in the job's own rows, demand 3
use Rattle.std.specs.Prelude.{◌≡◌, not, ◌⊎◌, ◌↔◌, List, map, ℕ, ◌+◌, ◌*◌, ◌≤◌, ◌<◌, T, Float, length, Option, Some, None}
use Rattle.numbers.specs.Point.{inst_of}
use Rattle.numbers.specs.Weight.{units_of, zero_weight}
use Rattle.numbers.specs.Normal.{normalised, exceeds}
use Rattle.links.specs.declared.lower.Side.{Side}
use Rattle.use_rows.specs.declared.row.SplitUse.{SplitUse}
use Rattle.use_rows.specs.Uses.{AllWeights, IsBest}
use Rattle.filling.specs.UseTables.{best_of}
use Rattle.growth.specs.Growth.{own_span, used_up, growth, end_of_growth}
use Rattle.growth.specs.Proposal.{covers}
use Rattle.growth.specs.Demand.{Around, Ended, FailedBefore, Demand3, sum_over, added_to, gaps_beside, gaps_grown}
use Rattle.growth.specs.declared.proposal.SplitProposal.{SplitProposal}
use Rattle.refusals.specs.Job.{Job, source_of_job}
use Rattle.tables.specs.JobTables.{uses_of_job, segments_of_job}
use Rattle.views.specs.View.{seen_of_job}
use Rattle.views.specs.Met.{segment_of_job, FixedMet, WeightMet, best_row, AtBest}
use Rattle.numbers.specs.declared.Inst.{Inst}

-- the main weights of a job's uses
abbrev pub mains_of : Job → List Float
mains_of job = map (λ (u : SplitUse). u.weight) (uses_of_job job)

-- the number of a job's best use
abbrev pub number_of : Option ℕ → ℕ
number_of (Some best) = best
number_of None = 0

abbrev pub best_number : Job → ℕ
best_number job = number_of (best_of (source_of_job job))

-- ---- none of kind 2
-- the normalised weight of the best use's instruction alone, with 1 instruction
abbrev pub own_normalised : Job → ℕ → Float
own_normalised job best = normalised (best_row job best).weight 1 job.k

-- the best use's own gap, its instruction alone, fails: it meets a reservation that counts as fixed, or its normalised weight times 2007/2048
-- does not exceed zero, or not some kind 0 weight that it meets
abbrev pub OwnFails : Job → ℕ → Type 0
OwnFails job best =
    FixedMet job best (AtBest job best)
    ⊎ (T (not (exceeds 2007 (own_normalised job best) zero_weight))
    ⊎ ((w : Float) × WeightMet job best (AtBest job best) w × T (not (exceeds 2007 (own_normalised job best) w))))

-- ---- a proposal's region
-- the gap segments from its left to before its right
abbrev pub InRegion : Job → ℕ → SplitProposal → ℕ → Type 0
InRegion job best p k = T (covers p (inst_of (segment_of_job job best k).from.0))

-- a point at or after 4 × left, a point at or before 4 × right; an absent end sets no bound
abbrev pub FromLeft : Option Inst → ℕ → Type 0
FromLeft None point = Unit {0}
FromLeft (Some i) point = 4 * i.0 ≤ point

abbrev pub ToRight : Option Inst → ℕ → Type 0
ToRight None point = Unit {0}
ToRight (Some i) point = point ≤ 4 * i.0

-- a gap segment lies whole between 4 × left and 4 × right
abbrev pub LiesWhole : Job → ℕ → SplitProposal → ℕ → Type 0
LiesWhole job best p k = FromLeft p.left (segment_of_job job best k).from.0 × ToRight p.right (segment_of_job job best k).to.0

-- demand 3 of a proposal of a job, around a best use: growth ends with its region; nothing fixed counts against it; its
-- interference weight is exactly the heaviest one met; the weight test holds of it
pub record AnswerDemand3 (job : Job) (best : ℕ) (p : SplitProposal) : Type 0 where
  -- the main weights are weights, and the best use's is the largest, above zero, earliest on ties; its gap lies in the region grown
  pub mains : AllWeights (mains_of job)
  pub is_best : IsBest (mains_of job) best
  pub around : Around (seen_of_job job best) (end_of_growth (seen_of_job job best)).region
  -- growth has ended there, and has no other end
  pub ended : Ended (seen_of_job job best) (end_of_growth (seen_of_job job best))
  pub ends_once : (n : ℕ) → Ended (seen_of_job job best) (growth (seen_of_job job best) n) → growth (seen_of_job job best) n ≡ end_of_growth (seen_of_job job best)
  -- on each side the gaps are used up, or the gap just outside failed when that side was tried, at that try
  pub side_ends : (side : Side) → T (used_up side (seen_of_job job best).count (end_of_growth (seen_of_job job best)).region)
      ⊎ FailedBefore (seen_of_job job best) side ((seen_of_job job best).count + 1) (end_of_growth (seen_of_job job best)).region
  -- it is the proposal of that region, and what holds of it over the gaps
  pub of_gaps : Demand3 (seen_of_job job best) (end_of_growth (seen_of_job job best)) p
  -- its use weight: the best use's gap's, and then those of the gaps grown, added in the order grown
  pub use_weight : p.use_weight
      ≡ added_to ((seen_of_job job best).weight (seen_of_job job best).own) (seen_of_job job best).weight
      (gaps_grown (seen_of_job job best) ((seen_of_job job best).count + 1))
  -- its live instructions: 1, and those of the region's other gaps
  pub live_insts : p.live_insts
      ≡ 1 + sum_over (seen_of_job job best).live (gaps_beside (own_span (seen_of_job job best)) (end_of_growth (seen_of_job job best)).region)
  -- the gap segments of its region are those that lie whole between 4 × left and 4 × right
  pub whole : (k : ℕ) → k < length (segments_of_job job best) → InRegion job best p k ↔ LiesWhole job best p k
  -- no reservation of the job that its region meets counts as fixed
  pub no_fixed : FixedMet job best (InRegion job best p) → ⊥
  -- no kind 0 weight that it meets is heavier than its interference weight, which is one of them, or zero
  pub none_heavier : (w : Float) → WeightMet job best (InRegion job best p) w → units_of w ≤ units_of p.interference_weight
  pub heaviest_met : (p.interference_weight ≡ zero_weight) ⊎ WeightMet job best (InRegion job best p) p.interference_weight
  -- the normalised weight times 2007/2048, rounded once, strictly exceeds the interference weight
  pub strict : T (exceeds 2007 (normalised p.use_weight p.live_insts job.k) p.interference_weight)

-- Evictions: lists of jobs and their proposals in which each could evict a reservation of the one before
use Rattle.std.specs.Prelude.{◌≡◌, List, [], ◌∷◌, ℕ, zero, suc, ◌≤◌, Float, length, get_or}
use Rattle.std.specs.Float.{binary32}
use Rattle.std.specs.Float.Ieee.{to_bits}
use Rattle.numbers.specs.Normal.{normalised}
use Rattle.numbers.specs.Chain.{longest}
use Rattle.growth.specs.declared.proposal.SplitProposal.{SplitProposal}
use Rattle.filling.specs.declared.lent.Rooms.{Rooms}
use Rattle.refusals.specs.Job.{Job}
use Rattle.proposer.specs.Answer.{answer_of}
use Rattle.proposer.specs.Demand.{best_number, InRegion}
use Rattle.views.specs.Met.{reservation_of, Weighs}
use Rattle.outcome.specs.declared.grow.Answer.TheVariants as Answer·is

-- a proposal's region meets a reservation that carries a weight: kind 0, and the spill weight at its index has those bits
pub record MeetsCarrying (job : Job) (best : ℕ) (p : SplitProposal) (w : Float) : Type 0 where
  pub segment : ℕ
  pub row : ℕ
  pub in_region : InRegion job best p segment
  pub weighs : Weighs job best segment row
  pub carries : get_or job.weights (reservation_of job row).index 0 ≡ to_bits binary32 w

-- a job, its best use and a proposal for it
pub record Entry : Type 0 where
  pub job : Job
  pub best : ℕ
  pub proposal : SplitProposal

-- its proposal's normalised weight, in that job's k
abbrev pub weight_in : Entry → Float
weight_in e = normalised e.proposal.use_weight e.proposal.live_insts e.job.k

-- its proposal's region meets a reservation that carries a weight
abbrev pub Meets : Entry → Float → Type 0
Meets e w = MeetsCarrying e.job e.best e.proposal w

-- each after an entry meets a reservation that carries the normalised weight of the one before
abbrev pub EvictionsAfter : Entry → List Entry → Type 0
EvictionsAfter e [] = Unit {0}
EvictionsAfter e (f ∷ fs) = Meets f (weight_in e) × EvictionsAfter f fs

-- each after the first
abbrev pub Evictions : List Entry → Type 0
Evictions [] = Unit {0}
Evictions (e ∷ es) = EvictionsAfter e es

-- entry i of a list
abbrev pub Stands : List Entry → ℕ → Entry → Type 0
Stands [] i e = ⊥
Stands (x ∷ es) zero e = x ≡ e
Stands (x ∷ es) (suc i) e = Stands es i e

-- no ring, and no long chain
pub record JobEvictionsEnd (es : List Entry) : Type 0 where
  -- no member's region meets a reservation that carries its own or a later one's normalised weight
  pub no_ring : (i j : ℕ) → i ≤ j → (e f : Entry) → Stands es i e → Stands es j f → Meets e (weight_in f) → ⊥
  -- there are at most 10,000 members, and by the estimate at most 9,495
  pub few : length es ≤ 10000
  pub fewer : length es ≤ longest

-- a job, the rows of its lent tables, and the proposal that it is answered
pub record AnsweredJob : Type 0 where
  pub job : Job
  pub rooms : Rooms
  pub proposal : SplitProposal
  pub answered : answer_of job rooms ≡ Answer·is.Found proposal

-- with its best use
abbrev pub entry_of : AnsweredJob → Entry
entry_of a = record { job = a.job; best = best_number a.job; proposal = a.proposal }

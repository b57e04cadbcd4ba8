-- What the H figure of a job's answer tells
use Rattle.std.specs.Prelude.{◌≡◌, ◌<◌}
use Rattle.numbers.specs.Weight.{units_of}
use Rattle.numbers.specs.Normal.{normalised}
use Rattle.numbers.specs.Figure.{Tells}
use Rattle.sheet.specs.declared.write.Figures.{Figures}
use Rattle.filling.specs.declared.lent.Rooms.{Rooms}
use Rattle.growth.specs.declared.proposal.SplitProposal.{SplitProposal}
use Rattle.refusals.specs.Job.{Job}
use Rattle.outcome.specs.declared.grow.Answer.TheVariants as Answer·is
use Rattle.proposer.specs.Answer.{answer_of}

-- what is told where a job's answer shows a proposal's figures
pub record TellsFigure (job : Job) (rooms : Rooms) (f : Figures) : Type 0 where
  pub proposal : SplitProposal
  pub answered : answer_of job rooms ≡ Answer·is.Found proposal
  -- H tells the proposal's normalised weight, the one of which the weight test and the law of evictions speak
  pub tells : Tells (units_of (normalised proposal.use_weight proposal.live_insts job.k)) f.thousandths
  -- and is never 0
  pub above : 0 < f.thousandths

-- What a region found is as an answer, and the numbers of an answer
use Rattle.std.specs.Prelude.{ℕ, Float, Option, Some, None}
use Rattle.std.specs.Float.{binary32}
use Rattle.std.specs.Float.Ieee.{to_bits}
use Rattle.outcome.specs.declared.grow.Answer.{Answer}
use Rattle.outcome.specs.declared.grow.Answer.TheVariants as Answer·is
use Rattle.numbers.specs.declared.Inst.{Inst}
use Rattle.growth.specs.declared.proposal.SplitProposal.{SplitProposal}

-- a region found is a proposal; none of kind 2: no region
abbrev pub of_region : Option SplitProposal → Answer
of_region (Some p) = Answer·is.Found p
of_region None = Answer·is.NoRegion

-- document 01's answers in its numbers: a refusal by number and place, none by its kind, a proposal by its six values in order
pub data Numbered : Type 0 where
  refused : ℕ → ℕ → Numbered
  none : ℕ → Numbered
  proposal : Option Inst → Option Inst → ℕ → ℕ → ℕ → ℕ → Numbered

-- a weight as it is answered: by its bits
abbrev pub bits : Float → ℕ
bits w = to_bits binary32 w

-- the numbers of an answer
abbrev pub numbered : Answer → Numbered
numbered (Answer·is.Refused r) = refused r.number r.place
numbered Answer·is.NoBestUse = none 1
numbered Answer·is.NoRegion = none 2
numbered (Answer·is.Found p) =
    proposal p.left p.right (bits p.use_weight) p.live_insts (bits p.interference_weight) (bits p.split_cost)

-- Evictions in what the library hands out: what is entered for a proposal is the normalised weight of its words
use Rattle.std.specs.Prelude.{◌≡◌, List, [], ◌∷◌, ℕ, ◌≤◌, get_or}
use Rattle.std.specs.Float.{binary32}
use Rattle.std.specs.Float.Ieee.{to_bits}
use Rattle.numbers.specs.Weight.{weight_limit}
use Rattle.growth.specs.declared.proposal.SplitProposal.{SplitProposal}
use Rattle.filling.specs.declared.lent.Rooms.{Rooms}
use Rattle.refusals.specs.Job.{Job}
use Rattle.views.specs.Met.{reservation_of, Weighs}
use Rattle.outcome.specs.declared.grow.Answer.TheVariants as Answer·is
use Rattle.proposer.specs.Answer.{answer_of}
use Rattle.proposer.specs.Demand.{InRegion}
use Rattle.proposer.specs.Evictions.{Entry, weight_in, AnsweredJob, entry_of}
use Rattle.words.specs.Words.{proposed_words, proposed_of, normalised_bits}

-- the normalised weight of a job's words: word 3 is the use weight, word 4 the live instructions, and k is the job's
abbrev pub weight_of_words : Job → List ℕ → ℕ
weight_of_words job words = normalised_bits (get_or words 3 0) (get_or words 4 0) job.k

-- what a job's words tell where they are a proposal's
pub record TellsWeight (job : Job) (rooms : Rooms) (words : List ℕ) : Type 0 where
  pub proposal : SplitProposal
  pub answered : answer_of job rooms ≡ Answer·is.Found proposal
  -- their normalised weight is that of which the law of evictions speaks, bit for bit
  pub weight : weight_of_words job words
      ≡ to_bits binary32 (weight_in (entry_of (record { job = job; rooms = rooms; proposal = proposal; answered = answered })))
  -- and line 9 takes it as a spill weight
  pub taken : weight_of_words job words ≤ weight_limit

-- what is entered for the proposal that a job is answered
abbrev pub entered_for : AnsweredJob → ℕ
entered_for a = weight_of_words a.job (proposed_words (proposed_of a.job a.rooms))

-- a proposal's region meets a reservation that carries these bits: kind 0, and the spill weight at its index has them
pub record MeetsEntered (e : Entry) (bits : ℕ) : Type 0 where
  pub segment : ℕ
  pub row : ℕ
  pub in_region : InRegion e.job e.best e.proposal segment
  pub weighs : Weighs e.job e.best segment row
  pub carries : get_or e.job.weights (reservation_of e.job row).index 0 ≡ bits

-- each after an answered job meets a reservation that carries what was entered for the one before
abbrev pub EnteredAfter : AnsweredJob → List AnsweredJob → Type 0
EnteredAfter a [] = Unit {0}
EnteredAfter a (b ∷ rest) = MeetsEntered (entry_of b) (entered_for a) × EnteredAfter b rest

-- each after the first
abbrev pub Entered : List AnsweredJob → Type 0
Entered [] = Unit {0}
Entered (a ∷ rest) = EnteredAfter a rest

-- What is entered for a proposal is the weight of which the law of evictions speaks, so evictions end where it is entered
use mathlib.Core.Path.{◌≡◌, refl, sym, ap, ◌∙◌, subst}
use mathlib.Core.Logic.{◌↔◌}
use mathlib.Core.List.{List, [], ◌∷◌, ◌++◌, map}
use Prim.Native.Nat.{ℕ, ◌≤◌}
use native.Mathlib.Omega.{arith}
use lib.Ieee.{Float, binary32, to_bits}
use lib.ListN.{get_or}
use Rattle.numbers.specs.Weight.{finite, weight_limit}
use Rattle.numbers.specs.Normal.{normalised}
use Rattle.numbers.proofs.Bits.{weight_bits, value_back}
use Rattle.growth.specs.declared.proposal.SplitProposal.{SplitProposal}
use Rattle.filling.specs.declared.lent.Rooms.{Rooms}
use Rattle.filling.specs.SourceTables.{WorkColumns, rooms_of}
use Rattle.refusals.specs.Job.{Job}
use Rattle.outcome.specs.declared.grow.Answer.{Answer}
use Rattle.outcome.specs.declared.grow.Answer.TheVariants as Answer·is
use Rattle.proposer.specs.Answer.{answer_of}
use Rattle.proposer.specs.Evictions.{weight_in, Meets, EvictionsAfter, Evictions, JobEvictionsEnd, AnsweredJob, entry_of}
use Rattle.proposer.proofs.Answered.{answer_demand3, evictions_end}
use Rattle.proposer.proofs.TwoEvictions.{first_answered, second_answered, two_evictions}
use Rattle.words.specs.Words.{answer_words, proposed_words, proposed_of, IsExported}
use Rattle.words.specs.Entered.{weight_of_words, TellsWeight, entered_for, MeetsEntered, EnteredAfter, Entered}

-- ---- words that begin with 0 are a proposal's
proposes : (a : Answer) (rows : List ℕ) → get_or (answer_words a ++ rows) 0 0 ≡ 0 → (p : SplitProposal) × (a ≡ Answer·is.Found p)
proposes (Answer·is.Found p) rows e = (p, refl)
proposes Answer·is.NoBestUse rows e = absurd (omega (arith, e))
proposes Answer·is.NoRegion rows e = absurd (omega (arith, e))
proposes (Answer·is.Refused r) rows e = absurd (omega (arith, e))

module _ (job : Job) (rooms : Rooms) where
  -- the words of a job's answer
  abbrev words_of : List ℕ
  words_of = proposed_words (proposed_of job rooms)

  module _ (p : SplitProposal) (answered : answer_of job rooms ≡ Answer·is.Found p) where
    -- the numbers in words 3 and 4 are the proposal's, and its use weight is a weight, so it comes back from its bits
    words_weight : weight_of_words job words_of ≡ to_bits binary32 (normalised p.use_weight p.live_insts job.k)
    words_weight =
        let r = proposed_of job rooms in
        ap (λ (a : Answer). weight_of_words job (answer_words a ++ (r.uses ∷ r.gaps ∷ r.gap_segments ∷ []))) answered
        ∙ ap (λ (w : Float). to_bits binary32 (normalised w p.live_insts job.k)) (value_back (answer_demand3 job rooms p answered).of_gaps.weights.0)

    words_taken : weight_of_words job words_of ≤ weight_limit
    words_taken = subst (λ (n : ℕ). n ≤ weight_limit) (sym words_weight) (weight_bits (finite (answer_demand3 job rooms p answered).of_gaps.finite))

-- where the words of the call are a proposal's, their normalised weight is that of which the law of evictions speaks
pub words_tell : (job : Job) (lent now : WorkColumns) (words : List ℕ) → IsExported job lent now words → get_or words 0 0 ≡ 0
    → TellsWeight job (rooms_of lent) words
words_tell job lent now words given e =
    subst (TellsWeight job (rooms_of lent)) (sym given.answer)
    (tells (proposes (answer_of job (rooms_of lent)) _ (ap (λ (w : List ℕ). get_or w 0 0) (sym given.answer) ∙ e)))
  where
    tells : ((p : SplitProposal) × (answer_of job (rooms_of lent) ≡ Answer·is.Found p)) → TellsWeight job (rooms_of lent) (words_of job (rooms_of lent))
    tells h =
        record {
          proposal = h.0;
          answered = h.1;
          weight = words_weight job (rooms_of lent) h.0 h.1;
          taken = words_taken job (rooms_of lent) h.0 h.1;
        }

-- ---- the law of evictions over words
-- what is entered for a proposal is its normalised weight
pub entered_weight : (a : AnsweredJob) → entered_for a ≡ to_bits binary32 (weight_in (entry_of a))
entered_weight a = words_weight a.job a.rooms a.proposal a.answered

-- so a reservation that carries what was entered for a job is one that carries the normalised weight of its proposal
pub entered_carries : (a b : AnsweredJob) → MeetsEntered (entry_of b) (entered_for a) ↔ Meets (entry_of b) (weight_in (entry_of a))
entered_carries a b = (
  (λ m. record { segment = m.segment; row = m.row; in_region = m.in_region; weighs = m.weighs; carries = m.carries ∙ entered_weight a }),
  (λ m. record { segment = m.segment; row = m.row; in_region = m.in_region; weighs = m.weighs; carries = m.carries ∙ sym (entered_weight a) }),
)

-- evictions end where each proposal is entered with the normalised weight of its words: no ring, and at most 10,000
pub entered_evictions_end : (list : List AnsweredJob) → Entered list → JobEvictionsEnd (map entry_of list)
entered_evictions_end list chain = evictions_end list (all list chain)
  where
    after : (a : AnsweredJob) (rest : List AnsweredJob) → EnteredAfter a rest → EvictionsAfter (entry_of a) (map entry_of rest)
    after a [] c = tt
    after a (b ∷ rest) c = ((entered_carries a b).0 c.0, after b rest c.1)

    all : (list : List AnsweredJob) → Entered list → Evictions (map entry_of list)
    all [] c = tt
    all (a ∷ rest) c = after a rest c

-- there are such lists
pub two_entered : Entered (first_answered ∷ second_answered ∷ [])
two_entered = ((entered_carries first_answered second_answered).1 two_evictions.0, tt)

-- `proposal_words` answers each field
use mathlib.Core.List.{[], ◌∷◌}
use Rattle.words.proofs.words.proposal_words.Goals as goal

pub returns : goal.returns
returns c =
    λ i. 0
    ∷ c.end_word.ensures i
    ∷ c.end_word-2.ensures i
    ∷ c.weight_word.ensures i
    ∷ c.args.p.live_insts
    ∷ c.weight_word-2.ensures i
    ∷ c.weight_word-3.ensures i
    ∷ []

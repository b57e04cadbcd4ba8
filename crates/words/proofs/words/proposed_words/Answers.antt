-- `proposed_words` answers the words of the answer, and the rows
use mathlib.Core.Path.{◌≡◌, refl, ap, ◌∙◌}
use mathlib.Core.List.{List, [], ◌∷◌, ◌++◌}
use Prim.Native.Nat.{ℕ}
use lib.ListN.{get_or}
use Rattle.outcome.specs.declared.grow.Answer.{Answer}
use Rattle.outcome.specs.declared.grow.Answer.TheVariants as Answer·is
use Rattle.words.specs.Words.{answer_words}
use Rattle.words.proofs.words.proposed_words.Goals as goal

-- the seven words of an answer, one behind the other
spread : (a : Answer) (w : List ℕ) → w ≡ answer_words a → (u g s : ℕ)
    → get_or w 0 0 ∷ get_or w 1 0 ∷ get_or w 2 0 ∷ get_or w 3 0 ∷ get_or w 4 0 ∷ get_or w 5 0 ∷ get_or w 6 0 ∷ u ∷ g ∷ s ∷ [] ≡ answer_words a ++ (u ∷ g ∷ s ∷ [])
spread a w e u g s =
    ap (λ (v : List ℕ). get_or v 0 0 ∷ get_or v 1 0 ∷ get_or v 2 0 ∷ get_or v 3 0 ∷ get_or v 4 0 ∷ get_or v 5 0 ∷ get_or v 6 0 ∷ u ∷ g ∷ s ∷ []) e ∙ by a
  where
    by : (a : Answer) → get_or (answer_words a) 0 0 ∷ get_or (answer_words a) 1 0 ∷ get_or (answer_words a) 2 0 ∷ get_or (answer_words a) 3 0 ∷ get_or (answer_words a) 4
        0 ∷ get_or (answer_words a) 5 0 ∷ get_or (answer_words a) 6 0 ∷ u ∷ g ∷ s ∷ [] ≡ answer_words a ++ (u ∷ g ∷ s ∷ [])
    by (Answer·is.Found p) = refl
    by Answer·is.NoBestUse = refl
    by Answer·is.NoRegion = refl
    by (Answer·is.Refused r) = refl

pub returns : goal.returns
returns c =
    let p = c.args.proposed in
    spread p.answer _ c.answer_words-w.ensures p.uses p.gaps p.gap_segments

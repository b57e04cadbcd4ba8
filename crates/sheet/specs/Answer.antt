-- An answer's text: Q and H of a proposal, N of none, R of a refusal.
-- Assumes nothing.
use Rattle.std.specs.Prelude.{ℕ, ◌≡◌, List, [], ◌∷◌, ◌++◌, length, drop, replicate, ltb, Option, Some, None, Result, Ok, Err}
use Rattle.sheet.specs.Kinds.{pick}
use Rattle.sheet.specs.Field.{field}
use Rattle.sheet.specs.Sheet.{fields_text, line_text}
use Rattle.sheet.specs.declared.write.Figures.{Figures}
use Rattle.sheet.specs.declared.write.Answer.{Answer}
use Rattle.sheet.specs.declared.write.Answer.TheVariants.{Proposal, NoneOf, Refused}
use Rattle.sheet.specs.declared.write.NoRoom.{NoRoom}

-- an end: an instruction, or `-` in the last column where there is none
unfoldable pub end_text : Option ℕ → List ℕ
end_text (Some n) = field n
end_text None = replicate 10 32 ++ (45 ∷ [])

-- the letter Q and both ends
unfoldable pub ends_text : Option ℕ → Option ℕ → List ℕ
ends_text left right = 81 ∷ end_text left ++ end_text right

-- use weight, live instructions, interference weight and split cost, and the line's end
unfoldable pub weights_text : ℕ → ℕ → ℕ → ℕ → List ℕ
weights_text weight insts met cost = fields_text (weight ∷ insts ∷ met ∷ cost ∷ []) ++ (10 ∷ [])

-- a proposal's record in order, and the normalised use weight in thousandths
unfoldable pub figures_text : Figures → List ℕ
figures_text f =
    ends_text f.left f.right ++ weights_text f.use_weight f.live_insts f.interference_weight f.split_cost
    ++ line_text 72 (f.thousandths ∷ [])

-- the text of an answer
unfoldable pub answer_text : Answer → List ℕ
answer_text (Proposal f) = figures_text f
answer_text (NoneOf kind) = line_text 78 (kind ∷ [])
answer_text (Refused number place) = line_text 82 (number ∷ place ∷ [])

-- a buffer is too short
abbrev pub no_room : NoRoom
no_room = record {}

-- a text that is written to the front of a buffer, which is left as it was where it is too short; how many bytes it has is answered
pub record Wrote (text before after : List ℕ) (w : Result ℕ NoRoom) : Type 0 where
  pub answer : w ≡ pick (ltb (length before) (length text)) (Err no_room) (Ok (length text))
  pub bytes : after ≡ pick (ltb (length before) (length text)) before (text ++ drop (length text) before)

-- `answer_words` answers case by case
use mathlib.Core.Path.{ap, sym, ◌∙◌}
use Rattle.words.specs.Words.{answer_words}
use Rattle.words.proofs.words.answer_words.Goals as goal

pub returns-in-Found : goal.returns-in-Found
returns-in-Found c = c.proposal_words.ensures ∙ ap answer_words (sym c.in-Found.is)

pub returns-in-Refused : goal.returns-in-Refused
returns-in-Refused c = ap answer_words (sym c.in-Refused.is)

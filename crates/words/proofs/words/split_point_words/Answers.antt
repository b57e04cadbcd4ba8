-- `split_point_words` answers case by case
use mathlib.Core.Path.{ap, sym}
use Rattle.words.specs.Words.{split_point_words}
use Rattle.words.proofs.words.split_point_words.Goals as goal

pub returns-in-Ok : goal.returns-in-Ok
returns-in-Ok c = ap split_point_words (sym c.in-Ok.is)

pub returns-in-Err : goal.returns-in-Err
returns-in-Err c = ap split_point_words (sym c.in-Err.is)

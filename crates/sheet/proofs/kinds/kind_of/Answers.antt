-- `kinds::kind_of` meets its contract: the table is the definition's.
-- Assumes nothing.
use Rattle.sheet.specs.Kinds.{kind_of}
use Rattle.sheet.proofs.kinds.kind_of.Goals as goal

pub returns : goal.returns
unfolding kind_of
returns c = c.place_of.ensures

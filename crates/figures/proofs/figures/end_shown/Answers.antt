-- `end_shown` answers an end that is there
use mathlib.Core.Path.{ap, sym}
use Rattle.figures.specs.Figures.{end_shown}
use Rattle.figures.proofs.figures.end_shown.Goals as goal

pub returns : goal.returns
returns c = ap end_shown (sym c.in-Some.is)

-- `shown_of` answers case by case
use mathlib.Core.Path.{ap, sym, ◌∙◌}
use Rattle.figures.specs.Figures.{shown_of}
use Rattle.figures.proofs.figures.shown_of.Goals as goal

pub returns-in-Refused : goal.returns-in-Refused
returns-in-Refused c = ap (shown_of c.args.k) (sym c.in-Refused.is)

pub returns-in-NoBestUse : goal.returns-in-NoBestUse
returns-in-NoBestUse c = ap (shown_of c.args.k) (sym c.in-NoBestUse.is)

pub returns-in-NoRegion : goal.returns-in-NoRegion
returns-in-NoRegion c = ap (shown_of c.args.k) (sym c.in-NoRegion.is)

pub returns-in-Found : goal.returns-in-Found
returns-in-Found c = c.figures_of.ensures ∙ ap (shown_of c.args.k) (sym c.in-Found.is)

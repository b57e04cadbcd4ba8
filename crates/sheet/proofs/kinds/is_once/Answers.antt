-- `kinds::is_once` meets its contract, case by case.
-- Assumes nothing.
use mathlib.Core.Path.{sym, ap, ◌∙◌}
use mathlib.Core.Logic.{⊎_elim}
use Rattle.sheet.specs.declared.kinds.Kind.{Kind}
use Rattle.sheet.specs.Kinds.{is_once, once}
use Rattle.sheet.proofs.kinds.is_once.Goals as goal

pub returns-in-ExactlyOne : goal.returns-in-ExactlyOne
unfolding once
returns-in-ExactlyOne c =
    let e = ap (λ (x : Kind). x.asked) c.kind_at.ensures in
    ⊎_elim (λ q. ap is_once (sym q ∙ e)) (λ q. ap is_once (sym q ∙ e)) c.in-ExactlyOne.is

pub returns-in-Any : goal.returns-in-Any
unfolding once
returns-in-Any c =
    let e = ap (λ (x : Kind). x.asked) c.kind_at.ensures in
    ap is_once (sym c.in-Any.is ∙ e)

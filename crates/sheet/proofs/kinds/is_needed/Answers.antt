-- `kinds::is_needed` meets its contract, case by case.
-- Assumes nothing.
use mathlib.Core.Path.{sym, ap, ◌∙◌}
use mathlib.Core.Logic.{⊎_elim}
use Rattle.sheet.specs.declared.kinds.Kind.{Kind}
use Rattle.sheet.specs.Kinds.{is_needed, needed}
use Rattle.sheet.proofs.kinds.is_needed.Goals as goal

pub returns-in-ExactlyOne : goal.returns-in-ExactlyOne
unfolding needed
returns-in-ExactlyOne c =
    let e = ap (λ (x : Kind). x.asked) c.kind_at.ensures in
    ap is_needed (sym c.in-ExactlyOne.is ∙ e)

pub returns-in-AtMostOne : goal.returns-in-AtMostOne
unfolding needed
returns-in-AtMostOne c =
    let e = ap (λ (x : Kind). x.asked) c.kind_at.ensures in
    ⊎_elim (λ q. ap is_needed (sym q ∙ e)) (λ q. ap is_needed (sym q ∙ e)) c.in-AtMostOne.is

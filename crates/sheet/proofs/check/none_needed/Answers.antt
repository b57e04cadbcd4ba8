-- `check::none_needed` meets its contract. The invariant: none is needed exactly if none of the kinds left is.
-- Assumes nothing.
use mathlib.Core.Path.{sym, ◌∙◌}
use Rattle.sheet.proofs.CheckLaws.{none_stop, none_step, none_end}
use Rattle.sheet.proofs.check.none_needed.Goals as goal

pub returns-then-is_needed : goal.returns-then-is_needed
returns-then-is_needed c =
    let l = c.loop-k in
    sym (none_stop l.k _ c.loop-k-test.true (sym c.is_needed.ensures ∙ c.if-is_needed.true)) ∙ l.invariant

pub loop-k-preserved : goal.loop-k-preserved
loop-k-preserved c =
    let l = c.loop-k in
    sym (none_step l.k _ c.loop-k-test.true (sym c.is_needed.ensures ∙ c.if-is_needed.false)) ∙ l.invariant

pub returns : goal.returns
returns c = let l = c.loop-k in sym (none_end l.k _ c.loop-k-test.false) ∙ l.invariant

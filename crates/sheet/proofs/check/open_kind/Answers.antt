-- `check::open_kind` meets its contract, test by test.
-- Assumes nothing.
use native.Mathlib.Omega.{arith}
use mathlib.Core.Path.{sym, ◌∙◌}
use borrow.Author.Tests.{eq-eqb, ne_eqb}
use Rattle.sheet.specs.Refusal.{open_kind}
use Rattle.sheet.proofs.KindLaws.{once_kind}
use Rattle.sheet.proofs.check.open_kind.Goals as goal

pub returns-then-n-eq0 : goal.returns-then-n-eq0
unfolding open_kind
returns-then-n-eq0 c = rw (eq-eqb c.args.n 0 c.if-n-eq0.true)

pub overflow_add-result : goal.overflow_add-result
overflow_add-result c = omega (arith, once_kind c.args.m (sym c.is_once.ensures ∙ c.if-is_once.true))

pub returns-then-is_once : goal.returns-then-is_once
unfolding open_kind
returns-then-is_once c =
    let a = c.args in
    rw (ne_eqb a.n 0 c.if-n-eq0.false, sym c.is_once.ensures ∙ c.if-is_once.true) (omega arith)

pub returns : goal.returns
unfolding open_kind
returns c =
    let a = c.args in
    rw (ne_eqb a.n 0 c.if-n-eq0.false, sym c.is_once.ensures ∙ c.if-is_once.false)

-- `check::next_line` meets its contract, test by test.
-- Assumes nothing.
use native.Mathlib.Omega.{arith}
use Prim.Native.Nat.{◌-◌, min}
use mathlib.Core.Path.{◌≡◌, refl, sym, ◌∙◌}
use mathlib.Core.Bool.{true, false}
use lib.ListN.{length, get_or, drop, take, length-drop, length-take}
use Rattle.sheet.specs.Kinds.{width, kind_of}
use Rattle.sheet.proofs.LineLaws.{line_not_kind, line_not_long}
use Rattle.sheet.proofs.NextLaws.{kind_some, kind_none, next_not_line, next_not_order, next_line, line_there}
use Rattle.sheet.proofs.check.next_line.Goals as goal

pub returns-in_err-kind : goal.returns-in_err-kind
returns-in_err-kind c =
    let a = c.args in
    let k = kind_of (get_or a.text.now a.at 0) in
    c.from_residual.ensures
    ∙ next_not_line a.text.now a.at a.n a.m k refl (line_not_kind k _ (kind_none k (sym c.in_err-kind.was ∙ c.kind_of.ensures)))

pub returns-then-text-at : goal.returns-then-text-at
returns-then-text-at c =
    let a = c.args in
    let k = c.in_ok-kind.kind in
    let e = kind_some _ k (sym c.in_ok-kind.was ∙ c.kind_of.ensures) in
    let w = c.width_of-w in
    let x = drop a.at a.text.now in
    let d : length x ≡ length a.text.now - a.at = length-drop a.at a.text.now in
    let t : length (take (width k) x) ≡ min (width k) (length x) = length-take (width k) x in
    next_not_line a.text.now a.at a.n a.m k e (line_not_long k _ (λ e. omega (arith, w.ensures, c.if-text-at.true)))

pub returns-then-not-is_line : goal.returns-then-not-is_line
returns-then-not-is_line c =
    let a = c.args in
    let k = c.in_ok-kind.kind in
    let e = kind_some _ k (sym c.in_ok-kind.was ∙ c.kind_of.ensures) in
    let w = c.width_of-w in
    next_not_line a.text.now a.at a.n a.m k e
    (line_there a.text.now a.at k w.result false w.ensures
    (sym c.is_line.ensures ∙ c.if-not-is_line.true))

pub returns-then-not-is_in_order : goal.returns-then-not-is_in_order
returns-then-not-is_in_order c =
    let a = c.args in
    let k = c.in_ok-kind.kind in
    let e = kind_some _ k (sym c.in_ok-kind.was ∙ c.kind_of.ensures) in
    let w = c.width_of-w in
    next_not_order a.text.now a.at a.n a.m k e (sym c.is_in_order.ensures ∙ c.if-not-is_in_order.true)

pub returns : goal.returns
returns c =
    let a = c.args in
    let k = c.in_ok-kind.kind in
    let e = kind_some _ k (sym c.in_ok-kind.was ∙ c.kind_of.ensures) in
    let w = c.width_of-w in
    next_line a.text.now a.at a.n a.m k w.result e w.ensures
    (line_there a.text.now a.at k w.result true w.ensures
    (sym c.is_line.ensures ∙ c.if-not-is_line.false))
    (sym c.is_in_order.ensures ∙ c.if-not-is_in_order.false)

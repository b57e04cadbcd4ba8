-- `check::is_in_order` meets its contract, test by test.
-- Assumes nothing.
use native.Mathlib.Omega.{arith}
use Prim.Native.Nat.{ℕ, ◌-◌}
use mathlib.Core.Path.{ap, ◌∙◌}
use borrow.Author.Tests.{lt-leb, le-leb}
use Rattle.sheet.specs.Refusal.{open_kind, none_needed, is_in_order}
use Rattle.sheet.proofs.check.is_in_order.Goals as goal

pub returns-then-k-first : goal.returns-then-k-first
unfolding is_in_order
returns-then-k-first c =
    let a = c.args in
    rw (lt-leb (open_kind a.n a.m) a.k (omega (arith, c.if-k-first.true, c.open_kind-first.ensures)))

pub returns : goal.returns
unfolding is_in_order
returns c =
    let a = c.args in
    let o = c.open_kind-first.ensures in
    rw (le-leb (open_kind a.n a.m) a.k (omega (arith, c.if-k-first.false, o)))
    (c.none_needed.ensures ∙ ap (λ (j : ℕ). none_needed j (a.k - j)) o)

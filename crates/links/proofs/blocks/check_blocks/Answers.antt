-- `check_blocks` gives the verdict that the count and the first bad block make
use mathlib.Core.Path.{sym, ◌∙◌, subst}
use mathlib.Core.Logic.{inl, inr}
use Prim.Native.Nat.{ℕ, ◌<◌}
use Rattle.links.specs.Blocks.{item_limit, refusal}
use Rattle.links.proofs.Checks.{two, verdict_answered, check_refuses, check_accepts}
use Rattle.links.proofs.blocks.check_blocks.Goals as goal

pub returns-then-n-eq0 : goal.returns-then-n-eq0
returns-then-n-eq0 c = sym (verdict_answered _ (refusal 2 0) (two (inl (sym c.count-n.ensures ∙ c.if-n-eq0.true))))

pub returns-then-n-gt-ITEM_LIMIT : goal.returns-then-n-gt-ITEM_LIMIT
returns-then-n-gt-ITEM_LIMIT c = sym (verdict_answered _ (refusal 2 0) (two (inr (subst (λ (n : ℕ). item_limit < n) c.count-n.ensures c.if-n-gt-ITEM_LIMIT.true))))

pub returns-then-bad-n : goal.returns-then-bad-n
returns-then-bad-n c =
    check_refuses _ _ _ c.count-n.ensures c.first_bad-bad.ensures
    c.if-n-eq0.false c.if-n-gt-ITEM_LIMIT.false c.if-bad-n.true

pub returns : goal.returns
returns c =
    check_accepts _ _ _ c.count-n.ensures c.first_bad-bad.ensures
    c.if-n-eq0.false c.if-n-gt-ITEM_LIMIT.false c.if-bad-n.false

-- `nearest_even` is `nearest` of how the rest compares, each of the three ways
use mathlib.Core.Path.{◌≡◌, ◌∙◌}
use Prim.Native.Nat.{Ordering}
use Prim.Native.Nat.{ℕ, suc, ◌+◌}
use native.Mathlib.Omega.{arith}
use Rattle.numbers.proofs.Nearest.{nearest_by}
use Rattle.numbers.proofs.normal.nearest_even.Goals as goal

next : (w : ℕ) → w + 1 ≡ suc w
next w = omega arith

pub returns-then-twice_rest-one : goal.returns-then-twice_rest-one
returns-then-twice_rest-one c =
    let a = c.args in
    nearest_by a.whole a.twice_rest a.one Ordering.eq c.if-twice_rest-one.true

pub returns-then-twice_rest-one-2 : goal.returns-then-twice_rest-one-2
returns-then-twice_rest-one-2 c =
    let a = c.args in
    next a.whole ∙ nearest_by a.whole a.twice_rest a.one Ordering.gt c.if-twice_rest-one-2.true

pub returns : goal.returns
returns c =
    let a = c.args in
    nearest_by a.whole a.twice_rest a.one Ordering.lt (omega arith)

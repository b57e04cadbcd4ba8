-- `put_own` stores the gap of one instruction, with its block and the frequency of that
use mathlib.Core.Path.{ap, ◌∙◌}
use native.Mathlib.Omega.{arith}
use lib.ListN.{length}
use Prim.Native.Nat.{ℕ, ◌+◌}
use lib.Ieee.{Float}
use Rattle.links.proofs.Columns.{ends_inside}
use Rattle.numbers.specs.Sum.{plus}
use Rattle.gaps.specs.Cutting.{with_row}
use Rattle.gaps.specs.Lent.{cut_in}
use Rattle.gaps.specs.Cutting.{freq_in}
use Rattle.gaps.proofs.cutting.put_own.Goals as goal

pub block_frequency-f-requires : goal.block_frequency-f-requires
block_frequency-f-requires c =
    let a = c.args in
    let h = ends_inside a.end.now (length a.freq.now) a.u.inst.0 c.requires.0 in
    let e = c.block_of-b.ensures in
    omega (arith, h, e)

pub returns-clause-value : goal.returns-clause-value
unfolding plus
returns-clause-value c =
    let a = c.args in
    let cols = cut_in a.gaps.now in
    c.put_gap.ensures.value
    ∙ ap (λ (f : Float). with_row cols a.n a.u.inst.0 (a.u.inst.0 + 1) a.u.weight f c.block_of-b.result.0)
    c.block_frequency-f.ensures
    ∙ ap (λ (b : ℕ). with_row cols a.n a.u.inst.0 (a.u.inst.0 + 1) a.u.weight (freq_in a.freq.now b) b) c.block_of-b.ensures

-- `fill::base_of` meets its contract. The invariant: the sum is the start of the cells of the next kind.
-- Assumes nothing.
use native.Mathlib.Omega.{arith}
use Prim.Native.Nat.{ℕ, suc, ◌+◌, ◌*◌, ◌≤◌}
use mathlib.Core.Path.{◌≡◌, refl, ap, ◌∙◌}
use Rattle.sheet.specs.Kinds.{fields, limit, base, cell_count}
use Rattle.sheet.proofs.KindLaws.{base_next, base_fits, cells_small}
use Rattle.sheet.proofs.fill.base_of.Goals as goal

-- the cells of this turn's kind
cells_here : (c : goal.After-limit_of) →
    let l = c.loop-j in
    (c.fields_of.result * c.limit_of.result ≡ fields l.j * limit l.j) × (base l.j + fields l.j * limit l.j ≤ cell_count)
cells_here c =
    let l = c.loop-j in (
      ap (λ (x : ℕ). x * c.limit_of.result) c.fields_of.ensures ∙ ap (λ (x : ℕ). fields l.j * x) c.limit_of.ensures,
      base_fits l.j (omega (arith, c.loop-j-test.true, c.requires)),
    )

pub loop-j-init : goal.loop-j-init
unfolding base
loop-j-init c = refl

pub overflow_mul-at : goal.overflow_mul-at
overflow_mul-at c = omega (arith, cells_here c, cells_small)

pub overflow_add-at : goal.overflow_add-at
overflow_add-at c = omega (arith, cells_here c, cells_small, c.loop-j.invariant)

pub loop-j-preserved : goal.loop-j-preserved
loop-j-preserved c =
    let l = c.loop-j in
    let y : l.j + 1 ≡ suc l.j = omega arith in
    omega (arith, l.invariant, (cells_here c).0, base_next l.j, ap base y)

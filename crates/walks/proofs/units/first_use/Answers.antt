-- `first_use` searches the column of units, which does not fall
use native.Mathlib.Omega.{arith}
use Rattle.walks.proofs.Begin.{holds_use, uses_found}
use Rattle.walks.proofs.units.first_use.Goals as goal

pub returns : goal.returns
returns c =
    let e = c.len.ensures in
    let f = c.first_from_ends.ensures in
    let h = holds_use c.fixed_uses.inside c.fixed_uses.view_is in
    record { few = omega (arith, e, f.1, h.long, c.fixed_uses.told); begin = (omega (arith, e, f.1), λ o. uses_found o h e f.2) }

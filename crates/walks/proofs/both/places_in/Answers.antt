-- `places_in` searches the ends of the unit's rows, which rise; the walk to the left begins there too, or one row later
use Prim.Native.Nat.{◌<◌}
use native.Mathlib.Omega.{arith}
use lib.ListN.{length}
use Rattle.walks.proofs.Begin.{holds_start, holds_end, places_found}
use Rattle.walks.proofs.both.places_in.Goals as goal
use Rattle.walks.proofs.both.places_in.Goals.{else-right-to-via-then-right-to+else-cell-point, else-right-to-via-else-right-to}

pub returns-then-cell-point : goal.returns-then-cell-point
returns-then-cell-point c =
    places_found _ c.requires.0 c.args.u.0 _ _ c.rows_of_unit-r.ensures
    (holds_end c.reservations.inside c.reservations.view_is) c.first_at_least-right.ensures.2
    _ (omega arith) (omega (arith, c.if-right-to.true)) (λ x _. absurd (omega (arith, x)))

-- no row is left, or the first one starts at the point or past it
pub returns : goal.returns
returns c =
    places_found _ c.requires.0 c.args.u.0 _ _ c.rows_of_unit-r.ensures
    (holds_end c.reservations.inside c.reservations.view_is) c.first_at_least-right.ensures.2
    _ (omega arith) c.first_at_least-right.ensures.1
    (λ _ x. elim c.else-right-to.branch [
      | else-right-to-via-then-right-to+else-cell-point w ↦
          let inside : c.first_at_least-right.result < length c.args.reservations.now = omega (arith, x, c.rows_of_unit-r.ensures.inside) in
          let s = (holds_start c.reservations.inside c.reservations.view_is).at _ inside in
          omega (arith, w.if-cell-point.false, w.cell.ensures, s)
      | else-right-to-via-else-right-to w ↦ absurd (omega (arith, w.if-right-to.false, x))
    ])

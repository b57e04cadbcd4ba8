-- `rows_of_unit` searches the column of units, which does not fall, for the unit and for the next
use Rattle.walks.proofs.Begin.{holds_unit, rows_found}
use Rattle.walks.proofs.units.rows_of_unit.Goals as goal

pub returns : goal.returns
returns c =
    rows_found _ c.requires.0 c.args.u.0 (holds_unit c.reservations.inside c.reservations.view_is) c.len-n.ensures c.first_from_ends-from.ensures.2 c.first_from_ends-to.ensures.2

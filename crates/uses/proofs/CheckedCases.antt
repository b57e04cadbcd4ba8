-- A job that the use table's laws apply to: the worked case with a fixed def has passed lines 5 to 8
use mathlib.Core.Path.{refl}
use lib.Dec.{lit≤}
use Rattle.columns.specs.First.{first_below}
use Rattle.columns.specs.Below.{any_below}
use Rattle.jobs.specs.Lines.{bad_bounds, bad_list, bad_def, bad_use, bad_end}
use Rattle.uses.specs.CheckedUses.{CheckedUses}
use Rattle.uses.proofs.UseCases.{between}
use Rattle.uses.proofs.CheckedJob.{checked_uses}

pub between_checked : CheckedUses between
unfolding between bad_bounds bad_list bad_def bad_use bad_end any_below first_below
between_checked = checked_uses between (record { values = 1; uses = 4; weights = 0; units = 0; end = 24 }) (lit≤ tt) refl refl refl refl refl refl refl

-- The use table as it is filled: its main weights, and the scales that bits give
use mathlib.Core.Path.{sym, ap, subst}
use mathlib.Core.List.{map}
use Prim.Native.Nat.{ℕ, ◌+◌, ◌≤◌}
use native.Mathlib.Omega.{arith}
use lib.ListN.{length, length-map}
use Rattle.numbers.specs.declared.costs.RematScales.{RematScales}
use Rattle.numbers.proofs.UseCosts.{Scales, value_cost}
use Rattle.use_rows.specs.Uses.{Source, use_table_of}
use Rattle.use_rows.specs.UseColumns.{UseColumns, Inside, Holds}
use Rattle.use_rows.specs.declared.row.SplitUse.{SplitUse}
use Rattle.uses.proofs.UseTable.{use_table_few}
use Rattle.filling.specs.UseTables.{FromBits}
use Rattle.columns.proofs.Fillings.{filled_long}

pub scales_of : (scales : RematScales) → FromBits scales → Scales scales
scales_of scales b = subst Scales (sym b.is) (record { move = value_cost b.move; load = value_cost b.load; indirectly = value_cost b.indirectly })

-- the rows used are rows of the column
pub mains_inside : (job : Source) (lent now : UseColumns) (used : ℕ) → Holds (use_table_of job) lent now used → Inside (length job.uses + 1) lent
    → used ≤ length now.mains
mains_inside job lent now used held room =
    let f = use_table_few job in
    let m = length-map (use_table_of job) (λ (u : SplitUse). u.weight) in
    let r = room.main in
    let a = ap (λ (c : UseColumns). length c.mains) held.cols in
    let b = filled_long (map (λ (u : SplitUse). u.weight) (use_table_of job)) lent.mains (omega (arith, f, m, r)) in
    let c = held.count in
    omega (arith, f, m, r, a, b, c)

-- `use_spill_cost` scales what `spill_cost` returns as its definition picks by the same tests
use mathlib.Core.Path.{ap}
use native.Mathlib.Omega.{arith}
use borrow.Author.Tests.{ne_eqb}
use lib.Ieee.{Float, binary32, mul}
use Rattle.numbers.specs.Cost.{scaled}
use Rattle.numbers.proofs.costs.use_spill_cost.Goals as goal

pub returns-in-1 : goal.returns-in-1
unfolding scaled
returns-in-1 c = simp (c.in-1.is) (ap (λ (x : Float). mul binary32 x c.args.scales.cheaper_than_move) c.spill_cost-spill_cost.ensures)

pub returns-in-2 : goal.returns-in-2
unfolding scaled
returns-in-2 c = simp (c.in-2.is) (ap (λ (x : Float). mul binary32 x c.args.scales.cheaper_than_load) c.spill_cost-spill_cost.ensures)

pub returns-in-3 : goal.returns-in-3
unfolding scaled
returns-in-3 c = simp (c.in-3.is) (ap (λ (x : Float). mul binary32 x c.args.scales.indirect) c.spill_cost-spill_cost.ensures)

pub returns-in_default : goal.returns-in_default
unfolding scaled
returns-in_default c =
    simp (ne_eqb c.args.code 1 (λ e. omega (arith, e)), ne_eqb c.args.code 2 (λ e. omega (arith, e)), ne_eqb c.args.code 3 (λ e. omega (arith, e)))
    c.spill_cost-spill_cost.ensures

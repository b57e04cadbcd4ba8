-- Use costs
use Rattle.std.specs.Prelude.{ℕ, pos, negsuc, ltb, eqb, false, cond, Float}
use Rattle.std.specs.Float.{fin, binary32}
use Rattle.std.specs.Float.Ieee.{sub, mul}
use Rattle.numbers.specs.declared.costs.RematScales.{RematScales}
use Rattle.numbers.specs.Weight.{zero_weight, cost_limit, value_of}

-- the reload cost, 1.0
abbrev pub reload_cost : Float
reload_cost = fin false 1 (pos 0)

-- the move cost, 0.5
abbrev pub move_cost : Float
move_cost = fin false 1 (negsuc 0)

-- a use's cost by its kind and cost field: fixed uses cost a reload unless in memory, tied uses and conflicts what a move saves, class uses
-- the field, block parameters nothing
unfoldable pub spill_cost : Float → Float → ℕ → ℕ → Float
unfolding value_of
spill_cost reload move kind field =
    cond (ltb kind 2) (cond (eqb field 0) reload zero_weight)
    (cond (ltb kind 4) (sub binary32 reload move)
    (cond (ltb kind 8) (value_of cost_limit field) zero_weight))

-- a use's cost scaled by its value's code: 0 none, 1 cheaper than move, 2 cheaper than load, 3 indirect
unfoldable pub scaled : ℕ → RematScales → Float → Float
scaled code scales cost =
    cond (eqb code 1) (mul binary32 cost scales.cheaper_than_move)
    (cond (eqb code 2) (mul binary32 cost scales.cheaper_than_load)
    (cond (eqb code 3) (mul binary32 cost scales.indirect) cost))

-- the scales that three bits give
abbrev pub scales_of : ℕ → ℕ → ℕ → RematScales
scales_of move load indirect =
    record { cheaper_than_move = value_of cost_limit move; cheaper_than_load = value_of cost_limit load; indirect = value_of cost_limit indirect }

-- ---- for contracts of private functions
-- the bits of a use's cost, at the costs 1.0 and 0.5
unfoldable pub cost_bits : ℕ → ℕ → ℕ
cost_bits kind field = cond (ltb kind 4) (cond (ltb kind 2) (cond (eqb field 0) 1065353216 0) 1056964608) (cond (ltb kind 8) field 0)

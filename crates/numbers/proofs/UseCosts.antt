-- Use costs are weights of at most 65536.0 before they are scaled, and finite after it; a cost may be picked as bits
use mathlib.Core.Path.{◌≡◌, refl, sym, ap, ◌∙◌}
use Prim.Native.Nat.{ℕ, ◌*◌, ◌^◌, ◌≤◌, zero-le}
use native.Mathlib.Nat.{le_trans, le_of_eq, lt_of_le_of_lt, mul-pos, mul-le-mul, mul-le-mul_right}
use mathlib.Core.Bool.{Bool, true, false, cond}
use lib.Dec.{leb, ltb, eqb, leb→le, lit≤}
use lib.Pow.{pow_pos}
use lib.Ieee.{Float, fin, binary32, fits, sub, mul, of_bits}
use Rattle.numbers.specs.declared.costs.RematScales.{RematScales}
use Rattle.numbers.specs.Weight.{Finite, number, finite, units_of, zero_weight, cost_limit, value_of}
use Rattle.numbers.specs.Cost.{reload_cost, move_cost, spill_cost, scaled, cost_bits}
use Rattle.columns.proofs.Tests.{cond_both, halved, two_four}
use Rattle.numbers.proofs.Units.{units_below, finite_of_units, zero_finite, zero_units}
use Rattle.numbers.proofs.Rounding.{rounded, round_at_most}
use Rattle.numbers.proofs.Operations.{product_round, product_weight, difference_finite}
use Rattle.numbers.proofs.Bits.{value_finite, bits_monotone}

-- a cost: a weight of at most 65536.0, which is 2 to the power 165 units
pub record Cost (x : Float) : Type 0 where
  pub weight : Finite x
  pub limited : units_of x ≤ 2 ^ 165

zero_cost : Cost zero_weight
zero_cost = record { weight = zero_finite; limited = le_trans (le_of_eq zero_units) zero-le }

pub reload_cost_lem : Cost reload_cost
unfolding fits units_of
reload_cost_lem = record { weight = number tt; limited = lit≤ tt }

pub move_cost_lem : Cost move_cost
unfolding fits units_of
move_cost_lem = record { weight = number tt; limited = lit≤ tt }

-- a move costs no more than a reload
pub move_below_reload : units_of move_cost ≤ units_of reload_cost
unfolding units_of
move_below_reload = lit≤ tt

-- a class cost or a scale, from its bits
most : units_of (of_bits binary32 cost_limit) ≡ 2 ^ 165
unfolding units_of of_bits
most = refl

pub value_cost : (bits : ℕ) → Cost (value_of cost_limit bits)
value_cost bits =
    record {
      weight = value_finite cost_limit bits (lit≤ tt);
      limited = unfold value_of in cond_both (λ (x : Float). units_of x ≤ 2 ^ 165) (leb bits cost_limit) (of_bits binary32 bits) zero_weight
          (λ t. le_trans (bits_monotone bits cost_limit (lit≤ tt) (leb→le bits cost_limit t)) (le_of_eq most))
          (λ _. zero_cost.limited);
    }

-- a use's cost, at any reload and move cost
pub spill_cost_cost : {reload move : Float} → Cost reload → Cost move → units_of move ≤ units_of reload → (kind field : ℕ)
    → Cost (spill_cost reload move kind field)
unfolding spill_cost
spill_cost_cost {reload} {move} r m h kind field =
    cond_both Cost (ltb kind 2) (cond (eqb field 0) reload zero_weight)
    (cond (ltb kind 4) (sub binary32 reload move) (cond (ltb kind 8) (value_of cost_limit field) zero_weight))
    (λ _. cond_both Cost (eqb field 0) reload zero_weight (λ _. r) (λ _. zero_cost))
    (λ _. cond_both Cost (ltb kind 4) (sub binary32 reload move) (cond (ltb kind 8) (value_of cost_limit field) zero_weight)
    (λ _. saved)
    (λ _. cond_both Cost (ltb kind 8) (value_of cost_limit field) zero_weight (λ _. value_cost field) (λ _. zero_cost)))
  where
    saved : Cost (sub binary32 reload move)
    saved = let d = difference_finite r.weight m.weight h in record { weight = d.0; limited = le_trans d.1 r.limited }

-- ---- scaled
-- the product of two costs is at most 65536.0 times 65536.0
square : Float
square = fin false 1 (lib.IntN.pos 32)

square_finite : Finite square
unfolding square fits
square_finite = number tt

square_units : units_of square ≡ 2 ^ 181
unfolding square units_of
square_units = refl

pub product_finite : {x y : Float} → Cost x → Cost y → Finite (mul binary32 x y)
unfolding rounded
product_finite {x} {y} a b =
    let p = product_round a.weight b.weight in
    let l : units_of x * units_of y * 2 ^ 149 ≤ units_of square * (2 ^ 149 * 2 ^ 149) =
    le_trans (mul-le-mul_right (2 ^ 149) (mul-le-mul a.limited b.limited))
    (le_trans (lit≤ tt) (le_of_eq (ap (λ (u : ℕ). u * (2 ^ 149 * 2 ^ 149)) (sym square_units)))) in
    finite_of_units (product_weight a.weight b.weight)
    (lt_of_le_of_lt (le_trans (le_of_eq (ap units_of p)) (round_at_most (finite square_finite) (units_of x * units_of y) (2 ^ 149 * 2 ^ 149)
    (mul-pos (pow_pos 149) (pow_pos 149)) l)) (units_below square_finite))

-- the three scales of a job
pub record Scales (s : RematScales) : Type 0 where
  pub move : Cost s.cheaper_than_move
  pub load : Cost s.cheaper_than_load
  pub indirectly : Cost s.indirect

pub scaled_finite : {cost : Float} {s : RematScales} (code : ℕ) → Scales s → Cost cost → Finite (scaled code s cost)
unfolding scaled
scaled_finite {cost} {s} code k c =
    let one = mul binary32 cost s.cheaper_than_move in
    let two = mul binary32 cost s.cheaper_than_load in
    let three = mul binary32 cost s.indirect in
    cond_both Finite (eqb code 1) one (cond (eqb code 2) two (cond (eqb code 3) three cost)) (λ _. product_finite c k.move)
    (λ _. cond_both Finite (eqb code 2) two (cond (eqb code 3) three cost) (λ _. product_finite c k.load)
    (λ _. cond_both Finite (eqb code 3) three cost (λ _. product_finite c k.indirectly) (λ _. c.weight)))

-- ---- from bits
-- picked as bits and then made a number, or picked as a number, by the same tests
picked_bits : (two four eight free : Bool) (field : ℕ) →
    value_of cost_limit (cond two (cond free 1065353216 0) (cond four 1056964608 (cond eight field 0)))
    ≡ cond two (cond free reload_cost zero_weight) (cond four (sub binary32 reload_cost move_cost) (cond eight (value_of cost_limit field) zero_weight))
unfolding value_of sub of_bits
picked_bits true four eight true field = refl
picked_bits true four eight false field = refl
picked_bits false true eight free field = refl
picked_bits false false true free field = refl
picked_bits false false false free field = refl

-- the value of the bits of a use's cost is its cost
pub bits_cost : (kind field : ℕ) → value_of cost_limit (cost_bits kind field) ≡ spill_cost reload_cost move_cost kind field
unfolding cost_bits spill_cost
bits_cost kind field =
    ap (value_of cost_limit) (halved (ltb kind 2) (ltb kind 4) (cond (eqb field 0) 1065353216 0) 1056964608 (cond (ltb kind 8) field 0) (two_four kind))
    ∙ picked_bits (ltb kind 2) (ltb kind 4) (ltb kind 8) (eqb field 0) field

-- Worked values of the definitions, each list one computed test
use mathlib.Core.Path.{◌≡◌, refl}
use Prim.Native.Nat.{ℕ, ◌*◌, ◌-◌, ◌^◌}
use mathlib.Core.Bool.{Bool, true, false}
use mathlib.Core.List.{[], ◌∷◌, map}
use lib.Ieee.{Float, binary32, to_bits, of_bits, sub, mul, div, round, lt, of_int}
use Rattle.numbers.specs.Weight.{units_of, weight_limit, value_of}
use Rattle.numbers.specs.Cost.{reload_cost, move_cost, spill_cost}
use Rattle.numbers.specs.Normal.{normalised, fraction, exceeds}
use Rattle.numbers.specs.Figure.{figure_of, figure, apart}

value : ℕ → Float
unfolding value_of of_bits
value = value_of weight_limit

-- the units of 0, the smallest weight, 1.0, the largest finite one and infinity; and of bits above infinity's
units_cases : map (λ (b : ℕ). units_of (value b)) (0 ∷ 1 ∷ 1065353216 ∷ 2139095039 ∷ 2139095040 ∷ 2139095041 ∷ [])
    ≡ 0 ∷ 1 ∷ 2 ^ 149 ∷ (2 ^ 24 - 1) * 2 ^ 253 ∷ 2 ^ 277 ∷ 0 ∷ []
unfolding value units_of
units_cases = refl

-- 2007 / 2048 and 2048 / 2048 as bits
fraction_cases : map (λ (n : ℕ). to_bits binary32 (fraction n)) (2007 ∷ 2048 ∷ []) ≡ 1065017344 ∷ 1065353216 ∷ []
unfolding to_bits fraction round
fraction_cases = refl

-- document 01's C and D: 2.0 over 4 instructions is not above 1056628736 and is above 1056628735; its figure is 500
test : ℕ → Bool
unfolding exceeds normalised value fraction round mul div lt of_int
test met = exceeds 2007 (normalised (value 1073741824) 4 0) (value met)

test_cases : map test (1056628736 ∷ 1056628735 ∷ []) ≡ false ∷ true ∷ []
unfolding test
test_cases = refl

-- an infinite weight is normalised to the largest finite one; 1.0 over 3 instructions is 0.33333334
normalised_cases : map (λ (b : ℕ). to_bits binary32 (normalised (value b) 2 1)) (2139095040 ∷ 1065353216 ∷ []) ≡ 2139095039 ∷ 1051372203 ∷ []
unfolding to_bits normalised value div lt of_int
normalised_cases = refl

-- 0.5; 1/16 and 3/16, which tie; 0.009, 0.0009 and 0.0004; zero and the smallest weight above it; 999999.9375 and 1000000.0; the largest finite one,
-- infinity, and bits above infinity's
figure_cases : map (λ (b : ℕ). figure (value b))
    (1056964608 ∷ 1031798784 ∷ 1044381696 ∷ 1007908028 ∷ 980151802 ∷ 970045207 ∷ 0 ∷ 1 ∷ 1232348159 ∷ 1232348160 ∷ 2139095039 ∷ 2139095040 ∷ 2139095041 ∷ [])
    ≡ 500 ∷ 62 ∷ 188 ∷ 9 ∷ 1 ∷ 1 ∷ 0 ∷ 1 ∷ 999999938 ∷ 999999999 ∷ 999999999 ∷ 999999999 ∷ 0 ∷ []
unfolding figure figure_of value units_of
figure_cases = refl

-- 1/16 and 3/16 are half a thousandth from their figures
tie_cases : map (λ (b : ℕ). 2 * apart (figure (value b) * 2 ^ 149) (1000 * units_of (value b))) (1031798784 ∷ 1044381696 ∷ []) ≡ 2 ^ 149 ∷ 2 ^ 149 ∷ []
unfolding figure figure_of value units_of
tie_cases = refl

-- each kind's cost: in a register, in memory, a saved move, a class cost of 3.0, nothing
cost : ℕ → ℕ → ℕ
unfolding spill_cost to_bits sub of_bits
cost kind field = to_bits binary32 (spill_cost reload_cost move_cost kind field)

cost_cases : cost 0 0 ∷ cost 1 1 ∷ cost 2 0 ∷ cost 3 0 ∷ cost 4 1077936128 ∷ cost 7 1077936128 ∷ cost 8 0 ∷ cost 9 0 ∷ []
    ≡ 1065353216 ∷ 0 ∷ 1056964608 ∷ 1056964608 ∷ 1077936128 ∷ 1077936128 ∷ 0 ∷ 0 ∷ []
unfolding cost
cost_cases = refl

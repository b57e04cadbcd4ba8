-- The order of tries on three gaps: a computed table
use mathlib.Core.Path.{◌≡◌, refl}
use Prim.Native.Nat.{ℕ}
use mathlib.Core.Bool.{Bool, false}
use mathlib.Core.List.{List, [], ◌∷◌, map}
use lib.Ieee.{Float, binary32, of_bits, add, mul, div, round, lt, of_int}
use lib.ListN.{get_or, length}
use Rattle.numbers.specs.Normal.{normalised, fraction, exceeds}
use Rattle.growth.specs.Growth.{numbers_from, weights_in, weight_test, passes, side_open, left_first, side_tried, came, try_on, try, growth, grown}
use Rattle.growth.specs.Proposal.{split_cost, end_of, proposal_with, region_of}
use Rattle.growth.specs.Columns.{seen_in}
use Rattle.std.specs.Prelude.{Option, Some, None}
use Rattle.numbers.specs.declared.Inst.{Inst}
use Rattle.growth.specs.declared.proposal.SplitProposal.{SplitProposal}

value : ℕ → Float
unfolding of_bits
value = of_bits binary32

values : List ℕ → List Float
unfolding value
values = map value

-- a gap: first instruction, weight, live instructions, frequency, whether it is fixed, the weights it meets; weights as bits
record Gap : Type 0 where
  pub first : ℕ
  pub weight : ℕ
  pub live : ℕ
  pub freq : ℕ
  pub fixed : Bool
  pub met : List ℕ

gap : ℕ → ℕ → ℕ → ℕ → Bool → List ℕ → Gap
gap first weight live freq fixed met = record { first = first; weight = weight; live = live; freq = freq; fixed = fixed; met = met }

-- the answer to gaps, with the own one's number and k
answer : ℕ → ℕ → List Gap → Option SplitProposal
unfolding value values region_of numbers_from weights_in weight_test passes side_open left_first side_tried came try_on try growth grown split_cost end_of proposal_with
    normalised fraction exceeds round add mul div lt of_int
answer own k gaps =
    region_of
    (seen_in (map (λ (g : Gap). g.first) gaps) (map (λ (g : Gap). value g.weight) gaps) (map (λ (g : Gap). g.live) gaps)
    (map (λ (g : Gap). value g.freq) gaps) (length gaps) own
    (λ (i : ℕ). get_or (map (λ (g : Gap). g.fixed) gaps) i false) (λ (i : ℕ). get_or (map (λ (g : Gap). values g.met) gaps) i []) k)

-- a proposal, with its weights as bits
found : Option Inst → Option Inst → ℕ → ℕ → ℕ → ℕ → Option SplitProposal
unfolding value
found left right weight insts heaviest cost =
    Some (record {
      left = left;
      right = right;
      use_weight = value weight;
      live_insts = insts;
      interference_weight = value heaviest;
      split_cost =
          value cost;
    })

-- the own gap of weight 8.0 between two gaps of frequency 1.0 without weight; only one of them can be grown
three_gaps : ℕ → ℕ → List Gap
unfolding gap
three_gaps left-live right-live =
    gap 2 0 left-live 1065353216 false [] ∷ gap 5 1090519040 1 1065353216 false [] ∷ gap 6 0 right-live 1065353216 false (1069547520 ∷ []) ∷ []

-- the left gap has the higher frequency and meets 0.75, for which 1.0 over 2 instructions is too light; the right one weighs 9.0
barred_gaps : List Gap
unfolding gap
barred_gaps = gap 2 0 1 1073741824 false (1061158912 ∷ []) ∷ gap 5 1065353216 1 1065353216 false [] ∷ gap 6 1091567616 1 1065353216 false [] ∷ []

-- on equal frequencies left is taken if its live instructions are at least the right's, else right; a barred side is not tried again
side_cases : answer 1 0 (three_gaps 3 3) ∷ answer 1 0 (three_gaps 3 4) ∷ answer 1 0 barred_gaps ∷ []
    ≡ found None (Some (record { 0 = 6 })) 1090519040 4 0 1065353216
    ∷ found (Some (record { 0 = 5 })) None 1090519040 5 1069547520 1065353216
    ∷ found (Some (record { 0 = 5 })) None 1092616192 2 0 1073741824 ∷ []
unfolding answer found three_gaps barred_gaps
side_cases = refl

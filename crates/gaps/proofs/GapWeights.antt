-- The weights and frequencies of gaps are weights
use mathlib.Core.List.{List, [], ◌∷◌}
use Prim.Native.Nat.{ℕ, ◌+◌, ◌-◌}
use lib.Dec.{lit≤}
use lib.Ieee.{Float, add, binary32}
use lib.ListN.{length}
use Rattle.numbers.specs.Weight.{Weight, Finite, finite, zero_weight, frequency_limit, Weights}
use Rattle.numbers.proofs.Units.{zero_finite}
use Rattle.numbers.proofs.Bits.{value_finite}
use Rattle.numbers.proofs.Operations.{sum_weight}
use Rattle.links.specs.Blocks.{BlockRow, block_at, block_of}
use Rattle.links.specs.Split.{edge, preferred, home}
use Rattle.links.specs.declared.lower.Side.{Side}
use Rattle.links.specs.declared.lower.Side.TheVariants.{Previous, Next}
use Rattle.use_rows.specs.Uses.{frequency_at}
use Rattle.use_rows.specs.declared.row.SplitUse.{SplitUse}
use Rattle.gaps.specs.Gaps.{Gap, gap_weight, near, far, near_weight, far_weights, far_end, spanned, cut_gaps, frequency_of, cuts, gaps_between, own_gap, use_of}
use Rattle.gaps.specs.Gaps.{gaps_on, gaps_of}
use Rattle.numbers.specs.Sum.{plus}
use Rattle.columns.specs.Table.{Each}
use Rattle.gaps.proofs.Chains.{each_append, each_in_order}
use Rattle.gaps.proofs.GapTable.{each_joined}

-- a gap whose weight is a weight and whose frequency is finite
pub record Weighed (g : Gap) : Type 0 where
  pub weight : Weight (gap_weight g)
  pub freq : Finite g.freq

-- a use whose three weights are weights
pub record Weighty (u : SplitUse) : Type 0 where
  pub main : Weight u.weight
  pub left : Weight u.left_weight
  pub right : Weight u.right_weight

plus_weight : (w : Float) (ws : List Float) → Weight w → Weights ws → Weight (plus w ws)
unfolding plus
plus_weight w [] p q = p
plus_weight w (v ∷ vs) p q = plus_weight (add binary32 w v) vs (sum_weight p q.0) q.1

block_finite : (blocks : List BlockRow) (b : ℕ) → Finite (frequency_of blocks b)
block_finite blocks b = value_finite frequency_limit (block_at blocks b).frequency (lit≤ tt)

cut_weighed : (side : Side) (blocks : List BlockRow) (edge_of : ℕ → ℕ) (end : ℕ) (ws : List Float) (e : ℕ) (w : Float) (b : ℕ) (cs : List ℕ) → Weight w
    → Weights ws
    → Each Weighed (cut_gaps side (λ b. frequency_of blocks b) edge_of end ws e w b cs)
unfolding cut_gaps plus
cut_weighed side blocks edge_of end ws e w b [] p q = (record { weight = plus_weight w ws p q; freq = block_finite blocks b }, tt)
cut_weighed side blocks edge_of end ws e w b (c ∷ cs) p q =
    each_in_order Weighed side (spanned side e (edge_of c) (w ∷ []) (frequency_of blocks b) b)
    (cut_gaps side (λ b. frequency_of blocks b) edge_of end ws (edge_of c) zero_weight c cs)
    (record { weight = p; freq = block_finite blocks b }) (cut_weighed side blocks edge_of end ws (edge_of c) zero_weight c cs (finite zero_finite) q)

between_weighed : (side : Side) (blocks : List BlockRow) (u v : SplitUse) → Weighty u → Weighty v → Each Weighed (gaps_between side blocks u v)
unfolding gaps_between
between_weighed side blocks u v a b =
    cut_weighed side blocks (λ c. edge side (block_at blocks c)) (far_end side u.inst.0 v.inst.0) (far_weights side (far side u v))
    (preferred side u.inst.0 v.inst.0) (near_weight side (near side u v))
    (block_of blocks (home side u.inst.0 v.inst.0)) (cuts side blocks u.inst.0 v.inst.0) (near_is side) (far_are side)
  where
    near_is : (side : Side) → Weight (near_weight side (near side u v))
    near_is Previous = b.left
    near_is Next = a.right

    far_are : (side : Side) → Weights (far_weights side (far side u v))
    far_are Previous = (a.right, (a.main, tt))
    far_are Next = (b.left, (b.main, tt))

pub gaps_weighed : (blocks : List BlockRow) (uses : List SplitUse) → ((k : ℕ) → Weighty (use_of uses k)) → (best : ℕ) → Each Weighed (gaps_of blocks uses best)
unfolding gaps_of plus frequency_at
gaps_weighed blocks uses w best =
    each_append Weighed (gaps_on Previous blocks uses 0 best) (own_gap blocks (use_of uses best) ∷ gaps_on Next blocks uses best (length uses - 1 - best))
    (each_joined Weighed (λ k. gaps_between Previous blocks (use_of uses k) (use_of uses (k + 1))) 0 best
    (λ k _ _. between_weighed Previous blocks (use_of uses k) (use_of uses (k + 1)) (w k) (w (k + 1)))) (
      record { weight = (w best).main; freq = block_finite blocks (block_of blocks (use_of uses best).inst.0) },
      each_joined Weighed (λ k. gaps_between Next blocks (use_of uses k) (use_of uses (k + 1))) best (length uses - 1 - best)
          (λ k _ _. between_weighed Next blocks (use_of uses k) (use_of uses (k + 1)) (w k) (w (k + 1))),
    )

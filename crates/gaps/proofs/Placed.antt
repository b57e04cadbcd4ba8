-- Each counted weight stands in exactly one gap: whatever measures weights, with nothing for zero, the gaps' weights measure what the uses' weights measure
use mathlib.Core.Path.{◌≡◌, refl, sym, ap, ap₂, ◌∙◌}
use mathlib.Core.List.{List, [], ◌∷◌, ◌++◌}
use Prim.Native.Nat.{ℕ, zero, suc, ◌+◌, ◌-◌, ◌<◌}
use native.Mathlib.Numerals.{add-one}
use native.Mathlib.Omega.{arith}
use lib.Ieee.{Float}
use lib.ListN.{length}
use Rattle.numbers.specs.Weight.{zero_weight}
use Rattle.links.specs.Blocks.{BlockRow, block_at, block_of}
use Rattle.links.specs.Split.{edge, preferred, home}
use Rattle.links.specs.declared.lower.Side.{Side}
use Rattle.links.specs.declared.lower.Side.TheVariants.{Previous, Next}
use Rattle.columns.specs.Below.{sum_below, joined}
use Rattle.use_rows.specs.declared.row.SplitUse.{SplitUse}
use Rattle.gaps.specs.Gaps.{Gap, near, far, near_weight, far_weights, far_end, spanned, in_order, cut_gaps, frequency_of, cuts, gaps_between, own_gap, use_of}
use Rattle.gaps.specs.Gaps.{gaps_on, gaps_of}
use Rattle.gaps.specs.Laws.{measure, placed, row_measure}

module _ (f : Float → ℕ) where
  -- of n uses from the i-th on
  abbrev sum_from : (ℕ → ℕ) → ℕ → ℕ → ℕ
  sum_from part i zero = 0
  sum_from part i (suc n) = part i + sum_from part (suc i) n

  placed_append : (gs hs : List Gap) → placed f (gs ++ hs) ≡ placed f gs + placed f hs
  placed_append [] hs = omega arith
  placed_append (g ∷ gs) hs = let e = placed_append gs hs in omega (arith, e)

  placed_in_order : (side : Side) (g : Gap) (gs : List Gap) → placed f (in_order side g gs) ≡ measure f g.weights + placed f gs
  placed_in_order Previous g gs = let e = placed_append gs (g ∷ []) in omega (arith, e)
  placed_in_order Next g gs = refl

  placed_joined : (lists : ℕ → List Gap) (part : ℕ → ℕ) → ((k : ℕ) → placed f (lists k) ≡ part k) → (i n : ℕ) → placed f (joined lists i n) ≡ sum_from part i n
  unfolding joined
  placed_joined lists part h i zero = refl
  placed_joined lists part h i (suc n) =
      let a = placed_append (lists i) (joined lists (suc i) n) in let b = h i in let c = placed_joined lists part h (suc i) n in omega (arith, a, b, c)

  module _ (none : f zero_weight ≡ 0) where
    placed_cut : (side : Side) (freqOf : ℕ → Float) (edge_of : ℕ → ℕ) (end : ℕ) (ws : List Float) (e : ℕ) (w : Float) (b : ℕ) (cs : List ℕ)
        → placed f (cut_gaps side freqOf edge_of end ws e w b cs) ≡ f w + measure f ws
    unfolding cut_gaps
    placed_cut side freqOf edge_of end ws e w b [] = omega arith
    placed_cut side freqOf edge_of end ws e w b (c ∷ cs) =
        let o = placed_in_order side (spanned side e (edge_of c) (w ∷ []) (freqOf b) b) (cut_gaps side freqOf edge_of end ws (edge_of c) zero_weight c cs) in
        let r = placed_cut side freqOf edge_of end ws (edge_of c) zero_weight c cs in
        omega (arith, o, r, none)

    -- between two uses: the earlier one's right weight, the later one's left weight, and the farther one's main weight
    placed_between : (side : Side) (blocks : List BlockRow) (u v : SplitUse)
        → placed f (gaps_between side blocks u v) ≡ f u.right_weight + f v.left_weight + f (far side u v).weight
    unfolding gaps_between
    placed_between side blocks u v =
        placed_cut side (λ b. frequency_of blocks b) (λ c. edge side (block_at blocks c)) (far_end side u.inst.0 v.inst.0) (far_weights side (far side u v))
        (preferred side u.inst.0 v.inst.0) (near_weight side (near side u v))
        (block_of blocks (home side u.inst.0 v.inst.0)) (cuts side blocks u.inst.0 v.inst.0)
        ∙ by side
      where
        by : (side : Side) → f (near_weight side (near side u v)) + measure f (far_weights side (far side u v))
            ≡ f u.right_weight + f v.left_weight + f (far side u v).weight
        by Previous = omega arith
        by Next = omega arith

    -- all: each use's main weight, and between neighbours the right weight of the one and the left weight of the other
    module _ (blocks : List BlockRow) (uses : List SplitUse) where
      abbrev main : ℕ → ℕ
      main k = f (use_of uses k).weight

      abbrev beside : ℕ → ℕ
      beside k = f (use_of uses k).right_weight + f (use_of uses (k + 1)).left_weight

      -- sums from an index on
      from_split : (part : ℕ → ℕ) (i n m : ℕ) → sum_from part i (n + m) ≡ sum_from part i n + sum_from part (i + n) m
      from_split part i zero m = let a : zero + m ≡ m = omega arith in let b : i + zero ≡ i = omega arith in ap₂ (sum_from part) (sym b) a ∙ omega arith
      from_split part i (suc n) m =
          let a : suc n + m ≡ suc (n + m) = omega arith in
          let b : suc i + n ≡ i + suc n = omega arith in
          let r = from_split part (suc i) n m in
          let c = ap (λ (x : ℕ). sum_from part x m) b in
          ap (sum_from part i) a ∙ omega (arith, r, c)

      from_last : (part : ℕ → ℕ) (i n : ℕ) → sum_from part i (suc n) ≡ sum_from part i n + part (i + n)
      from_last part i n =
          let a : suc n ≡ n + 1 = omega arith in
          ap (sum_from part i) a ∙ from_split part i n 1 ∙ omega arith

      from_below : (part : ℕ → ℕ) (n : ℕ) → sum_from part 0 n ≡ sum_below part n
      unfolding sum_below
      from_below part zero = refl
      from_below part (suc n) = let z : 0 + n ≡ n = omega arith in from_last part 0 n ∙ ap₂ (λ (a b : ℕ). a + b) (from_below part n) (ap part z)

      from_both : (a b : ℕ → ℕ) (i n : ℕ) → sum_from (λ k. a k + b k) i n ≡ sum_from a i n + sum_from b i n
      from_both a b i zero = refl
      from_both a b i (suc n) = let r = from_both a b (suc i) n in omega (arith, r)

      from_next : (part : ℕ → ℕ) (i n : ℕ) → sum_from (λ k. part (k + 1)) i n ≡ sum_from part (i + 1) n
      from_next part i zero = refl
      from_next part i (suc n) =
          let a : i + 1 ≡ suc i = omega arith in
          let b : suc i + 1 ≡ suc (i + 1) = omega arith in
          let r = from_next part (suc i) n in
          let c = ap (λ (x : ℕ). sum_from part x n) b in
          omega (arith, r, c)

      pub weights_once : (best : ℕ) → best < length uses → placed f (gaps_of blocks uses best) ≡ sum_below beside (length uses - 1) + sum_below main (length uses)
      unfolding gaps_of
      weights_once best h =
          let right : ℕ = length uses - 1 - best in
          let l = placed_joined (λ k. gaps_between Previous blocks (use_of uses k) (use_of uses (k + 1))) (λ k. beside k + main k)
          (λ k. placed_between Previous blocks (use_of uses k) (use_of uses (k + 1))) 0 best ∙ from_both beside main 0 best in
          let r = placed_joined (λ k. gaps_between Next blocks (use_of uses k) (use_of uses (k + 1))) (λ k. beside k + main (k + 1))
          (λ k. placed_between Next blocks (use_of uses k) (use_of uses (k + 1))) best right
          ∙ from_both beside (λ k. main (k + 1)) best right ∙ ap (λ (x : ℕ). sum_from beside best right + x) (from_next main best right) in
          let a = placed_append (gaps_on Previous blocks uses 0 best) (own_gap blocks (use_of uses best) ∷ gaps_on Next blocks uses best right) in
          let n : best + right ≡ length uses - 1 = omega (arith, h) in
          let m : suc best + right ≡ length uses = omega (arith, h) in
          let z : 0 + best ≡ best = omega arith in
          let y : 0 + suc best ≡ best + 1 = omega arith in
          let s = sym (ap (sum_from beside 0) n) ∙ from_split beside 0 best right ∙ ap (λ (x : ℕ). sum_from beside 0 best + sum_from beside x right) z in
          let t = sym (ap (sum_from main 0) m) ∙ from_split main 0 (suc best) right
          ∙ ap₂ (λ (x y : ℕ). x + sum_from main y right) (from_last main 0 best ∙ ap (λ (x : ℕ). sum_from main 0 best + main x) z) y in
          let u = from_below beside (length uses - 1) in
          let v = from_below main (length uses) in
          omega (arith, a, l, r, s, t, u, v)

      -- all rows: the first one's left weight and the last one's right weight stand in no gap
      rows_once : (m : ℕ) → sum_below beside m + sum_below main (suc m) + f (use_of uses 0).left_weight + f (use_of uses m).right_weight
          ≡ sum_below (λ (k : ℕ). row_measure f (use_of uses k)) (suc m)
      unfolding sum_below
      rows_once zero = omega arith
      rows_once (suc m) = let r = rows_once m in let e = ap (λ (k : ℕ). f (use_of uses k).left_weight) (add-one m) in omega (arith, r, e)

      pub all_weights_once : (best : ℕ) → best < length uses
          → f (use_of uses 0).left_weight ≡ 0 → f (use_of uses (length uses - 1)).right_weight ≡ 0
          → placed f (gaps_of blocks uses best) ≡ sum_below (λ (k : ℕ). row_measure f (use_of uses k)) (length uses)
      all_weights_once best h first last =
          let w = weights_once best h in
          let r = rows_once (length uses - 1) in
          let one : suc (length uses - 1) ≡ length uses = omega (arith, h) in
          let a = ap (sum_below main) one in
          let b = ap (sum_below (λ (k : ℕ). row_measure f (use_of uses k))) one in
          omega (arith, w, r, a, b, first, last)

-- Live instructions over all gaps sum to those of the segments alone
use mathlib.Core.Path.{◌≡◌, refl, sym, ap, ap₂, ◌∙◌}
use Prim.Native.Nat.{ℕ, zero, suc, ◌+◌, ◌-◌, ◌≤◌, ◌<◌, min, max}
use native.Mathlib.Nat.{le_refl, le_of_eq}
use native.Mathlib.Numerals.{add-one}
use native.Mathlib.Omega.{arith}
use mathlib.Core.List.{List}
use mathlib.Core.Logic.{⊎_elim}
use lib.ListN.{length, get_or}
use Rattle.columns.specs.Below.{sum_below}
use Rattle.overlaps.specs.Live.{live_from, live_to, live_of, live_insts, overlap, live_added, live_in_gap, Gaps, Reach}
use Rattle.overlaps.proofs.LiveLaws.{sum_none, gap_order, none_before, none_past}
use Rattle.columns.proofs.Firsts.{split}

pub sum_same : (f h : ℕ → ℕ) (n : ℕ) → ((k : ℕ) → k < n → f k ≡ h k) → sum_below f n ≡ sum_below h n
unfolding sum_below
sum_same f h zero e = refl
sum_same f h (suc n) e = ap₂ (λ (a b : ℕ). a + b) (sum_same f h n (λ k l. e k (omega (arith, l)))) (e n (le_refl (suc n)))

sum_add : (f h : ℕ → ℕ) (n : ℕ) → sum_below (λ (k : ℕ). f k + h k) n ≡ sum_below f n + sum_below h n
unfolding sum_below
sum_add f h zero = refl
sum_add f h (suc n) = let a = sum_add f h n in omega (arith, a)

-- a table's sum by rows is its sum by columns
sum_swap : (f : ℕ → ℕ → ℕ) (m n : ℕ) → sum_below (λ (g : ℕ). sum_below (f g) n) m ≡ sum_below (λ (i : ℕ). sum_below (λ (g : ℕ). f g i) m) n
unfolding sum_below
sum_swap f zero n = sym (sum_none (λ (i : ℕ). 0) n (λ k l. refl))
sum_swap f (suc m) n = ap (λ (x : ℕ). x + sum_below (f m) n) (sum_swap f m n) ∙ sym (sum_add (λ (i : ℕ). sum_below (λ (g : ℕ). f g i) m) (f m) n)

-- two gaps side by side hold what one over both holds
side_by_side : (a e x y z : ℕ) → x ≤ y → y ≤ z → overlap a e x y + overlap a e y z ≡ overlap a e x z
side_by_side a e x y z h l = ⊎_elim (λ p. ⊎_elim (λ q. between p q) past (split y e)) before (split a y)
  where
    none_left : (n : ℕ) → 0 + n ≡ n
    none_left n = omega arith

    none_right : (n : ℕ) → n + 0 ≡ n
    none_right n = omega arith

    over : (m n : ℕ) → m ≤ y → y ≤ n → y - m + (n - y) ≡ n - m
    over m n p q = omega (arith, p, q)

    before : y ≤ a → overlap a e x y + overlap a e y z ≡ overlap a e x z
    before p =
        let same : max a y ≡ max a x = omega (arith, h, p) in
        ap₂ (λ (u v : ℕ). u + (min e z - v)) (none_before a e x y p) same ∙ none_left (overlap a e x z)

    past : e ≤ y → overlap a e x y + overlap a e y z ≡ overlap a e x z
    past p =
        let same : min e y ≡ min e z = omega (arith, l, p) in
        ap₂ (λ (u v : ℕ). u - max a x + v) same (none_past a e y z p) ∙ none_right (overlap a e x z)

    between : a < y → y < e → overlap a e x y + overlap a e y z ≡ overlap a e x z
    between p q =
        let low : max a y ≡ y = omega (arith, p) in
        let high : min e y ≡ y = omega (arith, q) in
        ap₂ (λ (u v : ℕ). u - max a x + (min e z - v)) high low ∙ over (max a x) (min e z) (omega (arith, h, p)) (omega (arith, l, q))

all_held : (a e x z : ℕ) → x ≤ a → e ≤ z → overlap a e x z ≡ e - a
all_held a e x z h l = omega (arith, h, l)

module _ (froms tos : List ℕ) (given : Gaps froms tos) where
  first_below_lem : (n : ℕ) → n < length froms → get_or froms 0 0 ≤ get_or tos n 0
  first_below_lem zero h = let a = given.nonempty 0 h in omega (arith, a)
  first_below_lem (suc n) h =
      let a = given.nonempty 0 (omega (arith, h)) in
      let b = gap_order froms tos given 0 (suc n) (omega arith) h in
      let c = given.nonempty (suc n) h in
      omega (arith, a, b, c)

  -- the gaps up to one hold what a gap from the first to it holds
  run : (a e n : ℕ) → n < length froms → sum_below (λ (g : ℕ). overlap a e (get_or froms g 0) (get_or tos g 0)) (suc n) ≡ overlap a e (get_or froms 0 0) (get_or tos n 0)
  unfolding sum_below
  run a e zero h = omega arith
  run a e (suc n) h =
      let next : get_or froms (suc n) 0 ≡ get_or tos n 0 = ap (λ (k : ℕ). get_or froms k 0) (sym (add-one n)) ∙ given.follows n (omega (arith, h)) in
      let low = first_below_lem n (omega (arith, h)) in
      let here = given.nonempty (suc n) h in
      ap₂ (λ (x y : ℕ). x + overlap a e y (get_or tos (suc n) 0)) (run a e n (omega (arith, h))) next
      ∙ side_by_side a e (get_or froms 0 0) (get_or tos n 0) (get_or tos (suc n) 0) low (omega (arith, next, here))

  -- gaps that hold the instructions from a to before e count each once
  tiled : (a e : ℕ) → 0 < length froms → get_or froms 0 0 ≤ a → e ≤ get_or tos (length froms - 1) 0
      → sum_below (λ (g : ℕ). overlap a e (get_or froms g 0) (get_or tos g 0)) (length froms) ≡ e - a
  tiled a e some low high =
      let one : suc (length froms - 1) ≡ length froms = omega (arith, some) in
      ap (sum_below (λ (g : ℕ). overlap a e (get_or froms g 0) (get_or tos g 0))) (sym one) ∙ run a e (length froms - 1) (le_of_eq one)
      ∙ all_held a e (get_or froms 0 0) (get_or tos (length froms - 1) 0) low high

pub live_total : (starts ends froms tos : List ℕ) → Gaps froms tos → Reach starts ends froms tos
    → sum_below (λ (g : ℕ). live_in_gap starts ends (get_or froms g 0) (get_or tos g 0)) (length froms) ≡ live_insts starts ends
live_total starts ends froms tos given reach =
    sum_swap (λ (g : ℕ). live_added starts ends (get_or froms g 0) (get_or tos g 0)) (length froms) (length starts)
    ∙ sum_same (λ (i : ℕ). sum_below (λ (g : ℕ). live_added starts ends (get_or froms g 0) (get_or tos g 0) i) (length froms)) (live_of starts ends) (length starts)
    (λ i h. tiled froms tos given (live_from starts ends i) (live_to ends i) reach.some (reach.first i h) (reach.last i h))

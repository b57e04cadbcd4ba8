-- Steps from block to block, in the column of ends: which blocks end before an instruction, and which it lies before
use mathlib.Core.Path.{◌≡◌, sym, ap, ◌∙◌}
use mathlib.Core.Bool.{true, false, cond, true≢false}
use mathlib.Core.Logic.{⊎_elim}
use mathlib.Core.List.{List}
use Prim.Native.Nat.{ℕ, ◌-◌, ◌≤◌, ◌<◌, zero-le}
use native.Mathlib.Nat.{le_antisymm}
use native.Mathlib.Omega.{arith}
use lib.Dec.{eqb, ltb}
use lib.ListN.{get_or}
use borrow.Author.Tests.{lt-ltb, ltb-true, ltb-false, eq-eqb, ne_eqb}
use Rattle.columns.proofs.Tests.{cond_true, cond_false}
use Rattle.columns.proofs.Firsts.{split, first_in, first_at_most}
use Rattle.links.specs.Blocks.{block_in, Ends}
use Rattle.links.proofs.Columns.{ends_inside}

module _ (ends : List ℕ) (n p : ℕ) (known : Ends ends n p) where
  abbrev home : ℕ
  home = block_in ends n p

  -- its block ends after it
  ends_after : p < get_or ends (block_in ends n p) 0
  ends_after = ltb-true p (get_or ends home 0) ((first_in (λ (i : ℕ). ltb p (get_or ends i 0)) n).found (ends_inside ends n p known))

  -- a block that ends after it is not before its block
  pub not_passed : (i : ℕ) → p < get_or ends i 0 → block_in ends n p ≤ i
  not_passed i h = first_at_most (λ (k : ℕ). ltb p (get_or ends k 0)) n i (lt-ltb p (get_or ends i 0) h)

  -- a block up to its own that ends before it is before its block
  pub passed : (i : ℕ) → i ≤ block_in ends n p → get_or ends i 0 ≤ p → i < block_in ends n p
  passed i h l =
      ⊎_elim (λ m. m) (λ m. absurd (later (le_antisymm h m))) (split i home)
    where
      later : i ≡ home → ⊥
      later e = let a = ends_after in let b = ap (λ (k : ℕ). get_or ends k 0) e in omega (arith, a, b, l)

  -- a block that it lies before is behind its own, and another one is not
  before_it : (b : ℕ) → 0 < b → cond (eqb b 0) false (ltb p (get_or ends (b - 1) 0)) ≡ ltb p (get_or ends (b - 1) 0)
  before_it b h = cond_false false (ltb p (get_or ends (b - 1) 0)) (ne_eqb b 0 (λ z. omega (arith, h, z)))

  pub lies_behind : (b : ℕ) → cond (eqb b 0) false (ltb p (get_or ends (b - 1) 0)) ≡ true → block_in ends n p < b
  lies_behind b e = ⊎_elim some none (split 0 b)
    where
      some : 0 < b → block_in ends n p < b
      some h = let l = not_passed (b - 1) (ltb-true p (get_or ends (b - 1) 0) (sym (before_it b h) ∙ e)) in omega (arith, h, l)

      none : b ≤ 0 → block_in ends n p < b
      none h = absurd (true≢false (sym e ∙ cond_true false (ltb p (get_or ends (b - 1) 0)) (eq-eqb b 0 (omega (arith, h)))))

  pub lies_not_behind : (b : ℕ) → b ≤ n → cond (eqb b 0) false (ltb p (get_or ends (b - 1) 0)) ≡ false → b ≤ block_in ends n p
  lies_not_behind b h e = ⊎_elim behind (λ m. m) (split home b)
    where
      behind : home < b → b ≤ home
      behind m =
          let l = ltb-false p (get_or ends (b - 1) 0) (sym (before_it b (omega (arith, m))) ∙ e) in
          let r = known.searchable.rising home (b - 1) zero-le (omega (arith, m)) (omega (arith, h, m)) in
          let a = ends_after in
          omega (arith, l, r, a)

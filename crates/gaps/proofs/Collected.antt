-- The three parts of the gaps, stored one after the other, are the gaps of the use table
use mathlib.Core.Path.{◌≡◌, sym, ap, ap₂, ◌∙◌, subst}
use mathlib.Core.List.{List, ◌∷◌, ◌++◌}
use Prim.Native.Nat.{ℕ, suc, ◌+◌, ◌-◌, ◌≤◌}
use native.Mathlib.Omega.{arith}
use lib.ListN.{length, length-append}
use Rattle.links.specs.Blocks.{blocks_of}
use Rattle.links.specs.declared.lower.Side.TheVariants.{Previous, Next}
use Rattle.columns.proofs.Tables.{table_length}
use Rattle.use_rows.specs.UseColumns.{UseColumns, use_in}
use Rattle.gaps.specs.Gaps.{Gap, gap_weight, gaps_on, gaps_of, initial_gap, uses_in, Cuttable}
use Rattle.gaps.specs.Cutting.{CutColumns, with_gap, stored_gaps, CutRows}
use Rattle.gaps.specs.Cutting.{side_gaps, own_in}
use Rattle.gaps.proofs.StoredGaps.{rows_with, rows_stored, rows_fewer, stored_three}
use Rattle.gaps.proofs.InColumns.{side_is, own_gap_lem}

module _ (freqs firsts ends prevs nexts : List ℕ) (uses : UseColumns) (best : ℕ) (c : Cuttable freqs firsts ends prevs nexts uses best) where
  abbrev left : List Gap
  left = side_gaps Previous freqs ends ends prevs uses 0 (best - 0)

  abbrev own : Gap
  own = own_in freqs ends (use_in uses best)

  abbrev right : List Gap
  right = side_gaps Next freqs ends firsts nexts uses best (length uses.insts - 1 - best)

  abbrev all : List Gap
  all = gaps_of (blocks_of freqs firsts ends) (uses_in uses) best

  left_is : left ≡ gaps_on Previous (blocks_of freqs firsts ends) (uses_in uses) 0 best
  left_is =
      let a : best - 0 ≡ best = omega arith in
      let b = c.best_inside in
      ap (side_gaps Previous freqs ends ends prevs uses 0) a ∙ side_is freqs firsts ends prevs nexts uses best c Previous prevs c.left_links 0 best
      (omega (arith, b))

  right_is : right ≡ gaps_on Next (blocks_of freqs firsts ends) (uses_in uses) best (length (uses_in uses) - 1 - best)
  right_is =
      let b = c.best_inside in
      side_is freqs firsts ends prevs nexts uses best c Next nexts c.right_links best (length uses.insts - 1 - best) (omega (arith, b))
      ∙ ap (λ (n : ℕ). gaps_on Next (blocks_of freqs firsts ends) (uses_in uses) best (n - 1 - best)) (sym (table_length (use_in uses) (length uses.insts)))

  parts : left ++ (own ∷ right) ≡ all
  unfolding gaps_of
  parts =
      ap₂ (λ (ls rs : List Gap). ls ++ rs) left_is
      (ap₂ (λ (g : Gap) (gs : List Gap). g ∷ gs) (own_gap_lem freqs firsts ends prevs nexts uses best c) right_is)

  pub initial_is : 0 + length left ≡ initial_gap (blocks_of freqs firsts ends) (uses_in uses) best
  initial_is = let e = ap length left_is in omega (arith, e)

  all_length : length all ≡ length left + suc (length right)
  all_length = ap length (sym parts) ∙ length-append left (own ∷ right)

  module _ (lent : CutColumns) (r : CutRows (length all) lent) where
    pub left_rows : CutRows (0 + length left) lent
    left_rows = let l = all_length in rows_fewer (0 + length left) (length all) lent (omega (arith, l)) r

    module _ {n₁ : ℕ} {c₁ : CutColumns} (l : (n₁ ≡ 0 + length left) × (c₁ ≡ stored_gaps 0 left lent)) where
      rows₁ : CutRows (length all) c₁
      rows₁ = subst (CutRows (length all)) (sym l.1) (rows_stored (length all) 0 left lent r)

      pub own_rows : CutRows (n₁ + 1) c₁
      own_rows = let e = all_length in let n = l.0 in rows_fewer (n₁ + 1) (length all) c₁ (omega (arith, e, n)) rows₁

      pub own_below : n₁ + 1 ≤ length all
      own_below = let e = all_length in let n = l.0 in omega (arith, e, n)

      module _ {g : Gap} {c₂ : CutColumns} (is : g ≡ own) (o : c₂ ≡ with_gap c₁ n₁ g) where
        rows₂ : CutRows (length all) c₂
        rows₂ = subst (CutRows (length all)) (sym o) (rows_with (length all) n₁ g.from g.to (gap_weight g) g.freq g.block c₁ rows₁)

        pub right_rows : CutRows (n₁ + 1 + length right) c₂
        right_rows = let e = all_length in let n = l.0 in rows_fewer (n₁ + 1 + length right) (length all) c₂ (omega (arith, e, n)) rows₂

        -- all are stored
        pub all_stored : {n₃ : ℕ} {c₃ : CutColumns} → (n₃ ≡ n₁ + 1 + length right) × (c₃ ≡ stored_gaps (n₁ + 1) right c₂)
            → (n₃ ≡ length all) × (c₃ ≡ stored_gaps 0 all lent)
        all_stored s =
            let e = all_length in
            let n = l.0 in
            let m = s.0 in
            let z : n₁ ≡ length left = omega (arith, n) in (
              omega (arith, e, n, m),
              s.1 ∙ ap (stored_gaps (n₁ + 1) right) (o ∙ ap (with_gap c₁ n₁) is ∙ ap (λ (x : CutColumns). with_gap x n₁ own) l.1)
                  ∙ ap (λ (x : ℕ). stored_gaps (x + 1) right (with_gap (stored_gaps 0 left lent) x own)) z
                  ∙ stored_three left right own lent ∙ ap (λ (gs : List Gap). stored_gaps 0 gs lent) parts,
            )

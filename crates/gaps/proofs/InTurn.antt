-- One operation or two in turn: the gap table that holds gaps with their live instructions is the one that is built and then counted in
use mathlib.Core.Path.{◌≡◌, refl, sym, ap, ap₂, ◌∙◌}
use mathlib.Core.List.{List, [], ◌∷◌, map}
use Prim.Native.Nat.{ℕ, zero, suc, ◌+◌, ◌<◌}
use native.Mathlib.Nat.{le_of_suc-le-suc}
use native.Mathlib.Omega.{arith}
use lib.ListN.{length, get_or, length-map}
use Rattle.columns.specs.Below.{sum_below}
use Rattle.columns.specs.Table.{table, filled}
use Rattle.columns.proofs.Tables.{table_length, table_same}
use Rattle.columns.proofs.Fillings.{filled_at, filled_again}
use Rattle.numbers.specs.Weight.{zero_weight}
use Rattle.overlaps.specs.Live.{live_in_gap}
use Rattle.gaps.specs.Gaps.{Gap}
use Rattle.gaps.specs.GapColumns.{GapColumns, gap_columns, froms_of, tos_of, lives_of, GapsHeld}
use Rattle.gaps.specs.InTurn.{gaps_built, lives_counted}

module _ (gaps : List Gap) (starts ends : List ℕ) (lent : GapColumns) where
  zero_at : (gs : List Gap) (k : ℕ) → k < length gs → ◌≡◌ {A = ℕ} (get_or (map (λ (g : Gap). 0) gs) k 0) 0
  zero_at [] k h = refl
  zero_at (g ∷ gs) zero h = refl
  zero_at (g ∷ gs) (suc k) h = zero_at gs k (le_of_suc-le-suc h)

  -- a row of the table that is built, and what is added to it
  row_is : (k : ℕ) → k < length gaps
      → get_or (gaps_built gaps lent).lives k 0 + live_in_gap starts ends (get_or (gaps_built gaps lent).froms k 0) (get_or (gaps_built gaps lent).tos k 0)
      ≡ live_in_gap starts ends (get_or (froms_of gaps) k 0) (get_or (tos_of gaps) k 0)
  row_is k h =
      let f = length-map gaps (λ (g : Gap). g.from) in
      let t = length-map gaps (λ (g : Gap). g.to) in
      let z = length-map {B = ℕ} gaps (λ (g : Gap). 0) in
      ap₂ (λ (a b : ℕ). a + b) (filled_at (map (λ (g : Gap). 0) gaps) lent.lives k 0 (omega (arith, h, z)) ∙ zero_at gaps k h)
      (ap₂ (live_in_gap starts ends) (filled_at (froms_of gaps) lent.froms k 0 (omega (arith, h, f))) (filled_at (tos_of gaps) lent.tos k 0 (omega
      (arith, h, t))))
      ∙ add_none (live_in_gap starts ends (get_or (froms_of gaps) k 0) (get_or (tos_of gaps) k 0))
    where
      add_none : (n : ℕ) → 0 + n ≡ n
      add_none n = omega arith

  -- the live column counted is that of the gaps
  lives_counted_lem : (lives_counted starts ends (length gaps) (gaps_built gaps lent)).lives ≡ filled (lives_of gaps starts ends) lent.lives
  lives_counted_lem =
      let f = length-map gaps (λ (g : Gap). g.from) in
      let z = length-map {B = ℕ} gaps (λ (g : Gap). 0) in
      ap (λ (rows : List ℕ). filled rows (filled (map (λ (g : Gap). 0) gaps) lent.lives))
      (table_same _ (λ (g : ℕ). live_in_gap starts ends (get_or (froms_of gaps) g 0) (get_or (tos_of gaps) g 0)) (length gaps) row_is
      ∙ ap (table (λ (g : ℕ). live_in_gap starts ends (get_or (froms_of gaps) g 0) (get_or (tos_of gaps) g 0))) (sym f))
      ∙ filled_again (lives_of gaps starts ends) (map (λ (g : Gap). 0) gaps) lent.lives
      (table_length (λ (g : ℕ). live_in_gap starts ends (get_or (froms_of gaps) g 0) (get_or (tos_of gaps) g 0)) (length (froms_of gaps)) ∙ f ∙ sym z)

  -- what one operation leaves is what the two left in turn
  pub built_then_counted : (now : GapColumns) (used : ℕ) → GapsHeld gaps starts ends lent now used → now ≡ lives_counted starts ends used (gaps_built gaps lent)
  built_then_counted now used h =
      (λ i. gap_columns (h.from i) (h.to i) (h.weight i) ((h.live ∙ sym lives_counted_lem) i) (h.freq i) (h.block i))
      ∙ ap (λ (n : ℕ). lives_counted starts ends n (gaps_built gaps lent)) (sym h.count)

-- by computation: case A's two gaps in columns of three rows, with one live instruction in the first and three in the second
two : List Gap
two = record { from = 0; to = 1; weights = []; freq = zero_weight; block = 0 } ∷ record { from = 1; to = 4; weights = []; freq = zero_weight; block = 0 } ∷ []

case_a_counted : (lives_counted (2 ∷ []) (14 ∷ []) 2
    (gaps_built two (gap_columns (7 ∷ 7 ∷ 7 ∷ []) (7 ∷ 7 ∷ 7 ∷ []) [] (7 ∷ 7 ∷ 7 ∷ []) [] []))).lives ≡ 1 ∷ 3 ∷ 7 ∷ []
unfolding two sum_below table
case_a_counted = refl

-- The four columns of the use table: one row more, the last row changed, the last row read
use mathlib.Core.Path.{◌≡◌, sym, ap₂, ◌∙◌, subst}
use mathlib.Core.List.{List, [], ◌∷◌, ◌++◌}
use Prim.Native.Nat.{ℕ, ◌<◌}
use native.Mathlib.Nat.{le_of_lt}
use lib.Ieee.{Float}
use lib.ListN.{length, get_or}
use Rattle.numbers.specs.Weight.{zero_weight}
use Rattle.columns.proofs.Fillings.{filled_more, filled_changed, filled_read, filled_field_long}
use Rattle.use_rows.specs.declared.row.SplitUse.{SplitUse}
use Rattle.use_rows.specs.UseColumns.{UseColumns, use_columns, Inside, with_use, use_in, filled_with}

-- ---- the four columns
module _ (lent : UseColumns) (rows : List SplitUse) (room : Inside (length rows) lent) where
  same : {a a' : List ℕ} {b b' c c' d d' : List Float} → a ≡ a' → b ≡ b' → c ≡ c' → d ≡ d' → use_columns a b c d ≡ use_columns a' b' c' d'
  same {a} {a'} {b} {b'} {c} {c'} {d} {d'} e f g h =
      ap₂ (λ (x : List ℕ) (y : List Float). use_columns x y c d) e f ∙ ap₂ (λ (x y : List Float). use_columns a' b' x y) g h

  -- one row more
  pub fill_more : (u : SplitUse) → with_use (filled_with rows lent) (length rows) u ≡ filled_with (rows ++ (u ∷ [])) lent
  fill_more u =
      same (filled_more (λ (v : SplitUse). v.inst.0) rows u lent.insts room.inst)
      (filled_more (λ (v : SplitUse). v.weight) rows u lent.mains room.main)
      (filled_more (λ (v : SplitUse). v.left_weight) rows u lent.lefts room.left)
      (filled_more (λ (v : SplitUse). v.right_weight) rows u lent.rights room.right)

  -- the last row changed
  pub fill_changed : (u v : SplitUse) → with_use (filled_with (rows ++ (u ∷ [])) lent) (length rows) v ≡ filled_with (rows ++ (v ∷ [])) lent
  fill_changed u v =
      same (filled_changed (λ (w : SplitUse). w.inst.0) rows u v lent.insts room.inst)
      (filled_changed (λ (w : SplitUse). w.weight) rows u v lent.mains room.main)
      (filled_changed (λ (w : SplitUse). w.left_weight) rows u v lent.lefts room.left)
      (filled_changed (λ (w : SplitUse). w.right_weight) rows u v lent.rights room.right)

  -- the last row read
  pub fill_inst : (u : SplitUse) → get_or (filled_with (rows ++ (u ∷ [])) lent).insts (length rows) 0 ≡ u.inst.0
  fill_inst u = filled_read (λ (w : SplitUse). w.inst.0) rows u lent.insts 0 room.inst

  pub fill_read : (u : SplitUse) → use_in (filled_with (rows ++ (u ∷ [])) lent) (length rows) ≡ u
  fill_read u =
      made (fill_inst u) (filled_read (λ (w : SplitUse). w.weight) rows u lent.mains zero_weight room.main)
      (filled_read (λ (w : SplitUse). w.left_weight) rows u lent.lefts zero_weight room.left)
      (filled_read (λ (w : SplitUse). w.right_weight) rows u lent.rights zero_weight room.right)
    where
      made : {i j : ℕ} {a a' b b' c c' : Float} → i ≡ j → a ≡ a' → b ≡ b' → c ≡ c'
          → ◌≡◌ {A = SplitUse} (record { inst = record { 0 = i }; weight = a; left_weight = b; right_weight = c })
          (record { inst = record { 0 = j }; weight = a'; left_weight = b'; right_weight = c' })
      made {i} {j} {a} {a'} {b} {b'} {c} {c'} e f g h =
          ap₂ (λ (x : ℕ) (y : Float). record { inst = record { 0 = x }; weight = y; left_weight = b; right_weight = c }) e f
          ∙ ap₂ (λ (x y : Float). record { inst = record { 0 = j }; weight = a'; left_weight = x; right_weight = y }) g h

  -- the columns keep their lengths
  pub fill_inside : (k : ℕ) → Inside k lent → Inside k (filled_with rows lent)
  fill_inside k i =
      record {
        inst = subst (λ (n : ℕ). k < n) (sym (filled_field_long (λ (w : SplitUse). w.inst.0) rows lent.insts (le_of_lt room.inst))) i.inst;
        main = subst (λ (n : ℕ). k < n) (sym (filled_field_long (λ (w : SplitUse). w.weight) rows lent.mains (le_of_lt room.main))) i.main;
        left = subst (λ (n : ℕ). k < n) (sym (filled_field_long (λ (w : SplitUse). w.left_weight) rows lent.lefts (le_of_lt room.left))) i.left;
        right =
            subst (λ (n : ℕ). k < n) (sym (filled_field_long (λ (w : SplitUse). w.right_weight) rows lent.rights (le_of_lt room.right))) i.right;
      }

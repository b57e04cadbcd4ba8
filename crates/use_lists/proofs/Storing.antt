-- The row stored last
use mathlib.Core.Path.{◌≡◌, refl, sym, ap}
use mathlib.Core.Bool.{true, false, true≢false}
use mathlib.Core.List.{List}
use Prim.Native.Nat.{ℕ, zero, suc, ◌-◌, ◌≤◌}
use native.Mathlib.Omega.{arith}
use lib.Dec.{eqb}
use lib.ListN.{get_or}
use Rattle.use_lists.specs.Collecting.{is_stored}

pub stored_none : (insts : List ℕ) (rows p : ℕ) → rows ≡ 0 → false ≡ is_stored insts rows p
unfolding is_stored
stored_none insts rows p e = sym (ap (λ (n : ℕ). is_stored insts n p) e)

pub stored_last : (insts : List ℕ) (rows p : ℕ) → (rows ≡ 0 → ⊥) → eqb (get_or insts (rows - 1) 0) p ≡ is_stored insts rows p
unfolding is_stored
stored_last insts zero p e = absurd (e refl)
stored_last insts (suc rows) p e = ap (λ (n : ℕ). eqb (get_or insts n 0) p) (back rows)
  where
    back : (n : ℕ) → suc n - 1 ≡ n
    back n = omega arith

pub stored_some : (insts : List ℕ) (rows p : ℕ) → is_stored insts rows p ≡ true → 1 ≤ rows
unfolding is_stored
stored_some insts zero p e = absurd (true≢false (sym e))
stored_some insts (suc rows) p e = omega arith

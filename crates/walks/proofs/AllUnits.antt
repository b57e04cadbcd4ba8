-- The units of a register, one after the other: those before v have been walked, the others wait
use mathlib.Core.Path.{◌≡◌}
use mathlib.Core.Logic.{⊎_elim}
use mathlib.Core.List.{List}
use Prim.Native.Nat.{ℕ, ◌+◌, ◌≤◌, ◌<◌}
use native.Mathlib.Omega.{arith}
use lib.ListN.{length, get_or, set, length-set}
use lib.Seq.{get_or-set_same, get_or-set_other}
use Rattle.columns.proofs.Firsts.{split}

-- Before and After say where a unit's walk may stand before the segment and behind it
pub record Walked (units : ℕ) (Before After : ℕ → ℕ → Type 0) (at : List ℕ) (v : ℕ) : Type 0 where
  pub eight : length at ≡ 8
  pub walked : (w : ℕ) → w < v → After w (get_or at w 0)
  pub waiting : (w : ℕ) → v ≤ w → w < units → Before w (get_or at w 0)

pub walked_none : (units : ℕ) (Before After : ℕ → ℕ → Type 0) (at : List ℕ) → length at ≡ 8 → ((w : ℕ) → w < units → Before w (get_or at w 0))
    → Walked units Before After at 0
walked_none units Before After at e f = record { eight = e; walked = λ w l. absurd (omega arith); waiting = λ w _ l. f w l }

pub walked_more : {units : ℕ} {Before After : ℕ → ℕ → Type 0} {at : List ℕ} {v : ℕ} (x : ℕ) → v < units → units ≤ 8 → After v x → Walked units Before After at v
    → Walked units Before After (set at v x) (v + 1)
walked_more {units} {Before} {After} {at} {v} x h few a k =
    record {
      eight = simp length-set k.eight;
      walked = λ w l. ⊎_elim (λ y. rw (get_or-set_other at v w x 0 (omega arith)) (k.walked w y))
          (λ y. let e : w ≡ v = omega arith in rw (e, get_or-set_same at v x 0 (omega arith)) a) (split w v);
      waiting = λ w y l. rw (get_or-set_other at v w x 0 (omega arith)) (k.waiting w (omega arith) l);
    }

-- Columns that are lent as one array, taken one by one
use mathlib.Core.Path.{◌≡◌, refl}
use mathlib.Core.List.{List, [], ◌∷◌, map}
use Prim.Native.Nat.{ℕ, zero, suc}
use denote.Ref.{Bor}
use lib.ListN.{get_or}

-- what stands for a column past the last one
abbrev pub no_column : Bor (List ℕ)
no_column = record { ref_ptr = (0, 0); now = [] }

-- what a reference of the array shows is what the array shows there
pub taken_at : (cs : List (Bor (List ℕ))) (i : ℕ) → (get_or cs i no_column).now ≡ get_or (map (λ x. x.now) cs) i []
taken_at [] i = refl
taken_at (c ∷ cs) zero = refl
taken_at (c ∷ cs) (suc i) = taken_at cs i

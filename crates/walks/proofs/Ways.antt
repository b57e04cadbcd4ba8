-- The way to a side: order, and places from row to row. Each fact once, for both sides
use mathlib.Core.Path.{◌≡◌, subst}
use mathlib.Core.Logic.{◌⊎◌, inl, inr, ⊎_elim, ◌↔◌}
use mathlib.Core.List.{List}
use Prim.Native.Nat.{ℕ, ◌+◌, ◌-◌, ◌≤◌, ◌<◌}
use native.Mathlib.Nat.{le_refl, le_trans, le_of_lt}
use native.Mathlib.Omega.{arith}
use lib.Dec.{T, eqb, ltb→lt, lt→ltb, eqb→eq, eqb_refl}
use lib.ListN.{get_or}
use Rattle.columns.proofs.Tests.{and_T}
use Rattle.columns.proofs.Firsts.{split}
use Rattle.links.specs.declared.lower.Side.{Side}
use Rattle.links.specs.declared.lower.Side.TheVariants.{Previous, Next}
use Rattle.links.specs.Links.{on_side}
use Rattle.walks.specs.Ways.{Upto, Before, first_end, last_end, Ahead, Behind, AnyAhead, any_ahead, row_ahead, place_behind, ahead_is}

-- ---- order
pub upto_trans : (side : Side) {a b c : ℕ} → Upto side a b → Upto side b c → Upto side a c
upto_trans Previous p q = record { is = le_trans q.is p.is }
upto_trans Next p q = record { is = le_trans p.is q.is }

-- a number between two that are the same is that number
pub upto_between : (side : Side) {a b c : ℕ} → Upto side c a → Upto side a b → b ≡ c → a ≡ c
upto_between Previous p q e = omega arith
upto_between Next p q e = omega arith

-- the ends of a stretch that is not empty
pub near_far : (side : Side) {from to : ℕ} → from < to → Upto side (first_end side from to) (last_end side from to)
near_far Previous h = record { is = le_of_lt h }
near_far Next h = record { is = le_of_lt h }

-- ---- rows about a place
pub passed_or_ahead : (side : Side) (i k : ℕ) → Behind side i k ⊎ Ahead side i k
passed_or_ahead Previous i k = ⊎_elim (λ h. inr (record { is = omega arith })) (λ h. inl (record { is = h })) (split k i)
passed_or_ahead Next i k = ⊎_elim (λ h. inl (record { is = omega arith })) (λ h. inr (record { is = h })) (split k i)

-- the row ahead is one of the rows, and none of those ahead comes before it
pub row_inside : (side : Side) {i n : ℕ} → AnyAhead side i n → i ≤ n → row_ahead side i < n
row_inside Previous h l = omega arith
row_inside Next h l = h.is

pub row_is_ahead : (side : Side) {i n : ℕ} → AnyAhead side i n → Ahead side i (row_ahead side i)
row_is_ahead Previous h = record { is = omega arith }
row_is_ahead Next {i} h = record { is = le_refl i }

pub row_first : (side : Side) {i k : ℕ} → Ahead side i k → Upto side (row_ahead side i) k
row_first Previous h = record { is = omega arith }
row_first Next h = record { is = h.is }

-- where a row lies ahead, some do
pub some_ahead : (side : Side) {i k n : ℕ} → Ahead side i k → k < n → AnyAhead side i n
some_ahead Previous p q = record { is = omega arith }
some_ahead Next p q = record { is = omega arith }

-- ---- from a place to the one behind the row ahead
pub behind_inside : (side : Side) {i n : ℕ} → AnyAhead side i n → i ≤ n → place_behind side i ≤ n
behind_inside Previous h l = omega arith
behind_inside Next h l = omega arith

pub passed_only : (side : Side) {i k : ℕ} → Behind side (place_behind side i) k → Behind side i k ⊎ (k ≡ row_ahead side i)
passed_only Previous {i} {k} h = ⊎_elim (λ l. inr (omega arith)) (λ l. inl (record { is = l })) (split k i)
passed_only Next {i} {k} h = ⊎_elim (λ l. inl (record { is = omega arith })) (λ l. inr (omega arith)) (split k i)

pub passed_still : (side : Side) {i k : ℕ} → Behind side i k → Behind side (place_behind side i) k
passed_still Previous h = record { is = omega arith }
passed_still Next h = record { is = omega arith }

pub row_passed : (side : Side) (i : ℕ) → Behind side (place_behind side i) (row_ahead side i)
row_passed Previous i = record { is = le_refl (i - 1) }
row_passed Next i = record { is = le_refl (i + 1) }

pub ahead_before : (side : Side) (i : ℕ) {k : ℕ} → Ahead side (place_behind side i) k → Ahead side i k
ahead_before Previous i h = record { is = omega arith }
ahead_before Next i h = record { is = omega arith }

pub row_before : (side : Side) (i : ℕ) {k : ℕ} → Ahead side (place_behind side i) k → Before side (row_ahead side i) k
row_before Previous i h = record { is = omega arith }
row_before Next i h = record { is = omega arith }

-- fewer rows are ahead then
pub fewer_ahead : (side : Side) {i n x : ℕ} → AnyAhead side i n → x ≡ place_behind side i → on_side side x (n - x) < on_side side i (n - i)
fewer_ahead Previous h e = omega arith
fewer_ahead Next h e = omega arith

-- ---- as code tests it
pub any_T : (side : Side) (i n : ℕ) → T (any_ahead side i n) ↔ AnyAhead side i n
any_T Previous i n = (λ t. record { is = ltb→lt 0 i t }, λ h. lt→ltb 0 i h.is)
any_T Next i n = (λ t. record { is = ltb→lt i n t }, λ h. lt→ltb i n h.is)

pub ahead_is_T : (side : Side) (column : List ℕ) (n i x : ℕ) → T (ahead_is side column n i x) ↔ (AnyAhead side i n × (get_or column (row_ahead side i) 0 ≡ x))
ahead_is_T side column n i x =
    let y = get_or column (row_ahead side i) 0 in
    let both = and_T (any_ahead side i n) (eqb y x) in (
      λ t. ((any_T side i n).0 (both.0 t).0, eqb→eq y x (both.0 t).1),
      λ h. both.1 ((any_T side i n).1 h.0, subst (λ (z : ℕ). T (eqb y z)) h.1 (eqb_refl y)),
    )

pub some_row : (side : Side) {i n : ℕ} → AnyAhead side i n → on_side side 1 0 ≤ i
some_row Previous h = h.is
some_row Next h = omega arith

-- ---- edges: gap x is the stretch from x to x + 1, and what lies about its two edges
pub near_other : (side : Side) (x : ℕ) {y : ℕ} → Behind side (first_end side x (x + 1)) y → y ≡ x → ⊥
near_other Previous x p e = omega arith
near_other Next x p e = omega arith

pub far_other : (side : Side) (x : ℕ) {y : ℕ} → Ahead side (last_end side x (x + 1)) y → y ≡ x → ⊥
far_other Previous x p e = omega arith
far_other Next x p e = omega arith

pub far_passed : (side : Side) (x : ℕ) {y : ℕ} → Behind side (first_end side x (x + 1)) y ⊎ (y ≡ x) → Behind side (last_end side x (x + 1)) y
far_passed Previous x (inl p) = record { is = omega arith }
far_passed Previous x (inr p) = record { is = omega arith }
far_passed Next x (inl p) = record { is = omega arith }
far_passed Next x (inr p) = record { is = omega arith }

pub far_ahead : (side : Side) (x : ℕ) {y : ℕ} → Ahead side (first_end side x (x + 1)) y → (y ≡ x → ⊥) → Ahead side (last_end side x (x + 1)) y
far_ahead Previous x p n = record { is = omega arith }
far_ahead Next x p n = record { is = omega arith }

pub ahead_later : (side : Side) {i x y : ℕ} → Ahead side i x → Upto side x y → Ahead side i y
ahead_later Previous p q = record { is = omega arith }
ahead_later Next p q = record { is = omega arith }

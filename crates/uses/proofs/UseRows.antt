-- The use table as more uses are seen: one use changes the row of its own instruction alone, and the rows from p on come in two parts wherever they are cut
use mathlib.Core.Path.{◌≡◌, refl, sym, ap, ap₂, ◌∙◌}
use mathlib.Core.Bool.{Bool, true, false, ◌&&◌, ◌||◌, cond}
use mathlib.Core.List.{List, [], ◌∷◌, ◌++◌, append_assoc, append-nil}
use Prim.Native.Nat.{ℕ, zero, suc, ◌+◌, ◌≤◌, ◌<◌}
use native.Mathlib.Nat.{add-zero, add-suc, add_assoc}
use native.Mathlib.Omega.{arith}
use lib.Dec.{eqb}
use borrow.Author.Tests.{eq-eqb, ne_eqb}
use Rattle.columns.proofs.Tests.{cond_true, cond_false}
use Rattle.jobs.proofs.Walk.{and_first, and_both}
use Rattle.jobs.proofs.Sound.{or_parts}
use Rattle.use_rows.specs.declared.row.SplitUse.{SplitUse}
use Rattle.use_rows.specs.Uses.{no_weights, added_to_row, Seen, counts_at, carries, split_use, has_row, rows_from}

-- "and" and "or", by what their second part is
and_second : (a b : Bool) → b ≡ false → (a && b) ≡ false
and_second true b e = e
and_second false b e = refl

or_left : (a b : Bool) → b ≡ false → (a || b) ≡ a
or_left true b e = refl
or_left false b e = e

pub or_all : (a b : Bool) → b ≡ true → (a || b) ≡ true
or_all true b e = refl
or_all false b e = e

-- ---- use n
module _ (seen : Seen) (n : ℕ) where
  -- a use that does not count leaves every row
  pub skipped_carries : seen.counts n ≡ false → (p : ℕ) → carries seen (suc n) p ≡ carries seen n p
  unfolding carries
  skipped_carries e p = or_left (carries seen n p) (counts_at seen p n) (and_first (seen.counts n) (eqb (seen.inst n) p) e)

  pub skipped_row : seen.counts n ≡ false → (p : ℕ) → split_use seen (suc n) p ≡ split_use seen n p
  unfolding split_use
  skipped_row e p = cond_false _ _ (and_first (seen.counts n) (eqb (seen.inst n) p) e)

  -- one that counts leaves the rows of other instructions
  pub other_carries : (p : ℕ) → (seen.inst n ≡ p → ⊥) → carries seen (suc n) p ≡ carries seen n p
  unfolding carries
  other_carries p e = or_left (carries seen n p) (counts_at seen p n) (and_second (seen.counts n) (eqb (seen.inst n) p) (ne_eqb (seen.inst n) p e))

  pub other_row : (p : ℕ) → (seen.inst n ≡ p → ⊥) → split_use seen (suc n) p ≡ split_use seen n p
  unfolding split_use
  other_row p e = cond_false _ _ (and_second (seen.counts n) (eqb (seen.inst n) p) (ne_eqb (seen.inst n) p e))

  -- and adds its weight to its own
  module _ (counted : seen.counts n ≡ true) where
    own_test : counts_at seen (seen.inst n) n ≡ true
    own_test = and_both (seen.counts n) (eqb (seen.inst n) (seen.inst n)) true counted (eq-eqb (seen.inst n) (seen.inst n) refl)

    pub own_carries : carries seen (suc n) (seen.inst n) ≡ true
    unfolding carries
    own_carries = or_all (carries seen n (seen.inst n)) (counts_at seen (seen.inst n) n) own_test

    pub own_row : split_use seen (suc n) (seen.inst n) ≡ added_to_row (split_use seen n (seen.inst n)) (seen.part n) (seen.weight n)
    unfolding split_use
    own_row = cond_true _ _ own_test

-- an instruction at which no use counts has no weights
pub row_none : (seen : Seen) (n p : ℕ) → carries seen n p ≡ false → split_use seen n p ≡ no_weights p
unfolding carries split_use
row_none seen zero p e = refl
row_none seen (suc n) p e =
    let parts = or_parts (carries seen n p) (counts_at seen p n) e in
    cond_false _ _ parts.1 ∙ row_none seen n p parts.0

-- ---- the rows of k instructions from p on
module _ (seen : Seen) (n first last : ℕ) where
  -- in two parts
  pub rows_split : (p k m : ℕ) → rows_from seen n first last p (k + m) ≡ rows_from seen n first last p k ++ rows_from seen n first last (p + k) m
  unfolding rows_from
  rows_split p k zero = ap (rows_from seen n first last p) (add-zero k) ∙ sym (append-nil (rows_from seen n first last p k))
  rows_split p k (suc m) =
      ap (rows_from seen n first last p) (add-suc k m)
      ∙ ap₂ (λ (a b : List SplitUse). a ++ b) (rows_split p k m) (ap own (sym (add_assoc p k m)))
      ∙ append_assoc (rows_from seen n first last p k) (rows_from seen n first last (p + k) m) (own (p + k + m))
    where
      own : ℕ → List SplitUse
      own q = cond (has_row seen n first last q) (split_use seen n q ∷ []) []

  -- none of instructions that have no row
  pub rows_none : (p k : ℕ) → ((q : ℕ) → p ≤ q → q < p + k → has_row seen n first last q ≡ false) → rows_from seen n first last p k ≡ []
  unfolding rows_from
  rows_none p zero h = refl
  rows_none p (suc k) h =
      ap₂ (λ (a b : List SplitUse). a ++ b) (rows_none p k (λ q a b. h q a (omega (arith, b)))) (cond_false _ _ (h (p + k) (omega arith) (omega arith)))

  -- one of an instruction that has
  pub rows_one : (p : ℕ) → has_row seen n first last p ≡ true → rows_from seen n first last p 1 ≡ split_use seen n p ∷ []
  unfolding rows_from
  rows_one p h = cond_true _ _ (ap (has_row seen n first last) (add-zero p) ∙ h) ∙ ap (λ (q : ℕ). split_use seen n q ∷ []) (add-zero p)

-- the same rows, where each of the instructions has the same
pub rows_same : (seen : Seen) (n m f l g k p c : ℕ) → ((q : ℕ) → p ≤ q → q < p + c
    → (has_row seen n f l q ≡ has_row seen m g k q) × (split_use seen n q ≡ split_use seen m q)) → rows_from seen n f l p c ≡ rows_from seen m g k p c
unfolding rows_from
rows_same seen n m f l g k p zero h = refl
rows_same seen n m f l g k p (suc c) h =
    let same = h (p + c) (omega arith) (omega arith) in
    ap₂ (λ (a b : List SplitUse). a ++ b) (rows_same seen n m f l g k p c (λ q a b. h q a (omega (arith, b))))
    (ap₂ (λ (t : Bool) (r : SplitUse). cond t (r ∷ []) []) same.0 same.1)

-- Lists of which something holds exactly if it does of one of their items: by place, joined, and picked by a test
use mathlib.Core.Logic.{◌⊎◌, inl, inr, ⊎_elim, ◌↔◌}
use mathlib.Core.Path.{◌≡◌, sym, subst}
use mathlib.Core.Bool.{Bool, true, false, cond}
use mathlib.Core.List.{List, [], ◌∷◌, ◌++◌}
use Prim.Native.Nat.{ℕ, zero, suc, ◌+◌, ◌≤◌, ◌<◌}
use native.Mathlib.Nat.{le_refl, le_of_suc-le-suc, not-suc-le-zero, eq-or-lt_of_le}
use native.Mathlib.Omega.{arith}
use lib.Dec.{T}
use lib.ListN.{length, get_or}
use Rattle.columns.specs.Table.{any_of}
use Rattle.columns.specs.Below.{Some, picked, joined}
use Rattle.columns.proofs.Tests.{or_T}

-- M holds of a list exactly if O does of one of its items
pub record OneOf {A : Type 0} (M : List A → Type 0) (O : A → Type 0) : Type 0 where
  pub none : M [] → ⊥
  pub next : (x : A) (xs : List A) → M (x ∷ xs) ↔ (O x ⊎ M xs)

-- some item passes a test
pub any_one : {A : Type 0} (test : A → Bool) → OneOf (λ (xs : List A). T (any_of test xs)) (λ (x : A). T (test x))
unfolding any_of
any_one test = record { none = λ t. t; next = λ x xs. or_T (test x) (any_of test xs) }

-- some item is that one
pub same_one : {A : Type 0} (d x : A) → OneOf (λ (xs : List A). Some (length xs) (λ (k : ℕ). get_or xs k d ≡ x)) (λ (y : A). y ≡ x)
same_one {A} d x = record { none = λ s. not-suc-le-zero s.inside; next = λ y ys. (split_at y ys, join y ys) }
  where
    by : (y : A) (ys : List A) (k : ℕ) → k < length (y ∷ ys) → get_or (y ∷ ys) k d ≡ x → (y ≡ x) ⊎ Some (length ys) (λ (k : ℕ). get_or ys k d ≡ x)
    by y ys zero h e = inl e
    by y ys (suc k) h e = inr (record { at = k; inside = le_of_suc-le-suc h; is = e })

    split_at : (y : A) (ys : List A) → Some (length (y ∷ ys)) (λ (k : ℕ). get_or (y ∷ ys) k d ≡ x) → (y ≡ x) ⊎ Some (length ys) (λ (k : ℕ). get_or ys k d ≡ x)
    split_at y ys s = by y ys s.at s.inside s.is

    join : (y : A) (ys : List A) → (y ≡ x) ⊎ Some (length ys) (λ (k : ℕ). get_or ys k d ≡ x) → Some (length (y ∷ ys)) (λ (k : ℕ). get_or (y ∷ ys) k d ≡ x)
    join y ys = ⊎_elim (λ e. record { at = 0; inside = omega arith; is = e }) (λ s. record { at = suc s.at; inside = omega arith; is = s.is })

module _ {A : Type 0} {M : List A → Type 0} {O : A → Type 0} (m : OneOf M O) where
  -- by its place
  pub one_some : (d : A) (xs : List A) → M xs → Some (length xs) (λ (k : ℕ). O (get_or xs k d))
  one_some d [] h = absurd (m.none h)
  one_some d (x ∷ xs) h =
      ⊎_elim (λ o. record { at = 0; inside = omega arith; is = o })
      (λ l. let s = one_some d xs l in record { at = suc s.at; inside = omega arith; is = s.is }) ((m.next x xs).0 h)

  pub some_one : (d : A) (xs : List A) (k : ℕ) → k < length xs → O (get_or xs k d) → M xs
  some_one d [] k h o = absurd (not-suc-le-zero h)
  some_one d (x ∷ xs) zero h o = (m.next x xs).1 (inl o)
  some_one d (x ∷ xs) (suc k) h o = (m.next x xs).1 (inr (some_one d xs k (le_of_suc-le-suc h) o))

  -- of two lists joined it holds if it does of one of them
  pub one_both : (xs ys : List A) → M (xs ++ ys) ↔ (M xs ⊎ M ys)
  one_both [] ys = (λ h. inr h, ⊎_elim (λ h. absurd (m.none h)) (λ h. h))
  one_both (x ∷ xs) ys =
      let n = m.next x in
      let b = one_both xs ys in (
        λ h. ⊎_elim (λ o. inl ((n xs).1 (inl o))) (λ l. ⊎_elim (λ l. inl ((n xs).1 (inr l))) (λ l. inr l) (b.0 l)) ((n (xs ++ ys)).0 h),
        ⊎_elim (λ h. (n (xs ++ ys)).1 (⊎_elim (λ o. inl o) (λ l. inr (b.1 (inl l))) ((n xs).0 h))) (λ h. (n (xs ++ ys)).1 (inr (b.1 (inr h)))),
      )

  -- of one item, if a test holds
  pub one_if : (b : Bool) (x : A) → M (cond b (x ∷ []) []) ↔ (T b × O x)
  one_if true x = (λ h. (tt, ⊎_elim (λ o. o) (λ l. absurd (m.none l)) ((m.next x []).0 h)), λ h. (m.next x []).1 (inl h.1))
  one_if false x = (λ h. absurd (m.none h), λ h. absurd h.0)

  -- of lists joined it holds if it does of one of them
  module _ (lists : ℕ → List A) where
    pub joined_some : (i n : ℕ) → M (joined lists i n) → Some (i + n) (λ (k : ℕ). (i ≤ k) × M (lists k))
    unfolding joined
    joined_some i zero h = absurd (m.none h)
    joined_some i (suc n) h =
        ⊎_elim (λ l. record { at = i; inside = omega arith; is = (le_refl i, l) })
        (λ l. let s = joined_some (suc i) n l in
        let b = s.inside in
        let a = s.is.0 in
        record { at = s.at; inside = omega arith; is = (omega arith, s.is.1) })
        ((one_both (lists i) (joined lists (suc i) n)).0 h)

    pub some_joined : (i n k : ℕ) → i ≤ k → k < i + n → M (lists k) → M (joined lists i n)
    unfolding joined
    some_joined i zero k p q h = absurd (omega (arith, p, q))
    some_joined i (suc n) k p q h =
        (one_both (lists i) (joined lists (suc i) n)).1 (⊎_elim (λ e. inl (subst (λ (j : ℕ). M (lists j)) (sym e) h))
        (λ l. inr (some_joined (suc i) n k l (omega (arith, q)) h)) (eq-or-lt_of_le p))

  -- of those picked by a test
  module _ (test : ℕ → Bool) (at : ℕ → A) where
    last : (n : ℕ) → M (picked test at (suc n)) ↔ (M (picked test at n) ⊎ (T (test n) × O (at n)))
    unfolding picked
    last n =
        let b = one_both (picked test at n) (cond (test n) (at n ∷ []) []) in
        let o = one_if (test n) (at n) in
        (λ h. ⊎_elim (λ l. inl l) (λ l. inr (o.0 l)) (b.0 h), λ h. b.1 (⊎_elim (λ l. inl l) (λ l. inr (o.1 l)) h))

    pub picked_some : (n : ℕ) → M (picked test at n) → Some n (λ (k : ℕ). T (test k) × O (at k))
    unfolding picked
    picked_some zero h = absurd (m.none h)
    picked_some (suc n) h =
        ⊎_elim (λ l. let s = picked_some n l in record { at = s.at; inside = omega arith; is = s.is })
        (λ l. record { at = n; inside = omega arith; is = l }) ((last n).0 h)

    pub some_picked : (n k : ℕ) → k < n → T (test k) → O (at k) → M (picked test at n)
    some_picked zero k h t o = absurd (not-suc-le-zero h)
    some_picked (suc n) k h t o =
        (last n).1 (⊎_elim (λ e. inr (subst (λ (j : ℕ). T (test j) × O (at j)) e (t, o))) (λ l. inl (some_picked n k l t o))
        (eq-or-lt_of_le (le_of_suc-le-suc h)))

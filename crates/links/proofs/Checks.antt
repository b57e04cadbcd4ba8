-- The block list's check is exact: sound exactly if no line is broken; refused by 2 or 3 exactly if that line is the first broken, at its first bad block
use mathlib.Core.Path.{◌≡◌, refl, sym, ap, ◌∙◌, subst}
use mathlib.Core.Logic.{◌⊎◌, inl, inr}
use mathlib.Core.List.{List}
use Prim.Native.Nat.{ℕ, ◌≤◌, ◌<◌, zero-le}
use native.Mathlib.Nat.{lt_of_lt_of_le}
use native.Mathlib.Omega.{arith}
use mathlib.Core.Bool.{Bool, true, false, ◌||◌, cond, true≢false}
use lib.Dec.{ltb, eqb}
use lib.ListN.{length}
use borrow.Author.Tests.{lt-ltb, ltb-true, ltb-false, eqb-true, eqb-false}
use Rattle.columns.specs.First.{first_below, FirstIn}
use Rattle.links.specs.Blocks.{BlockRow, bad_block, item_limit, refusal, check_of, SoundBlocks, Checked, no_refusal}
use Rattle.links.specs.declared.blocks.Refusal.{Refusal}
use Rattle.columns.proofs.Firsts.{split, first_in}
use Rattle.std.specs.Prelude.{Err}

-- line 2: no block, or more than 4,096
abbrev pub Broken2 : List BlockRow → Type 0
Broken2 blocks = (length blocks ≡ 0) ⊎ (item_limit < length blocks)

-- line 3 is broken at block p and at none before it
pub record Broken3 (blocks : List BlockRow) (p : ℕ) : Type 0 where
  pub inside : p < length blocks
  pub bad : bad_block blocks p ≡ true
  pub first : (k : ℕ) → k < p → bad_block blocks k ≡ false

-- a block list breaks line 2, or only line 3, or neither
pub data Verdict (blocks : List BlockRow) : Checked → Type 0 where
  two : Broken2 blocks → Verdict blocks (refusal 2 0)
  three : (p : ℕ) → (Broken2 blocks → ⊥) → Broken3 blocks p → Verdict blocks (refusal 3 p)
  neither : SoundBlocks blocks → Verdict blocks no_refusal

module _ (blocks : List BlockRow) where
  bad : ℕ
  bad = first_below (bad_block blocks) (length blocks)

  counted : (t : Bool) → (eqb (length blocks) 0 || ltb item_limit (length blocks)) ≡ t
      → Verdict blocks (cond t (refusal 2 0) (cond (ltb bad (length blocks)) (refusal 3 bad) no_refusal))
  unfolding bad
  counted true e = two (which (eqb (length blocks) 0) refl e)
    where
      which : (s : Bool) → eqb (length blocks) 0 ≡ s → (s || ltb item_limit (length blocks)) ≡ true → Broken2 blocks
      which true p q = inl (eqb-true (length blocks) 0 p)
      which false p q = inr (ltb-true item_limit (length blocks) q)
  counted false e = walked (ltb bad (length blocks)) refl
    where
      none : (s : Bool) → eqb (length blocks) 0 ≡ s → (s || ltb item_limit (length blocks)) ≡ false → (s ≡ false) × (ltb item_limit (length blocks) ≡ false)
      none true p q = absurd (true≢false q)
      none false p q = (refl, q)

      parts : (eqb (length blocks) 0 ≡ false) × (ltb item_limit (length blocks) ≡ false)
      parts = none (eqb (length blocks) 0) refl e

      unbroken : Broken2 blocks → ⊥
      unbroken w = elim w [ inl z ↦ eqb-false (length blocks) 0 parts.0 z | inr l ↦ true≢false (sym (lt-ltb item_limit (length blocks) l) ∙ parts.1) ]

      some : (n : ℕ) → (n ≡ 0 → ⊥) → 0 < n
      some n h = omega arith

      walked : (s : Bool) → ltb bad (length blocks) ≡ s → Verdict blocks (cond s (refusal 3 bad) no_refusal)
      walked true p =
          let l = ltb-true bad (length blocks) p in
          let f = first_in (bad_block blocks) (length blocks) in
          three bad unbroken (record { inside = l; bad = f.found l; first = λ k h. f.passed k zero-le h })
      walked false p =
          let f = first_in (bad_block blocks) (length blocks) in
          neither (record {
            some = some (length blocks) (eqb-false (length blocks) 0 parts.0);
            few = ltb-false item_limit (length blocks) parts.1;
            each = λ i h. f.passed i zero-le (lt_of_lt_of_le h (ltb-false bad (length blocks) p));
          })

-- the check's answer is the verdict
pub check_verdict : (blocks : List BlockRow) → Verdict blocks (check_of blocks)
unfolding check_of bad
check_verdict blocks = counted blocks (eqb (length blocks) 0 || ltb item_limit (length blocks)) refl

-- a block list has one verdict
not_both_3 : (blocks : List BlockRow) (p q : ℕ) → Broken3 blocks p → Broken3 blocks q → p < q → ⊥
not_both_3 blocks p q a b l = true≢false (sym a.bad ∙ b.first p l)

same_place : (blocks : List BlockRow) (p q : ℕ) → Broken3 blocks p → Broken3 blocks q → p ≡ q
same_place blocks p q a b =
    elim (split p q) [
      | inl l ↦ absurd (not_both_3 blocks p q a b l)
      | inr l ↦ elim (split q p) [ inl m ↦ absurd (not_both_3 blocks q p b a m) | inr m ↦ both p q l m ]
    ]
  where
    both : (a b : ℕ) → b ≤ a → a ≤ b → a ≡ b
    both a b p q = omega arith

sound_not_2 : (blocks : List BlockRow) → SoundBlocks blocks → Broken2 blocks → ⊥
sound_not_2 blocks s w = elim w [ inl z ↦ clash (length blocks) z s.some | inr l ↦ over (length blocks) l s.few ]
  where
    clash : (n : ℕ) → n ≡ 0 → 0 < n → ⊥
    clash n e l = omega arith

    over : (n : ℕ) → item_limit < n → n ≤ item_limit → ⊥
    over n p q = omega arith

sound_not_3 : (blocks : List BlockRow) (p : ℕ) → SoundBlocks blocks → Broken3 blocks p → ⊥
sound_not_3 blocks p s b = true≢false (sym b.bad ∙ s.each p b.inside)

pub verdict_only : (blocks : List BlockRow) (x y : Checked) → Verdict blocks x → Verdict blocks y → x ≡ y
verdict_only blocks x y (two a) (two b) = refl
verdict_only blocks x y (two a) (three q n b) = absurd (n a)
verdict_only blocks x y (two a) (neither b) = absurd (sound_not_2 blocks b a)
verdict_only blocks x y (three p m a) (two b) = absurd (m b)
verdict_only blocks x y (three p m a) (three q n b) = ap (refusal 3) (same_place blocks p q a b)
verdict_only blocks x y (three p m a) (neither b) = absurd (sound_not_3 blocks p b a)
verdict_only blocks x y (neither a) (two b) = absurd (sound_not_2 blocks a b)
verdict_only blocks x y (neither a) (three q n b) = absurd (sound_not_3 blocks q a b)
verdict_only blocks x y (neither a) (neither b) = refl

-- so a broken line is answered, and an answer names the broken line
pub verdict_answered : (blocks : List BlockRow) (x : Checked) → Verdict blocks x → check_of blocks ≡ x
verdict_answered blocks x v = verdict_only blocks (check_of blocks) x (check_verdict blocks) v

pub answer_verdict : (blocks : List BlockRow) (x : Checked) → check_of blocks ≡ x → Verdict blocks x
answer_verdict blocks x e = subst (Verdict blocks) e (check_verdict blocks)

-- accepted exactly if no line is broken
not_sound : (r : Refusal) → Err r ≡ no_refusal → ⊥
not_sound r e = let z : ◌≡◌ {A = ℕ} 0 1 = cc in omega arith

pub check_sound : (blocks : List BlockRow) → check_of blocks ≡ no_refusal → SoundBlocks blocks
check_sound blocks e = only no_refusal (answer_verdict blocks no_refusal e) refl
  where
    only : (x : Checked) → Verdict blocks x → x ≡ no_refusal → SoundBlocks blocks
    only x (two a) e = absurd (not_sound _ e)
    only x (three p n a) e = absurd (not_sound _ e)
    only x (neither s) e = s

pub sound_check : (blocks : List BlockRow) → SoundBlocks blocks → check_of blocks ≡ no_refusal
sound_check blocks s = verdict_answered blocks no_refusal (neither s)

-- ---- what the code finds: n blocks, and the first bad one
module _ (blocks : List BlockRow) (n bad : ℕ) (counted : n ≡ length blocks) (found : bad ≡ first_below (bad_block blocks) n) (some : n ≡ 0 → ⊥)
    (few : n ≤ item_limit) where
  is_first : FirstIn (bad_block blocks) 0 n bad
  is_first = subst (FirstIn (bad_block blocks) 0 n) (sym found) (first_in (bad_block blocks) n)

  unbroken_2 : Broken2 blocks → ⊥
  unbroken_2 w = elim w [ inl z ↦ some (counted ∙ z) | inr l ↦ over (length blocks) l counted ]
    where
      over : (m : ℕ) → item_limit < m → n ≡ m → ⊥
      over m l e = omega arith

  pub check_refuses : bad < n → refusal 3 bad ≡ check_of blocks
  check_refuses l =
      sym (verdict_answered blocks (refusal 3 bad) (three bad unbroken_2 (record {
        inside = subst (λ (m : ℕ). bad < m) counted l;
        bad = is_first.found l;
        first = λ k h. is_first.passed k zero-le h;
      })))

  pub check_accepts : n ≤ bad → no_refusal ≡ check_of blocks
  check_accepts l =
      sym (verdict_answered blocks no_refusal (neither (record {
        some = above (length blocks) counted;
        few = subst (λ (m : ℕ). m ≤ item_limit) counted few;
        each = λ i h. is_first.passed i zero-le (lt_of_lt_of_le h (subst (λ (m : ℕ). m ≤ bad) counted l));
      })))
    where
      above : (m : ℕ) → n ≡ m → 0 < m
      above m e = omega arith

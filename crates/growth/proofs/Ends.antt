-- A proposal's ends cut out the region that it was made of
use mathlib.Core.Path.{◌≡◌, refl, sym, ap, ap₂, ◌∙◌, subst}
use mathlib.Core.Logic.{⊎_elim, ◌↔◌}
use Prim.Native.Nat.{ℕ, zero, suc, ◌+◌, ◌-◌, ◌≤◌, ◌<◌}
use native.Mathlib.Nat.{le_refl, le_trans, le_of_lt, lt_of_lt_of_le, lt_of_le_of_lt, lt_irrefl}
use native.Mathlib.Omega.{arith}
use mathlib.Core.Bool.{Bool, true, false, ◌&&◌, cond}
use mathlib.Core.List.{List, [], ◌∷◌, ◌++◌, append-nil}
use lib.Dec.{T, leb, eqb, leb→le, le→leb, ltb→lt, lt→ltb, nleb→lt, eqb→eq, not_T}
use lib.Ieee.{Float}
use lib.Ieee.Fits.{and_l, and_r}
use Rattle.columns.proofs.Tests.{cond_both, cond_true, cond_false}
use Rattle.columns.proofs.Firsts.{split}
use Rattle.links.specs.declared.lower.Side.TheVariants.{Previous, Next}
use Rattle.growth.specs.Growth.{GapsSeen, Span, heaviest_in, numbers_from, between, gaps_in}
use Rattle.growth.specs.Proposal.{end_of, proposal_with, proposal_of, from_end, before_end, covers, those, gaps_covered}
use Rattle.growth.specs.Demand.{Around, In}
use Rattle.growth.proofs.Tries.{not_is, is_true}
use Rattle.std.specs.Prelude.{Option, Some, None}
use Rattle.numbers.specs.declared.Inst.{Inst}

-- ---- those numbers of a run for which a test holds
those_append : (test : ℕ → Bool) (xs ys : List ℕ) → those test (xs ++ ys) ≡ those test xs ++ those test ys
unfolding those
those_append test [] ys = refl
those_append test (x ∷ xs) ys = go (those_append test xs ys) (test x)
  where
    go : those test (xs ++ ys) ≡ those test xs ++ those test ys → (t : Bool)
        → cond t (x ∷ those test (xs ++ ys)) (those test (xs ++ ys)) ≡ cond t (x ∷ those test xs) (those test xs) ++ those test ys
    go e true = ap (λ (l : List ℕ). x ∷ l) e
    go e false = e

numbers_append : (a n m : ℕ) → numbers_from a (n + m) ≡ numbers_from a n ++ numbers_from (a + n) m
unfolding numbers_from
numbers_append a zero m = ap₂ numbers_from (sym (none a)) (first m)
  where
    none : (a : ℕ) → a + 0 ≡ a
    none a = omega arith

    first : (m : ℕ) → 0 + m ≡ m
    first m = omega arith
numbers_append a (suc n) m =
    ap (numbers_from a) (count n m) ∙ ap (λ (l : List ℕ). a ∷ l)
    (numbers_append (suc a) n m ∙ ap (λ (x : ℕ). numbers_from (suc a) n ++ numbers_from x m) (next a n))
  where
    count : (n m : ℕ) → suc n + m ≡ suc (n + m)
    count n m = omega arith

    next : (a n : ℕ) → suc a + n ≡ a + suc n
    next a n = omega arith

between_append : (a b c : ℕ) → a ≤ b → b ≤ c → between a c ≡ between a b ++ between b c
between_append a b c l m =
    ap (numbers_from a) (count a b c l m) ∙ numbers_append a (b - a) (c - b) ∙ ap (λ (x : ℕ). between a b ++ numbers_from x (c - b)) (last a b l)
  where
    count : (a b c : ℕ) → a ≤ b → b ≤ c → c - a ≡ b - a + (c - b)
    count a b c l m = omega arith

    last : (a b : ℕ) → a ≤ b → a + (b - a) ≡ b
    last a b l = omega arith

those_all : (test : ℕ → Bool) (a n : ℕ) → ((g : ℕ) → a ≤ g → g < a + n → test g ≡ true) → those test (numbers_from a n) ≡ numbers_from a n
unfolding those numbers_from
those_all test a zero h = refl
those_all test a (suc n) h =
    cond_true (a ∷ those test (numbers_from (suc a) n)) (those test (numbers_from (suc a) n)) (h a (le_refl a) (first a n))
    ∙ ap (λ (l : List ℕ). a ∷ l) (those_all test (suc a) n (λ g l m. h g (le_of_lt l) (later a n g m)))
  where
    first : (a n : ℕ) → a < a + suc n
    first a n = omega arith

    later : (a n g : ℕ) → g < suc a + n → g < a + suc n
    later a n g h = omega arith

those_none : (test : ℕ → Bool) (a n : ℕ) → ((g : ℕ) → a ≤ g → g < a + n → test g ≡ false) → those test (numbers_from a n) ≡ []
unfolding those numbers_from
those_none test a zero h = refl
those_none test a (suc n) h =
    cond_false (a ∷ those test (numbers_from (suc a) n)) (those test (numbers_from (suc a) n)) (h a (le_refl a) (first a n))
    ∙ those_none test (suc a) n (λ g l m. h g (le_of_lt l) (later a n g m))
  where
    first : (a n : ℕ) → a < a + suc n
    first a n = omega arith

    later : (a n g : ℕ) → g < suc a + n → g < a + suc n
    later a n g h = omega arith

reached : (a b g : ℕ) → a ≤ b → g < a + (b - a) → g < b
reached a b g l h = omega arith

-- where the test holds exactly from l to before r, those are the numbers from l to before r
those_between : (test : ℕ → Bool) (l r n : ℕ) → l ≤ r → r ≤ n
    → ((g : ℕ) → g < n → l ≤ g → g < r → test g ≡ true) → ((g : ℕ) → g < n → g < l → test g ≡ false) → ((g : ℕ) → g < n → r ≤ g → test g ≡ false)
    → those test (between 0 n) ≡ between l r
those_between test l r n lr rn holds below above =
    ap (those test) (between_append 0 l n zero_le (le_trans lr rn) ∙ ap (λ (xs : List ℕ). between 0 l ++ xs) (between_append l r n lr rn))
    ∙ those_append test (between 0 l) (between l r ++ between r n)
    ∙ ap₂ (λ (xs ys : List ℕ). xs ++ ys) (those_none test 0 (l - 0)
    (λ g _ h. below g (lt_of_lt_of_le (reached 0 l g zero_le h) (le_trans lr rn)) (reached 0 l g zero_le h)))
    (those_append test (between l r) (between r n)
    ∙ ap₂ (λ (xs ys : List ℕ). xs ++ ys) (those_all test l (r - l) (λ g a h. holds g (lt_of_lt_of_le (reached l r g lr h) rn) a (reached l r g lr h)))
    (those_none test r (n - r) (λ g a h. above g (reached r n g rn h) a)))
    ∙ append-nil (between l r)
  where
    zero_le : {a : ℕ} → 0 ≤ a
    zero_le {a} = none a
      where
        none : (a : ℕ) → 0 ≤ a
        none a = omega arith

-- ---- the ends of a region's proposal
module _ (seen : GapsSeen) (rising : (g : ℕ) → g + 1 < seen.count → seen.first g < seen.first (g + 1)) where
  first_rises : (a n : ℕ) → a + n < seen.count → seen.first a ≤ seen.first (a + n)
  first_rises a zero h = subst (λ (x : ℕ). seen.first a ≤ seen.first x) (none a) (le_refl (seen.first a))
    where
      none : (a : ℕ) → a ≡ a + 0
      none a = omega arith
  first_rises a (suc n) h =
      le_trans (first_rises a n (less a n seen.count h)) (subst (λ (x : ℕ). seen.first (a + n) ≤ seen.first x) (next a n)
      (le_of_lt (rising (a + n) (one a n seen.count h))))
    where
      less : (a n c : ℕ) → a + suc n < c → a + n < c
      less a n c h = omega arith

      one : (a n c : ℕ) → a + suc n < c → a + n + 1 < c
      one a n c h = omega arith

      next : (a n : ℕ) → a + n + 1 ≡ a + suc n
      next a n = omega arith

  first_le : (a b : ℕ) → a ≤ b → b < seen.count → seen.first a ≤ seen.first b
  first_le a b l h =
      subst (λ (x : ℕ). seen.first a ≤ seen.first x) (joined a b l) (first_rises a (b - a) (subst (λ (x : ℕ). x < seen.count) (sym (joined a b l)) h))
    where
      joined : (a b : ℕ) → a ≤ b → a + (b - a) ≡ b
      joined a b l = omega arith

  -- an instruction of gap g is in the region of a proposal exactly if g is a gap of the region that it was made of
  module _ (s : Span) (around : Around seen s) (heaviest : Float) (g inst : ℕ) (inside : g < seen.count) (from : seen.first g ≤ inst)
      (to : g + 1 < seen.count → inst < seen.first (g + 1)) where
    left_exact : T (from_end (end_of Previous seen.count seen.first s) inst) ↔ (s.left ≤ g)
    unfolding end_of
    left_exact =
        cond_both (λ (e : Option Inst). T (from_end e inst) ↔ (s.left ≤ g)) (eqb s.left 0) None (Some (record { 0 = seen.first s.left }))
        (λ z. ((λ _. none s.left g (eqb→eq s.left 0 z)), (λ _. tt)))
        (λ _. (
          (λ t. reach (leb→le (seen.first s.left) inst t)),
          (λ l. le→leb (seen.first s.left) inst (le_trans (first_le s.left g l inside) from)),
        ))
      where
        none : (a g : ℕ) → a ≡ 0 → a ≤ g
        none a g e = omega arith

        next : (a g : ℕ) → g < a → g + 1 ≤ a
        next a g h = omega arith

        reach : seen.first s.left ≤ inst → s.left ≤ g
        reach h =
            ⊎_elim
            (λ (l : g < s.left).
            let c : s.left < seen.count = lt_of_le_of_lt around.left (lt_of_lt_of_le around.own around.right) in
            absurd (lt_irrefl inst (lt_of_lt_of_le (to (lt_of_le_of_lt (next s.left g l) c))
            (le_trans (first_le (g + 1) s.left (next s.left g l) c) h))))
            (λ l. l) (split g s.left)

    right_exact : T (before_end (end_of Next seen.count seen.first s) inst) ↔ (g < s.right)
    unfolding end_of
    right_exact =
        cond_both (λ (e : Option Inst). T (before_end e inst) ↔ (g < s.right)) (leb seen.count s.right) None (Some (record { 0 = seen.first s.right }))
        (λ z. ((λ _. lt_of_lt_of_le inside (leb→le seen.count s.right z)), (λ _. tt)))
        (λ z. (
          (λ t. reach (nleb→lt seen.count s.right z) (ltb→lt inst (seen.first s.right) t)),
          (λ l. lt→ltb inst (seen.first s.right) (before (nleb→lt seen.count s.right z) l)),
        ))
      where
        next : (a g : ℕ) → g < a → g + 1 ≤ a
        next a g h = omega arith

        reach : s.right < seen.count → inst < seen.first s.right → g < s.right
        reach c h =
            ⊎_elim (λ l. l) (λ (l : s.right ≤ g). absurd (lt_irrefl inst (lt_of_lt_of_le h (le_trans (first_le s.right g l inside) from))))
            (split g s.right)

        before : s.right < seen.count → g < s.right → inst < seen.first s.right
        before c l = lt_of_lt_of_le (to (lt_of_le_of_lt (next s.right g l) c)) (first_le (g + 1) s.right (next s.right g l) c)

    pub covers_exactly : T (covers (proposal_with seen.count seen.first seen.freq s heaviest) inst) ↔ In s g
    unfolding proposal_with
    covers_exactly = (
      (λ t. (
        left_exact.0 (and_l (from_end (end_of Previous seen.count seen.first s) inst) (before_end (end_of Next seen.count seen.first s) inst) t),
        right_exact.0 (and_r (from_end (end_of Previous seen.count seen.first s) inst) (before_end (end_of Next seen.count seen.first s) inst) t),
      )),
      (λ i. both (from_end (end_of Previous seen.count seen.first s) inst) (before_end (end_of Next seen.count seen.first s) inst)
          (left_exact.1 i.0) (right_exact.1 i.1)),
    )
      where
        both : (a b : Bool) → T a → T b → T (a && b)
        both true b t u = u
        both false b t u = t

  -- the gaps of a proposal's region are those of the region that it was made of
  module _ (s : Span) (around : Around seen s) where
    at_first : (g : ℕ) → g < seen.count → T (covers (proposal_of seen s) (seen.first g)) ↔ In s g
    at_first g h = covers_exactly s around (heaviest_in seen s) g (seen.first g) h (le_refl (seen.first g)) (rising g)

    pub covered_gaps : gaps_covered seen (proposal_of seen s) ≡ gaps_in s
    covered_gaps =
        those_between (λ (g : ℕ). covers (proposal_of seen s) (seen.first g)) s.left s.right seen.count
        (le_trans around.left (le_of_lt around.own)) around.right
        (λ g h l m. is_true (covers (proposal_of seen s) (seen.first g)) ((at_first g h).1 (l, m)))
        (λ g h l. not_is (covers (proposal_of seen s) (seen.first g))
        (not_T (covers (proposal_of seen s) (seen.first g)) (λ t. lt_irrefl g (lt_of_lt_of_le l ((at_first g h).0 t).0))))
        (λ g h l. not_is (covers (proposal_of seen s) (seen.first g))
        (not_T (covers (proposal_of seen s) (seen.first g)) (λ t. lt_irrefl g (lt_of_lt_of_le ((at_first g h).0 t).1 l))))

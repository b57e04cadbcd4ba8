-- The gaps of a region and of one with one more gap; weight and instructions are those of the own gap and of each gap grown, once
use mathlib.Core.Path.{◌≡◌, refl, sym, ap, ap₂, ◌∙◌, subst}
use Prim.Native.Nat.{ℕ, zero, suc, ◌+◌, ◌-◌, ◌^◌, ◌≤◌, ◌<◌}
use native.Mathlib.Nat.{le_refl, le_trans, add_assoc}
use native.Mathlib.Omega.{arith}
use mathlib.Core.List.{List, [], ◌∷◌, ◌++◌, append_assoc}
use lib.Dec.{T}
use lib.Ieee.{Float, binary32, add}
use Rattle.numbers.specs.Sum.{plus}
use Rattle.links.specs.declared.lower.Side.{Side}
use Rattle.links.specs.declared.lower.Side.TheVariants.{Previous, Next}
use Rattle.growth.specs.Growth.{GapsSeen, Span, State, own_span, numbers_from, between, gap_outside, grown_by, is_open, try, growth}
use Rattle.growth.specs.Demand.{Around, sum_over, added_to, gaps_beside, gaps_grown, SoundGaps}
use Rattle.growth.proofs.Tries.{open_left, open_right, try_cases, around_grows, growth_around}

-- ---- numbers from one to before another
-- one more in front
pub between_before : (a b : ℕ) → 0 < a → a ≤ b → between (a - 1) b ≡ (a - 1) ∷ between a b
unfolding numbers_from
between_before zero b h l = absurd (none h)
  where
    none : 0 < 0 → ⊥
    none h = omega arith
between_before (suc a) b h l =
    ap₂ (λ (x n : ℕ). numbers_from x n) (first a) (count a b l) ∙ ap (λ (x : ℕ). x ∷ numbers_from (suc a) (b - suc a)) (sym (first a))
  where
    first : (a : ℕ) → suc a - 1 ≡ a
    first a = omega arith

    count : (a b : ℕ) → suc a ≤ b → b - (suc a - 1) ≡ suc (b - suc a)
    count a b l = omega arith

-- one more behind
numbers_behind : (a n : ℕ) → numbers_from a (suc n) ≡ numbers_from a n ++ ((a + n) ∷ [])
unfolding numbers_from
numbers_behind a zero = ap (λ (x : ℕ). x ∷ []) (sym (none a))
  where
    none : (a : ℕ) → a + 0 ≡ a
    none a = omega arith
numbers_behind a (suc n) = ap (λ (xs : List ℕ). a ∷ xs) (numbers_behind (suc a) n ∙ ap (λ (x : ℕ). numbers_from (suc a) n ++ (x ∷ [])) (next a n))
  where
    next : (a n : ℕ) → suc a + n ≡ a + suc n
    next a n = omega arith

pub between_behind : (a b : ℕ) → a ≤ b → between a (b + 1) ≡ between a b ++ (b ∷ [])
between_behind a b l =
    ap (numbers_from a) (count a b l) ∙ numbers_behind a (b - a) ∙ ap (λ (x : ℕ). between a b ++ (x ∷ [])) (last a b l)
  where
    count : (a b : ℕ) → a ≤ b → b + 1 - a ≡ suc (b - a)
    count a b l = omega arith

    last : (a b : ℕ) → a ≤ b → a + (b - a) ≡ b
    last a b l = omega arith

pub between_none : (a : ℕ) → between a a ≡ []
unfolding numbers_from
between_none a = ap (numbers_from a) (none a)
  where
    none : (a : ℕ) → a - a ≡ 0
    none a = omega arith

pub between_one : (a : ℕ) → between a (a + 1) ≡ a ∷ []
between_one a = between_behind a a (le_refl a) ∙ ap (λ (xs : List ℕ). xs ++ (a ∷ [])) (between_none a)

-- ---- sums
pub sum_append : (f : ℕ → ℕ) (xs ys : List ℕ) → sum_over f (xs ++ ys) ≡ sum_over f xs + sum_over f ys
unfolding sum_over
sum_append f [] ys = none (sum_over f ys)
  where
    none : (a : ℕ) → a ≡ 0 + a
    none a = omega arith
sum_append f (x ∷ xs) ys = ap (λ (n : ℕ). f x + n) (sum_append f xs ys) ∙ sym (add_assoc (f x) (sum_over f xs) (sum_over f ys))

pub sum_one : (f : ℕ → ℕ) (x : ℕ) → sum_over f (x ∷ []) ≡ f x
unfolding sum_over
sum_one f x = none (f x)
  where
    none : (a : ℕ) → a + 0 ≡ a
    none a = omega arith

sum_numbers : (f : ℕ → ℕ) (a n m : ℕ) → sum_over f (numbers_from a (n + m)) ≡ sum_over f (numbers_from a n) + sum_over f (numbers_from (a + n) m)
unfolding sum_over numbers_from
sum_numbers f a zero m = ap₂ (λ (x y : ℕ). sum_over f (numbers_from x y)) (sym (plus a)) (less m) ∙ none (sum_over f (numbers_from (a + 0) m))
  where
    plus : (a : ℕ) → a + 0 ≡ a
    plus a = omega arith

    less : (a : ℕ) → 0 + a ≡ a
    less a = omega arith

    none : (a : ℕ) → a ≡ 0 + a
    none a = omega arith
sum_numbers f a (suc n) m =
    ap (λ (x : ℕ). sum_over f (numbers_from a x)) (count n m)
    ∙ ap (λ (x : ℕ). f a + x) (sum_numbers f (suc a) n m ∙ ap (λ (x : ℕ). sum_over f (numbers_from (suc a) n) + sum_over f (numbers_from x m)) (next a n))
    ∙ sym (add_assoc (f a) (sum_over f (numbers_from (suc a) n)) (sum_over f (numbers_from (a + suc n) m)))
  where
    count : (n m : ℕ) → suc n + m ≡ suc (n + m)
    count n m = omega arith

    next : (a n : ℕ) → suc a + n ≡ a + suc n
    next a n = omega arith

pub sum_between : (f : ℕ → ℕ) (a b c : ℕ) → a ≤ b → b ≤ c → sum_over f (between a c) ≡ sum_over f (between a b) + sum_over f (between b c)
sum_between f a b c l m =
    ap (λ (x : ℕ). sum_over f (numbers_from a x)) (count a b c l m)
    ∙ sum_numbers f a (b - a) (c - b) ∙ ap (λ (x : ℕ). sum_over f (between a b) + sum_over f (numbers_from x (c - b))) (last a b l)
  where
    count : (a b c : ℕ) → a ≤ b → b ≤ c → c - a ≡ b - a + (c - b)
    count a b c l m = omega arith

    last : (a b : ℕ) → a ≤ b → a + (b - a) ≡ b
    last a b l = omega arith

-- ---- weights added
added_append : (w : Float) (weight : ℕ → Float) (xs ys : List ℕ) → added_to w weight (xs ++ ys) ≡ added_to (added_to w weight xs) weight ys
unfolding plus
added_append w weight [] ys = refl
added_append w weight (x ∷ xs) ys = added_append (add binary32 w (weight x)) weight xs ys

module _ (seen : GapsSeen) where
  -- the gap just outside on an open side is a gap of the table
  pub outside_inside : (st : State) (side : Side) → T (is_open side seen st) → Around seen st.region → gap_outside side st.region < seen.count
  outside_inside st Previous o a = below st.region.left seen.own seen.count (open_left seen st o) a.left (le_trans a.own a.right)
    where
      below : (l o c : ℕ) → 0 < l → l ≤ o → o < c → l - 1 < c
      below l o c h k m = omega arith
  outside_inside st Next o a = open_right seen st o

  -- ---- what a try adds to the region
  -- region t is region s with these gaps: weights added one after the other, instructions, and the gaps beside the own one
  record Adds (s t : Span) (gs : List ℕ) : Type 0 where
    pub weight : t.weight ≡ added_to s.weight seen.weight gs
    pub insts : t.insts ≡ s.insts + sum_over seen.live gs
    pub beside : (f : ℕ → ℕ) → sum_over f (gaps_beside (own_span seen) t) ≡ sum_over f (gaps_beside (own_span seen) s) + sum_over f gs

  adds_none : (s : Span) → Adds s s []
  unfolding plus sum_over
  adds_none s = record { weight = refl; insts = none s.insts; beside = λ f. none (sum_over f (gaps_beside (own_span seen) s)) }
    where
      none : (a : ℕ) → a ≡ a + 0
      none a = omega arith

  adds_one : (st : State) (side : Side) → T (is_open side seen st) → Around seen st.region
      → Adds st.region (grown_by side seen st.region) (gap_outside side st.region ∷ [])
  unfolding plus
  adds_one st Previous o a =
      let s = st.region in
      let g = s.left - 1 in
      let rest = between (seen.own + 1) s.right in
      record {
        weight = refl;
        insts = ap (λ (x : ℕ). s.insts + x) (sym (sum_one seen.live g));
        beside = λ f. sum_append f (between g seen.own) rest
            ∙ ap (λ (xs : List ℕ). sum_over f xs + sum_over f rest) (between_before s.left seen.own (open_left seen st o) a.left)
            ∙ turn f g (sum_over f rest) (between s.left seen.own)
            ∙ ap₂ (λ (x y : ℕ). x + y) (sym (sum_append f (between s.left seen.own) rest)) (sym (sum_one f g));
      }
    where
      swap : (x y z : ℕ) → x + y + z ≡ y + z + x
      swap x y z = omega arith

      turn : (f : ℕ → ℕ) (g z : ℕ) (xs : List ℕ) → sum_over f (g ∷ xs) + z ≡ sum_over f xs + z + f g
      turn f g z xs = ap (λ (x : ℕ). x + z) (sum_append f (g ∷ []) xs ∙ ap (λ (x : ℕ). x + sum_over f xs) (sum_one f g)) ∙ swap (f g) (sum_over f xs) z
  adds_one st Next o a =
      let s = st.region in
      let before = between s.left seen.own in
      let rest = between (seen.own + 1) s.right in
      record {
        weight = refl;
        insts = ap (λ (x : ℕ). s.insts + x) (sym (sum_one seen.live s.right));
        beside = λ f. ap (λ (xs : List ℕ). sum_over f (before ++ xs)) (between_behind (seen.own + 1) s.right (up seen.own s.right a.own))
            ∙ ap (sum_over f) (sym (append_assoc before rest (s.right ∷ []))) ∙ sum_append f (before ++ rest) (s.right ∷ []);
      }
    where
      up : (a b : ℕ) → a < b → a + 1 ≤ b
      up a b l = omega arith

  -- those are the gaps beside the smaller region
  beside_one : (st : State) (side : Side) → T (is_open side seen st) → gaps_beside st.region (grown_by side seen st.region)
      ≡ gap_outside side st.region ∷ []
  beside_one st Previous o =
      let s = st.region in
      ap₂ (λ (xs ys : List ℕ). xs ++ ys)
      (between_before s.left s.left (open_left seen st o) (le_refl s.left) ∙ ap (λ (xs : List ℕ). (s.left - 1) ∷ xs) (between_none s.left))
      (between_none s.right)
  beside_one st Next o = let s = st.region in ap₂ (λ (xs ys : List ℕ). xs ++ ys) (between_none s.left) (between_one s.right)

  beside_none : (s : Span) → gaps_beside s s ≡ []
  beside_none s = ap₂ (λ (xs ys : List ℕ). xs ++ ys) (between_none s.left) (between_none s.right)

  try_adds : (st : State) → Around seen st.region → Adds st.region (try seen st).region (gaps_beside st.region (try seen st).region)
  try_adds st a =
      try_cases seen (λ (t : State). Adds st.region t.region (gaps_beside st.region t.region)) st
      (λ side o _. subst (Adds st.region (grown_by side seen st.region)) (sym (beside_one st side o)) (adds_one st side o a))
      (λ side o _. same) (λ _. same)
    where
      same : Adds st.region st.region (gaps_beside st.region st.region)
      same = subst (Adds st.region st.region) (sym (beside_none st.region)) (adds_none st.region)

  module _ (h : seen.own < seen.count) where
    step : (n : ℕ) → Adds (growth seen n).region (try seen (growth seen n)).region (gaps_beside (growth seen n).region (try seen (growth seen n)).region)
    step n = try_adds (growth seen n) (growth_around seen h n)

    -- the weight is the own gap's, and then those of the gaps grown, added in the order grown
    pub weight_in_order : (n : ℕ) → (growth seen n).region.weight ≡ added_to (seen.weight seen.own) seen.weight (gaps_grown seen n)
    unfolding growth gaps_grown plus
    weight_in_order zero = refl
    weight_in_order (suc n) =
        let gs = gaps_beside (growth seen n).region (try seen (growth seen n)).region in
        (step n).weight ∙ ap (λ (w : Float). added_to w seen.weight gs) (weight_in_order n)
        ∙ sym (added_append (seen.weight seen.own) seen.weight (gaps_grown seen n) gs)

    -- the instructions are 1 and the live instructions of the gaps grown
    insts_grown : (n : ℕ) → (growth seen n).region.insts ≡ 1 + sum_over seen.live (gaps_grown seen n)
    unfolding growth gaps_grown sum_over
    insts_grown zero = refl
    insts_grown (suc n) =
        let gs = gaps_beside (growth seen n).region (try seen (growth seen n)).region in
        (step n).insts ∙ ap (λ (x : ℕ). x + sum_over seen.live gs) (insts_grown n)
        ∙ add_assoc 1 (sum_over seen.live (gaps_grown seen n)) (sum_over seen.live gs)
        ∙ ap (λ (x : ℕ). 1 + x) (sym (sum_append seen.live (gaps_grown seen n) gs))

    -- the gaps grown are those of the region beside the own one, each once: every sum over the ones is that over the others
    pub grown_each_once : (n : ℕ) (f : ℕ → ℕ) → sum_over f (gaps_grown seen n) ≡ sum_over f (gaps_beside (own_span seen) (growth seen n).region)
    unfolding growth gaps_grown
    grown_each_once zero f = ap (sum_over f) (sym (beside_none (own_span seen)))
    grown_each_once (suc n) f =
        let gs = gaps_beside (growth seen n).region (try seen (growth seen n)).region in
        sum_append f (gaps_grown seen n) gs ∙ ap (λ (x : ℕ). x + sum_over f gs) (grown_each_once n f) ∙ sym ((step n).beside f)

    -- the instructions are 1 and the live instructions of the region's other gaps
    pub insts_of_gaps : (n : ℕ) → (growth seen n).region.insts ≡ 1 + sum_over seen.live (gaps_beside (own_span seen) (growth seen n).region)
    insts_of_gaps n = insts_grown n ∙ ap (λ (x : ℕ). 1 + x) (grown_each_once n seen.live)

  -- a region's other gaps have no more live instructions than all gaps
  beside_at_most : (f : ℕ → ℕ) (s : Span) → Around seen s → sum_over f (gaps_beside (own_span seen) s) ≤ sum_over f (between 0 seen.count)
  beside_at_most f s a =
      let o = seen.own in
      fewer (sum_over f (between 0 seen.count)) (sum_over f (between 0 s.left)) (sum_over f (between s.left seen.count))
      (sum_over f (between s.left o)) (sum_over f (between o seen.count))
      (sum_over f (between o (o + 1))) (sum_over f (between (o + 1) seen.count)) (sum_over f (between (o + 1) s.right))
      (sum_over f (between s.right seen.count)) (sum_over f (gaps_beside (own_span seen) s))
      (sum_between f 0 s.left seen.count (zero s.left) (l1 s.left o s.right seen.count a.left a.own a.right))
      (sum_between f s.left o seen.count a.left (l2 o s.right seen.count a.own a.right))
      (sum_between f o (o + 1) seen.count (l3 o) (l4 o s.right seen.count a.own a.right))
      (sum_between f (o + 1) s.right seen.count (l5 o s.right a.own) a.right)
      (sum_append f (between s.left o) (between (o + 1) s.right))
    where
      zero : (a : ℕ) → 0 ≤ a
      zero a = omega arith

      l1 : (l o r c : ℕ) → l ≤ o → o < r → r ≤ c → l ≤ c
      l1 l o r c x y z = omega arith

      l2 : (o r c : ℕ) → o < r → r ≤ c → o ≤ c
      l2 o r c y z = omega arith

      l3 : (o : ℕ) → o ≤ o + 1
      l3 o = omega arith

      l4 : (o r c : ℕ) → o < r → r ≤ c → o + 1 ≤ c
      l4 o r c y z = omega arith

      l5 : (o r : ℕ) → o < r → o + 1 ≤ r
      l5 o r y = omega arith

      fewer : (t a b c d e f g h s : ℕ) → t ≡ a + b → b ≡ c + d → d ≡ e + f → f ≡ g + h → s ≡ c + g → s ≤ t
      fewer t a b c d e f g h s p q r u v = omega arith

  -- so instructions and k are between 1 and 2 to the power 24
  module _ (sound : SoundGaps seen) (n : ℕ) where
    counted : (growth seen n).region.insts ≡ 1 + sum_over seen.live (gaps_beside (own_span seen) (growth seen n).region)
    counted = insts_of_gaps sound.inside n

    pub insts_some : 0 < (growth seen n).region.insts + seen.k
    insts_some = some (growth seen n).region.insts (sum_over seen.live (gaps_beside (own_span seen) (growth seen n).region)) seen.k counted
      where
        some : (i b k : ℕ) → i ≡ 1 + b → 0 < i + k
        some i b k e = omega arith

    pub insts_few : (growth seen n).region.insts + seen.k ≤ 2 ^ 24
    insts_few =
        few (growth seen n).region.insts (sum_over seen.live (gaps_beside (own_span seen) (growth seen n).region))
        (sum_over seen.live (between 0 seen.count)) seen.k (2 ^ 24) counted
        (beside_at_most seen.live (growth seen n).region (growth_around seen sound.inside n)) sound.few
      where
        few : (i b t k m : ℕ) → i ≡ 1 + b → b ≤ t → t + k < m → i + k ≤ m
        few i b t k m e l h = omega arith

    -- and so are those of the region with one more gap
    pub tried_insts_few : (side : Side) → T (is_open side seen (growth seen n))
        → (growth seen n).region.insts + seen.live (gap_outside side (growth seen n).region) + seen.k ≤ 2 ^ 24
    tried_insts_few side o =
        let st = growth seen n in
        let a = growth_around seen sound.inside n in
        let g = gap_outside side st.region in
        few st.region.insts (sum_over seen.live (gaps_beside (own_span seen) st.region)) (seen.live g) (sum_over seen.live (g ∷ []))
        (sum_over seen.live (gaps_beside (own_span seen) (grown_by side seen st.region)))
        (sum_over seen.live (between 0 seen.count)) seen.k (2 ^ 24) counted (sum_one seen.live g) ((adds_one st side o a).beside seen.live)
        (beside_at_most seen.live (grown_by side seen st.region) (around_grows seen st side o a)) sound.few
      where
        few : (i b l q c t k m : ℕ) → i ≡ 1 + b → q ≡ l → c ≡ b + q → c ≤ t → t + k < m → i + l + k ≤ m
        few i b l q c t k m e f g h j = omega arith

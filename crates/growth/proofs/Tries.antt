-- The tries of growth: what each keeps, that growth stays in the table around its own gap, and how many tries suffice
use mathlib.Core.Path.{◌≡◌, refl, sym, ap, ◌∙◌, subst}
use mathlib.Core.Logic.{◌⊎◌, inl, inr, ⊎_elim}
use Prim.Native.Nat.{ℕ, zero, suc, ◌+◌, ◌-◌, ◌≤◌, ◌<◌}
use native.Mathlib.Nat.{le_refl}
use native.Mathlib.Omega.{arith}
use mathlib.Core.Bool.{Bool, true, false, not, ◌&&◌, cond}
use lib.Dec.{T, leb, eqb, nleb→lt}
use lib.Ieee.Fits.{and_l, and_r}
use Rattle.columns.proofs.Tests.{cond_both, cond_false}
use Rattle.columns.proofs.Firsts.{split}
use Rattle.links.specs.declared.lower.Side.{Side}
use Rattle.links.specs.declared.lower.Side.TheVariants.{Previous, Next}
use Rattle.links.specs.Links.{on_side}
use Rattle.growth.specs.Growth.{GapsSeen, State, gap_outside, weight_test, used_up, grown_by, passes, passes_on, start, side_open, is_open, prefers_left}
use Rattle.growth.specs.Growth.{side_tried}
use Rattle.growth.specs.Growth.{barred, grows, came, after_came, try_on, try_at, turn, try, growth, end_of_growth}
use Rattle.growth.specs.Demand.{Around, Ended}
use Rattle.growth.specs.declared.step.Came.TheVariants.{Grown, Fixed, Weight}
use Rattle.std.specs.Prelude.{Option, Some, None}

-- a test that does not hold is false
pub not_is : (t : Bool) → T (not t) → t ≡ false
not_is true n = absurd n
not_is false n = refl

pub is_true : (t : Bool) → T t → t ≡ true
is_true true p = refl
is_true false p = absurd p

module _ (seen : GapsSeen) where
  -- ---- what an open side has
  pub open_free : (side : Side) (st : State) → T (is_open side seen st) → T (not (on_side side st.left_barred st.right_barred))
  unfolding side_open
  open_free side st o = and_l (not (on_side side st.left_barred st.right_barred)) (not (used_up side seen.count st.region)) o

  pub open_left : (st : State) → T (is_open Previous seen st) → 0 < st.region.left
  unfolding side_open
  open_left st o = above st.region.left (and_r (not st.left_barred) (not (eqb st.region.left 0)) o)
    where
      above : (n : ℕ) → T (not (eqb n 0)) → 0 < n
      above zero t = absurd t
      above (suc n) t = omega arith

  pub open_right : (st : State) → T (is_open Next seen st) → st.region.right < seen.count
  unfolding side_open
  open_right st o = nleb→lt seen.count st.region.right (and_r (not st.right_barred) (not (leb seen.count st.region.right)) o)

  -- ---- the side that is tried is open, and none only if none is
  pub turn_cases : (P : Option Side → Type 0) (st : State) → ((side : Side) → T (is_open side seen st) → P (Some side)) → (Ended seen st → P None)
      → P (side_tried seen.count seen.freq seen.live st)
  unfolding side_tried
  turn_cases P st t e =
      let prefers = prefers_left seen.freq seen.live st.region in
      cond_both P (is_open Previous seen st) (cond (is_open Next seen st) (cond prefers (Some Previous) (Some Next)) (Some Previous))
      (cond (is_open Next seen st) (Some Next) None)
      (λ p. cond_both P (is_open Next seen st) (cond prefers (Some Previous) (Some Next)) (Some Previous)
      (λ q. cond_both P prefers (Some Previous) (Some Next) (λ _. t Previous p) (λ _. t Next q)) (λ _. t Previous p))
      (λ p. cond_both P (is_open Next seen st) (Some Next) None (t Next) (λ q. e (record { left = p; right = q })))

  -- what comes of a try: it grows if the gap passes, and else bars the side
  pub try_on_lem : (side : Side) (st : State) → try_on side seen st ≡ cond (passes_on side seen st.region) (grows side seen st) (barred side st)
  unfolding try_on came passes
  try_on_lem side st = by (seen.fixed (gap_outside side st.region)) (weight_test seen (grown_by side seen st.region))
    where
      by : (f t : Bool) → after_came (cond f Fixed (cond t Grown Weight)) side seen st ≡ cond (not f && t) (grows side seen st) (barred side st)
      by true t = refl
      by false true = refl
      by false false = refl

  -- a try grows by a gap on an open side that passes, or bars an open side whose turn it is and on which none passes, or there is none and
  -- nothing changes
  pub try_told : (P : State → Type 0) (st : State)
      → ((side : Side) → T (is_open side seen st) → T (passes_on side seen st.region) → P (grows side seen st))
      → ((side : Side) → T (is_open side seen st) → turn seen st ≡ Some side → T (not (passes_on side seen st.region)) → P (barred side st))
      → (Ended seen st → P st)
      → P (try seen st)
  unfolding try
  try_told P st g b e =
      turn_cases (λ (t : Option Side). turn seen st ≡ t → P (try_at t seen st)) st
      (λ side o w. subst P (sym (try_on_lem side st))
      (cond_both P (passes_on side seen st.region) (grows side seen st) (barred side st) (g side o) (b side o w))) (λ x _. e x) refl

  pub try_cases : (P : State → Type 0) (st : State)
      → ((side : Side) → T (is_open side seen st) → T (passes_on side seen st.region) → P (grows side seen st))
      → ((side : Side) → T (is_open side seen st) → T (not (passes_on side seen st.region)) → P (barred side st))
      → (Ended seen st → P st)
      → P (try seen st)
  try_cases P st g b e = try_told P st g (λ side o _ f. b side o f) e

  -- what holds at the start and is kept by each growing and each barring holds of growth
  pub growth_keeps : (P : State → Type 0) → P (start seen)
      → ((st : State) (side : Side) → T (is_open side seen st) → T (passes_on side seen st.region) → P st → P (grows side seen st))
      → ((st : State) (side : Side) → T (is_open side seen st) → P st → P (barred side st))
      → (n : ℕ) → P (growth seen n)
  unfolding growth
  growth_keeps P p g b zero = p
  growth_keeps P p g b (suc n) =
      let h = growth_keeps P p g b n in
      try_cases P (growth seen n) (λ side o t. g (growth seen n) side o t h) (λ side o _. b (growth seen n) side o h) (λ _. h)

  -- ---- growth never leaves the table, and never its own gap
  pub around_grows : (st : State) (side : Side) → T (is_open side seen st) → Around seen st.region → Around seen (grown_by side seen st.region)
  around_grows st Previous o h = record { left = lower st.region.left seen.own h.left; own = h.own; right = h.right }
    where
      lower : (a b : ℕ) → a ≤ b → a - 1 ≤ b
      lower a b l = omega arith
  around_grows st Next o h =
      record { left = h.left; own = higher seen.own st.region.right h.own; right = up st.region.right seen.count (open_right st o) }
    where
      higher : (a b : ℕ) → a < b → a < b + 1
      higher a b l = omega arith

      up : (a b : ℕ) → a < b → a + 1 ≤ b
      up a b l = omega arith

  pub growth_around : seen.own < seen.count → (n : ℕ) → Around seen (growth seen n).region
  growth_around h =
      growth_keeps (λ (st : State). Around seen st.region)
      (record { left = le_refl seen.own; own = one seen.own; right = up seen.own seen.count h })
      (λ st side o _ a. around_grows st side o a) (λ st side o a. a)
    where
      one : (a : ℕ) → a < a + 1
      one a = omega arith

      up : (a b : ℕ) → a < b → a + 1 ≤ b
      up a b l = omega arith

  -- ---- an ended growth stays as it is
  pub ended_stays : (st : State) → Ended seen st → try seen st ≡ st
  unfolding try side_tried
  ended_stays st e =
      ap (λ (t : Option Side). try_at t seen st) (cond_false _ _ (not_is (is_open Previous seen st) e.left)
      ∙ cond_false _ _ (not_is (is_open Next seen st) e.right))

  -- ---- what is left to try: the gaps outside and the sides not barred
  abbrev pub unbarred : Bool → ℕ
  unbarred t = cond t 0 1

  abbrev pub left_to_try : State → ℕ
  left_to_try st = st.region.left + (seen.count - st.region.right) + (unbarred st.left_barred + unbarred st.right_barred)

  free_one : (t : Bool) → T (not t) → unbarred t ≡ 1
  free_one true f = absurd f
  free_one false f = refl

  pub fewer_grown : (st : State) (side : Side) → T (is_open side seen st) → left_to_try (grows side seen st) < left_to_try st
  fewer_grown st Previous o =
      less st.region.left (seen.count - st.region.right) (unbarred st.left_barred + unbarred st.right_barred) (open_left st o)
    where
      less : (l c u : ℕ) → 0 < l → l - 1 + c + u < l + c + u
      less l c u h = omega arith
  fewer_grown st Next o = less st.region.left seen.count st.region.right (unbarred st.left_barred + unbarred st.right_barred) (open_right st o)
    where
      less : (l c r u : ℕ) → r < c → l + (c - (r + 1)) + u < l + (c - r) + u
      less l c r u h = omega arith

  pub fewer_barred : (st : State) (side : Side) → T (is_open side seen st) → left_to_try (barred side st) < left_to_try st
  fewer_barred st Previous o =
      less (st.region.left + (seen.count - st.region.right)) (unbarred st.left_barred) (unbarred st.right_barred)
      (free_one st.left_barred (open_free Previous st o))
    where
      less : (c a b : ℕ) → a ≡ 1 → c + (0 + b) < c + (a + b)
      less c a b h = omega arith
  fewer_barred st Next o =
      less (st.region.left + (seen.count - st.region.right)) (unbarred st.left_barred) (unbarred st.right_barred)
      (free_one st.right_barred (open_free Next st o))
    where
      less : (c a b : ℕ) → b ≡ 1 → c + (a + 0) < c + (a + b)
      less c a b h = omega arith

  -- with nothing left to try both sides are barred
  nothing_left : (st : State) → left_to_try st ≡ 0 → Ended seen st
  unfolding side_open
  nothing_left st e =
      let c = st.region.left + (seen.count - st.region.right) in
      record {
        left = shut st.left_barred (not (used_up Previous seen.count st.region)) (first c (unbarred st.left_barred) (unbarred st.right_barred) e);
        right = shut st.right_barred (not (used_up Next seen.count st.region)) (second c (unbarred st.left_barred) (unbarred st.right_barred) e);
      }
    where
      first : (c a b : ℕ) → c + (a + b) ≡ 0 → a ≡ 0
      first c a b e = omega arith

      second : (c a b : ℕ) → c + (a + b) ≡ 0 → b ≡ 0
      second c a b e = omega arith

      one_not : ◌≡◌ {A = ℕ} 1 0 → ⊥
      one_not e = omega arith

      shut : (t u : Bool) → unbarred t ≡ 0 → T (not (not t && u))
      shut true u e = tt
      shut false u e = absurd (one_not e)

  -- each try leaves fewer, or growth has ended
  fewer_left : (st : State) → (left_to_try (try seen st) < left_to_try st) ⊎ Ended seen st
  fewer_left st =
      try_cases (λ (s : State). (left_to_try s < left_to_try st) ⊎ Ended seen st) st (λ side o _. inl (fewer_grown st side o))
      (λ side o _. inl (fewer_barred st side o)) inr

  tries_left : (n : ℕ) → (left_to_try (growth seen n) + n ≤ left_to_try (start seen)) ⊎ Ended seen (growth seen n)
  unfolding growth
  tries_left zero = inl (same (left_to_try (start seen)))
    where
      same : (a : ℕ) → a + 0 ≤ a
      same a = omega arith
  tries_left (suc n) =
      ⊎_elim
      (λ h. ⊎_elim
      (λ f. inl (next (left_to_try (try seen (growth seen n))) (left_to_try (growth seen n)) n (left_to_try (start seen)) f h))
      (λ e. inr (subst (Ended seen) (sym (ended_stays (growth seen n) e)) e))
      (fewer_left (growth seen n)))
      (λ e. inr (subst (Ended seen) (sym (ended_stays (growth seen n) e)) e))
      (tries_left n)
    where
      next : (a b n s : ℕ) → a < b → b + n ≤ s → a + suc n ≤ s
      next a b n s h k = omega arith

  -- after as many tries as there are gaps, and one more, no side is open
  pub growth_ends : seen.own < seen.count → (n : ℕ) → seen.count + 1 ≤ n → Ended seen (growth seen n)
  growth_ends h n k =
      ⊎_elim (λ l. nothing_left (growth seen n) (none (left_to_try (growth seen n)) n seen.own seen.count h k l)) (λ e. e) (tries_left n)
    where
      none : (a n o c : ℕ) → o < c → c + 1 ≤ n → a + n ≤ o + (c - (o + 1)) + (1 + 1) → a ≡ 0
      none a n o c h k l = omega arith

  -- and further tries change nothing
  pub growth_same : seen.own < seen.count → (n : ℕ) → growth seen (seen.count + 1 + n) ≡ growth seen (seen.count + 1)
  unfolding growth
  growth_same h zero = ap (growth seen) (same (seen.count + 1))
    where
      same : (a : ℕ) → a + 0 ≡ a
      same a = omega arith
  growth_same h (suc n) =
      ap (growth seen) (next (seen.count + 1) n)
      ∙ ended_stays (growth seen (seen.count + 1 + n)) (growth_ends h (seen.count + 1 + n) (more (seen.count + 1) n)) ∙ growth_same h n
    where
      next : (a b : ℕ) → a + suc b ≡ suc (a + b)
      next a b = omega arith

      more : (a b : ℕ) → a ≤ a + b
      more a b = omega arith

  -- ---- growth has one end
  -- growth that has ended stays the same
  pub ended_same : (n m : ℕ) → n ≤ m → Ended seen (growth seen n) → growth seen m ≡ growth seen n
  unfolding growth
  ended_same n m h e = ap (growth seen) (whole n m h) ∙ by (m - n)
    where
      whole : (n m : ℕ) → n ≤ m → m ≡ m - n + n
      whole n m h = omega (arith, h)

      next : (a b : ℕ) → suc a + b ≡ suc (a + b)
      next a b = omega arith

      by : (d : ℕ) → growth seen (d + n) ≡ growth seen n
      by zero = ap (growth seen) (let z : 0 + n ≡ n = omega arith in z)
      by (suc d) = ap (growth seen) (next d n) ∙ ap (try seen) (by d) ∙ ended_stays (growth seen n) e

  -- whatever the number of tries after which no side is open, it is the same state
  pub ends_once : seen.own < seen.count → (n : ℕ) → Ended seen (growth seen n) → growth seen n ≡ end_of_growth seen
  ends_once h n e =
      ⊎_elim (λ l. sym (ended_same n (seen.count + 1) (less n (seen.count + 1) l) e))
      (λ l. ended_same (seen.count + 1) n l (growth_ends h (seen.count + 1) (le_refl (seen.count + 1)))) (split n (seen.count + 1))
    where
      less : (n m : ℕ) → n < m → n ≤ m
      less n m h = omega (arith, h)

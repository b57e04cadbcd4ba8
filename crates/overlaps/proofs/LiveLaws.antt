-- Live instructions: how many there can be, and where none lie
use mathlib.Core.Path.{◌≡◌, refl, sym, ap, ◌∙◌}
use Prim.Native.Nat.{ℕ, zero, suc, ◌+◌, ◌-◌, ◌≤◌, ◌<◌, zero-le}
use native.Mathlib.Nat.{le_refl, le_trans, le_of_eq, not-suc-le-zero}
use native.Mathlib.Numerals.{add-one}
use native.Mathlib.Omega.{arith}
use mathlib.Core.List.{List}
use mathlib.Core.Logic.{◌⊎◌, inl, inr, ⊎_elim}
use lib.ListN.{length, get_or, get_or-eq_default}
use Rattle.numbers.specs.Point.{inst_of, round_up}
use Rattle.links.specs.Blocks.{end_limit}
use Rattle.columns.specs.Table.{row_before}
use Rattle.columns.proofs.Firsts.{split}
use Rattle.jobs.proofs.Walk.{before_next}
use Rattle.columns.specs.Below.{sum_below}
use Rattle.overlaps.specs.Live.{live_from, live_to, live_of, Segments, overlap, Gaps}

-- a sum of one more
pub sum_next : (f : ℕ → ℕ) (n : ℕ) → sum_below f (n + 1) ≡ sum_below f n + f n
unfolding sum_below
sum_next f n = ap (sum_below f) (add-one n)

-- a sum of no more than another's parts is no more than it
pub sum_at_most : (f g : ℕ → ℕ) (n : ℕ) → ((k : ℕ) → k < n → f k ≤ g k) → sum_below f n ≤ sum_below g n
unfolding sum_below
sum_at_most f g zero h = zero-le
sum_at_most f g (suc n) h =
    let a = sum_at_most f g n (λ k l. h k (omega (arith, l))) in
    let b = h n (le_refl (suc n)) in
    omega (arith, a, b)

-- a sum of nothing
pub sum_none : (f : ℕ → ℕ) (n : ℕ) → ((k : ℕ) → k < n → f k ≡ 0) → sum_below f n ≡ 0
unfolding sum_below
sum_none f zero h = refl
sum_none f (suc n) h =
    let a = sum_none f n (λ k l. h k (omega (arith, l))) in
    let b = h n (le_refl (suc n)) in
    omega (arith, a, b)

-- the end of the segment before, rounded up; the next one's is this one's
abbrev pub last_of : List ℕ → ℕ → ℕ
last_of ends i = round_up (row_before ends 0 i)

pub last_next : (ends : List ℕ) (i : ℕ) → live_to ends i ≡ last_of ends (i + 1)
last_next ends i = ap round_up (before_next ends 0 i)

-- a later point does not round to an earlier instruction
round_order : (p q : ℕ) → p ≤ q → round_up p ≤ round_up q
round_order p q h = omega (arith, h)

inst_order : (p q : ℕ) → p < q → inst_of p ≤ round_up q
inst_order p q h = omega (arith, h)

module _ (starts ends : List ℕ) (given : Segments starts ends) where
  -- a segment's live instructions end at or after where they begin
  pub live_order : (i : ℕ) → i < length starts → live_from starts ends i ≤ live_to ends i
  live_order i h =
      let n = given.nonempty i h in
      let a = given.after i h in
      let p = round_order (row_before ends 0 i) (get_or ends i 0) (omega (arith, n, a)) in
      let q = inst_order (get_or starts i 0) (get_or ends i 0) n in
      omega (arith, p, q)

  pub live_inside : (i : ℕ) → i < length starts → live_to ends i ≤ end_limit
  live_inside i h = let a = given.inside i h in omega (arith, a)

  -- all that the first i segments have lies before the end of the last of them
  pub live_before : (i : ℕ) → i ≤ length starts → sum_below (live_of starts ends) i ≤ last_of ends i
  unfolding sum_below
  live_before zero h = zero-le
  live_before (suc i) h =
      let a = live_before i (omega (arith, h)) in
      let b = live_order i h in
      omega (arith, a, b)

-- the instructions from a to before e: none lie in a gap that ends by a, or begins at e or later
pub none_before : (a e f t : ℕ) → t ≤ a → overlap a e f t ≡ 0
none_before a e f t h = omega (arith, h)

pub none_past : (a e f t : ℕ) → e ≤ f → overlap a e f t ≡ 0
none_past a e f t h = omega (arith, h)

pub overlap_few : (a e f t : ℕ) → overlap a e f t ≤ e - a
overlap_few a e f t = omega arith

module _ (froms tos : List ℕ) (given : Gaps froms tos) where
  -- a later gap begins where an earlier one ends, or after
  pub gap_order : (g k : ℕ) → g < k → k < length froms → get_or tos g 0 ≤ get_or froms k 0
  gap_order g zero h l = absurd (not-suc-le-zero h)
  gap_order g (suc k) h l = by (gap_order g k) (split g k)
    where
      next : get_or froms (suc k) 0 ≡ get_or tos k 0
      next = ap (λ (x : ℕ). get_or froms x 0) (sym (add-one k)) ∙ given.follows k (omega (arith, l))

      by : (g < k → k < length froms → get_or tos g 0 ≤ get_or froms k 0) → (g < k) ⊎ (k ≤ g) → get_or tos g 0 ≤ get_or froms (suc k) 0
      by before (inl q) =
          let a = before q (omega (arith, l)) in
          let b = given.nonempty k (omega (arith, l)) in
          let c = next in
          omega (arith, a, b, c)
      by before (inr q) = let same : g ≡ k = omega (arith, h, q) in le_of_eq (ap (λ (x : ℕ). get_or tos x 0) same ∙ sym next)

  -- past the gaps there is nothing
  pub none_there : (a e g : ℕ) → length froms ≤ g → overlap a e (get_or froms g 0) (get_or tos g 0) ≡ 0
  none_there a e g h =
      let z = get_or-eq_default tos 0 (le_trans (le_of_eq given.long) h) in
      none_before a e (get_or froms g 0) (get_or tos g 0) (le_trans (le_of_eq z) zero-le)

  -- nor behind a gap that reaches e
  pub none_later : (a e i : ℕ) → e ≤ get_or tos i 0 → (g : ℕ) → i + 1 ≤ g → overlap a e (get_or froms g 0) (get_or tos g 0) ≡ 0
  none_later a e i h g l =
      ⊎_elim
      (λ q. none_past a e (get_or froms g 0) (get_or tos g 0) (le_trans h (gap_order i g (omega (arith, l)) q)))
      (none_there a e g)
      (split g (length froms))

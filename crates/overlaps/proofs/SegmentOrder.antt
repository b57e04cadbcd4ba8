-- Gap segments are in order: of segments in order and gaps that tile, each ends by the start of every later one
use mathlib.Core.Path.{◌≡◌, sym, ap, ◌∙◌, subst}
use mathlib.Core.Logic.{◌⊎◌, inl, inr, ⊎_elim}
use mathlib.Core.List.{List, [], ◌∷◌, ◌++◌, map}
use Prim.Native.Nat.{ℕ, zero, suc, ◌+◌, ◌*◌, ◌≤◌, ◌<◌, min, max}
use native.Mathlib.Nat.{le_trans, le_of_eq, not-suc-le-zero, le_of_suc-le-suc}
use native.Mathlib.Numerals.{add-one}
use native.Mathlib.Omega.{arith}
use lib.ListN.{length, get_or}
use borrow.Author.Tests.{lt-ltb, le-ltb}
use Rattle.columns.proofs.Tests.{cond_true, cond_false}
use Rattle.columns.proofs.Firsts.{split}
use Rattle.columns.specs.Table.{row_before}
use Rattle.columns.specs.Below.{joined}
use Rattle.overlaps.specs.Live.{Gaps, Segments}
use Rattle.overlaps.specs.GapSegments.{Overlap, overlap_with, overlaps_of, gap_segments}
use Rattle.overlaps.proofs.LiveLaws.{gap_order}

-- points from one to before another that lie in a gap
pub record InGap (froms tos : List ℕ) (from to gap : ℕ) : Type 0 where
  pub some : from < to
  pub known : gap < length froms
  pub low : 4 * get_or froms gap 0 ≤ from
  pub high : to ≤ 4 * get_or tos gap 0

-- rows that begin at or after a point, one after the other, and end by another point
abbrev pub InOrder : List ℕ → List ℕ → ℕ → List Overlap → ℕ → Type 0
InOrder froms tos p [] q = p ≤ q
InOrder froms tos p (r ∷ rows) q = (p ≤ r.from) × InGap froms tos r.from r.to r.gap × InOrder froms tos r.to rows q

-- ---- lists of rows
module _ (froms tos : List ℕ) where
  order_earlier : (o p : ℕ) (rows : List Overlap) (q : ℕ) → o ≤ p → InOrder froms tos p rows q → InOrder froms tos o rows q
  order_earlier o p [] q h w = le_trans h w
  order_earlier o p (r ∷ rows) q h w = (le_trans h w.0, w.1, w.2)

  order_append : (p : ℕ) (xs : List Overlap) (q : ℕ) (ys : List Overlap) (t : ℕ) → InOrder froms tos p xs q → InOrder froms tos q ys t
      → InOrder froms tos p (xs ++ ys) t
  order_append p [] q ys t v w = order_earlier p q ys t v w
  order_append p (r ∷ xs) q ys t v w = (v.0, v.1, order_append r.to xs q ys t v.2 w)

-- ---- the gap segments of one segment, and of all
module _ (froms tos : List ℕ) (gaps : Gaps froms tos) where
  module _ (start end value : ℕ) where
    -- from gap g on, of n gaps
    overlaps_order : (n g p : ℕ) → n + g ≡ length froms → p ≤ end → (g < length froms → p ≤ max start (4 * get_or froms g 0))
        → InOrder froms tos p (joined (overlap_with froms tos start end value) g n) end
    unfolding joined overlap_with
    overlaps_order zero g p e h l = h
    overlaps_order (suc n) g p e h l =
        by (overlaps_order n (suc g)) (split (max start (4 * get_or froms g 0)) (min end (4 * get_or tos g 0)))
      where
        inside : g < length froms
        inside = omega (arith, e)

        next : suc g < length froms → get_or froms (suc g) 0 ≡ get_or tos g 0
        next m = ap (λ (x : ℕ). get_or froms x 0) (sym (add-one g)) ∙ gaps.follows g (omega (arith, m))

        below : (e t : ℕ) → min e t ≤ e
        below e t = omega arith

        under : (e t : ℕ) → min e t ≤ t
        under e t = omega arith

        over : (s f : ℕ) → f ≤ max s f
        over s f = omega arith

        reach : (s e t f : ℕ) → f ≡ t → min e (4 * t) ≤ max s (4 * f)
        reach s e t f q = omega (arith, q)

        higher : (s f t u : ℕ) → p ≤ max s (4 * f) → f < t → u ≡ t → p ≤ max s (4 * u)
        higher s f t u a b c = omega (arith, a, b, c)

        by : ((q : ℕ) → n + suc g ≡ length froms → q ≤ end → (suc g < length froms → q ≤ max start (4 * get_or froms (suc g) 0))
            → InOrder froms tos q (joined (overlap_with froms tos start end value) (suc g) n) end)
            → (max start (4 * get_or froms g 0) < min end (4 * get_or tos g 0)) ⊎ (min end (4 * get_or tos g 0) ≤ max start (4 * get_or froms g 0))
            → InOrder froms tos p (overlap_with froms tos start end value g ++ joined (overlap_with froms tos start end value) (suc g) n) end
        by on (inl m) =
            subst (λ (rows : List Overlap). InOrder froms tos p (rows ++ joined (overlap_with froms tos start end value) (suc g) n) end)
            (sym (cond_true _ _ (lt-ltb (max start (4 * get_or froms g 0)) (min end (4 * get_or tos g 0)) m))) (
              l inside,
              record { some = m; known = inside; low = over start (4 * get_or froms g 0); high = under end (4 * get_or tos g 0) },
              on (min end (4 * get_or tos g 0)) (omega (arith, e)) (below end (4 * get_or tos g 0))
                  (λ k. reach start end (get_or tos g 0) (get_or froms (suc g) 0) (next k)),
            )
        by on (inr m) =
            subst (λ (rows : List Overlap). InOrder froms tos p (rows ++ joined (overlap_with froms tos start end value) (suc g) n) end)
            (sym (cond_false _ _ (le-ltb (max start (4 * get_or froms g 0)) (min end (4 * get_or tos g 0)) m)))
            (on p (omega (arith, e)) h (λ k. higher start (get_or froms g 0) (get_or tos g 0) (get_or froms (suc g) 0) (l inside) (gaps.nonempty g inside) (next k)))

    segment_order : start ≤ end → InOrder froms tos start (overlaps_of froms tos start end value) end
    unfolding overlaps_of
    segment_order h = overlaps_order (length froms) 0 start (omega arith) h (λ l. at_least start (4 * get_or froms 0 0))
      where
        at_least : (s f : ℕ) → s ≤ max s f
        at_least s f = omega arith

  module _ (starts ends values : List ℕ) (segments : Segments starts ends) where
    abbrev rows_of : ℕ → List Overlap
    rows_of i = overlaps_of froms tos (get_or starts i 0) (get_or ends i 0) (get_or values i 0)

    order_from : (n i : ℕ) → n + i ≡ length starts → InOrder froms tos (row_before ends 0 i) (joined rows_of i n) (row_before ends 0 (length starts))
    unfolding joined
    order_from zero i e = let z : i ≡ length starts = omega (arith, e) in le_of_eq (ap (row_before ends 0) z)
    order_from (suc n) i e =
        let inside : i < length starts = omega (arith, e) in
        let some = segments.nonempty i inside in
        order_append froms tos (row_before ends 0 i) (rows_of i) (get_or ends i 0) (joined rows_of (suc i) n) (row_before ends 0 (length starts))
        (order_earlier froms tos (row_before ends 0 i) (get_or starts i 0) (rows_of i) (get_or ends i 0) (segments.after i inside)
        (segment_order (get_or starts i 0) (get_or ends i 0) (get_or values i 0) (omega (arith, some))))
        (order_from n (suc i) (omega (arith, e)))

    pub gap_segments_order : InOrder froms tos 0 (gap_segments froms tos starts ends values) (row_before ends 0 (length starts))
    gap_segments_order = order_from (length starts) 0 (omega arith)

-- ---- rows in columns
abbrev pub from_column : List Overlap → List ℕ
from_column rows = map (λ (s : Overlap). s.from) rows

abbrev pub to_column : List Overlap → List ℕ
to_column rows = map (λ (s : Overlap). s.to) rows

abbrev pub gap_column : List Overlap → List ℕ
gap_column rows = map (λ (s : Overlap). s.gap) rows

module _ (froms tos : List ℕ) where
  -- each row lies in its gap
  pub row_in_gap : (p : ℕ) (rows : List Overlap) (q : ℕ) → InOrder froms tos p rows q → (k : ℕ) → k < length rows
      → InGap froms tos (get_or (from_column rows) k 0) (get_or (to_column rows) k 0) (get_or (gap_column rows) k 0)
  row_in_gap p [] q w k h = absurd (not-suc-le-zero h)
  row_in_gap p (r ∷ rows) q w zero h = w.1
  row_in_gap p (r ∷ rows) q w (suc k) h = row_in_gap r.to rows q w.2 k (le_of_suc-le-suc h)

  pub row_after : (p : ℕ) (rows : List Overlap) (q : ℕ) → InOrder froms tos p rows q → (k : ℕ) → k < length rows → p ≤ get_or (from_column rows) k 0
  row_after p [] q w k h = absurd (not-suc-le-zero h)
  row_after p (r ∷ rows) q w zero h = w.0
  row_after p (r ∷ rows) q w (suc k) h =
      let a = w.0 in
      let b = w.1.some in
      let c = row_after r.to rows q w.2 k (le_of_suc-le-suc h) in
      omega (arith, a, b, c)

  pub rows_apart : (p : ℕ) (rows : List Overlap) (q : ℕ) → InOrder froms tos p rows q → (i k : ℕ) → i < k → k < length rows
      → get_or (to_column rows) i 0 ≤ get_or (from_column rows) k 0
  rows_apart p [] q w i k l h = absurd (not-suc-le-zero h)
  rows_apart p (r ∷ rows) q w i zero l h = absurd (not-suc-le-zero l)
  rows_apart p (r ∷ rows) q w zero (suc k) l h = row_after r.to rows q w.2 k (le_of_suc-le-suc h)
  rows_apart p (r ∷ rows) q w (suc i) (suc k) l h = rows_apart r.to rows q w.2 i k (le_of_suc-le-suc l) (le_of_suc-le-suc h)

  module _ (gaps : Gaps froms tos) where
    -- points that come later lie in no earlier gap
    pub later_gap : (from to gap from' to' gap' : ℕ) → InGap froms tos from to gap → InGap froms tos from' to' gap' → to ≤ from' → gap ≤ gap'
    later_gap from to gap from' to' gap' a b h = ⊎_elim (λ l. absurd (past l)) (λ l. l) (split gap' gap)
      where
        past : gap' < gap → ⊥
        past l =
            let o = gap_order froms tos gaps gap' gap l a.known in
            let p = a.low in
            let q = a.some in
            let r = b.some in
            let s = b.high in
            omega (arith, o, p, q, r, s, h)

-- There are at most as many gap segments as gaps and segments: so many rows are room enough
use mathlib.Core.Path.{◌≡◌, refl, sym, ap, ◌∙◌, subst}
use mathlib.Core.Bool.{Bool, true, false, cond}
use mathlib.Core.Logic.{◌⊎◌, inl, inr}
use Prim.Native.Nat.{ℕ, zero, suc, ◌+◌, ◌-◌, ◌*◌, ◌≤◌, ◌<◌, zero-le, min, max}
use native.Mathlib.Nat.{le_refl, le_trans, le_of_eq, not-suc-le-zero}
use native.Mathlib.Omega.{arith}
use mathlib.Core.List.{List, [], ◌∷◌}
use borrow.Author.Count.{below_more}
use lib.Dec.{ltb}
use lib.ListN.{length, get_or, length-append}
use Rattle.columns.proofs.Firsts.{split}
use Rattle.columns.specs.Table.{row_before}
use Rattle.jobs.proofs.Walk.{before_next}
use Rattle.overlaps.specs.Live.{Gaps, Segments}
use Rattle.overlaps.specs.GapSegments.{Overlap, overlap_with, overlaps_of, gap_segments, EndedBy}
use Rattle.overlaps.proofs.GapRows.{overlaps_from, overlaps_end, behind_later}
use Rattle.columns.proofs.Joining.{joined_next, from_on, from_on_all, from_on_end}

at_most_one : (b : Bool) (r : Overlap) → length (cond b (r ∷ []) []) ≤ 1
at_most_one true r = le_refl 1
at_most_one false r = zero-le

-- a segment's overlaps from gap g on reach to a gap that the next segment's may begin with
pub record Reaches (froms tos : List ℕ) (end g : ℕ) (rows : List Overlap) : Type 0 where
  pub to : ℕ
  pub order : g ≤ to
  pub few : length rows ≤ to - g + 1
  pub behind : EndedBy froms tos end to

module _ (froms tos : List ℕ) (gaps : Gaps froms tos) (start end value : ℕ) where
  abbrev lists : ℕ → List Overlap
  lists = overlap_with froms tos start end value

  one : (g : ℕ) → length (lists g) ≤ 1
  unfolding overlap_with
  one g = at_most_one (ltb (max start (4 * get_or froms g 0)) (min end (4 * get_or tos g 0))) _

  reaches : (n g : ℕ) → n ≡ length froms - g → EndedBy froms tos end g → Reaches froms tos end g (from_on lists (length froms) g)
  reaches zero g e b =
      let h : length froms ≤ g = omega (arith, e) in
      record { to = g; order = le_refl g; few = le_trans (le_of_eq (ap length (from_on_end lists (length froms) g h))) zero-le; behind = b }
  reaches (suc n) g e b = by (reaches n (g + 1) (omega (arith, e))) (split (4 * get_or tos g 0) end)
    where
      inside : g < length froms
      inside = omega (arith, e)

      rows : length (from_on lists (length froms) g) ≡ length (lists g) + length (from_on lists (length froms) (g + 1))
      rows = ap length (joined_next lists g (length froms) inside) ∙ length-append (lists g) (from_on lists (length froms) (g + 1))

      by : (EndedBy froms tos end (g + 1) → Reaches froms tos end (g + 1) (from_on lists (length froms) (g + 1)))
          → (4 * get_or tos g 0 < end) ⊎ (end ≤ 4 * get_or tos g 0) → Reaches froms tos end g (from_on lists (length froms) g)
      by on (inl h) =
          let more = on (record { inside = let i = inside in omega (arith, i); ended = below_more _ _ b.ended (let l = h in omega (arith, l)) }) in
          record {
            to = more.to;
            order = let o = more.order in omega (arith, o);
            few = let o = more.order in let f = more.few in let r = rows in let u = one g in omega (arith, o, f, r, u);
            behind = more.behind;
          }
      by on (inr h) =
          let none = ap length (overlaps_end froms tos gaps start end value g h) in
          record { to = g; order = le_refl g; few = let r = rows in let u = one g in omega (arith, none, r, u); behind = b }

  pub segment_reaches : (g : ℕ) → start ≤ end → EndedBy froms tos start g → Reaches froms tos end g (overlaps_of froms tos start end value)
  segment_reaches g h b =
      subst (Reaches froms tos end g) (sym (overlaps_from froms tos gaps start end value g b))
      (reaches (length froms - g) g refl (behind_later froms tos start end g h b))

module _ (froms tos starts ends values : List ℕ) (gaps : Gaps froms tos) (segments : Segments starts ends) where
  abbrev rows_of : ℕ → List Overlap
  rows_of i = overlaps_of froms tos (get_or starts i 0) (get_or ends i 0) (get_or values i 0)

  few_from : (n i g : ℕ) → n ≡ length starts - i → EndedBy froms tos (row_before ends 0 i) g → length (from_on rows_of (length starts) i) ≤ length froms - g + n
  few_from zero i g e b = let h : length starts ≤ i = omega (arith, e) in le_trans (le_of_eq (ap length (from_on_end rows_of (length starts) i h))) zero-le
  few_from (suc n) i g e b =
      let inside : i < length starts = omega (arith, e) in
      let after = segments.after i inside in
      let ordered = segments.nonempty i inside in
      let r = segment_reaches froms tos gaps (get_or starts i 0) (get_or ends i 0) (get_or values i 0) g (omega (arith, ordered))
      (behind_later froms tos (row_before ends 0 i) (get_or starts i 0) g after b) in
      let next = few_from n (i + 1) r.to (omega (arith, e))
      (behind_later froms tos (get_or ends i 0) (row_before ends 0 (i + 1)) r.to (le_of_eq (before_next ends 0 i)) r.behind) in
      let rows = ap length (joined_next rows_of i (length starts) inside) ∙ length-append (rows_of i) (from_on rows_of (length starts) (i + 1)) in
      let few = r.few in
      let order = r.order in
      let most = r.behind.inside in
      omega (arith, next, rows, few, order, most)

  pub gap_segments_few : length (gap_segments froms tos starts ends values) ≤ length froms + length starts
  gap_segments_few =
      let h = few_from (length starts) 0 0 (omega arith) (record { inside = zero-le; ended = λ k l. absurd (not-suc-le-zero l) }) in
      let e = ap length (from_on_all rows_of (length starts)) in
      omega (arith, h, e)

-- Gap segments: what is left to put into the columns as they are gives what all gives on the columns as they were lent
use mathlib.Core.Path.{◌≡◌, refl, sym, ap, ◌∙◌, subst}
use Prim.Native.Nat.{ℕ, zero, suc, ◌+◌, ◌-◌, ◌*◌, ◌≤◌, ◌<◌, min, max}
use native.Mathlib.Nat.{le_trans}
use native.Mathlib.Omega.{arith}
use mathlib.Core.List.{List, [], ◌∷◌, ◌++◌}
use lib.ListN.{length, get_or, length-set, length-append}
use borrow.Author.Tests.{lt-ltb, le-ltb}
use Rattle.columns.proofs.Tests.{cond_true, cond_false}
use Rattle.columns.specs.Table.{stored_in}
use Rattle.columns.proofs.Fillings.{stored_filled}
use Rattle.columns.proofs.Joining.{joined_none, joined_skip, joined_next, from_on}
use Rattle.overlaps.specs.Live.{Gaps}
use Rattle.overlaps.specs.GapSegments.{Overlap, nonempty, overlap_with, overlaps_of, EndedBy, SegmentColumns, put_one, put, SegmentRoom, Filled}
use Rattle.columns.specs.Below.{joined}
use Rattle.overlaps.proofs.LiveLaws.{gap_order}

-- one overlap: stored, or none
pub put_some : (from to value gap : ℕ) (c : SegmentColumns) → from < to
    → put_one (record { from = from; to = to; value = value; gap = gap }) c ≡ put (nonempty from to value gap) c
unfolding stored_in
put_some from to value gap c h = sym (ap (λ (rows : List Overlap). put rows c) (cond_true _ _ (lt-ltb from to h)))

pub put_none : (from to value gap : ℕ) (c : SegmentColumns) → to ≤ from → c ≡ put (nonempty from to value gap) c
unfolding stored_in
put_none from to value gap c h = sym (ap (λ (rows : List Overlap). put rows c) (cond_false _ _ (le-ltb from to h)))

pub room_one : (from to value gap : ℕ) (c : SegmentColumns) → from < to → SegmentRoom (length (nonempty from to value gap)) c → SegmentRoom 1 c
room_one from to value gap c h room = subst (λ (rows : List Overlap). SegmentRoom (length rows) c) (cond_true _ _ (lt-ltb from to h)) room

-- how many rows are used then
put_used : (rows : List Overlap) (c : SegmentColumns) → (put rows c).used ≡ c.used + length rows
unfolding stored_in
put_used [] c = omega arith
put_used (r ∷ rows) c = put_used rows (put_one r c) ∙ omega arith

pub all_filled : (rows : List Overlap) (c : SegmentColumns) → c.used ≡ 0 → SegmentRoom (length rows) c → Filled rows c (put rows c)
all_filled rows c z room =
    record {
      used = put_used rows c ∙ omega (arith, z);
      from = stored_filled put_one (λ c. c.used) (λ r c. omega arith) (λ c. c.from) (λ r. r.from) (λ r c. refl) rows c z (omega (arith, z, room.from));
      to = stored_filled put_one (λ c. c.used) (λ r c. omega arith) (λ c. c.to) (λ r. r.to) (λ r c. refl) rows c z (omega (arith, z, room.to));
      value = stored_filled put_one (λ c. c.used) (λ r c. omega arith) (λ c. c.value) (λ r. r.value) (λ r c. refl) rows c z (omega (arith, z, room.value));
      gap = stored_filled put_one (λ c. c.used) (λ r c. omega arith) (λ c. c.gap) (λ r. r.gap) (λ r c. refl) rows c z (omega (arith, z, room.gap));
    }

-- the columns are as long as they were
pub record Same (a b : SegmentColumns) : Type 0 where
  pub from : length b.from ≡ length a.from
  pub to : length b.to ≡ length a.to
  pub value : length b.value ≡ length a.value
  pub gap : length b.gap ≡ length a.gap

-- part of the rows is left to put
pub record Left (rest all : List Overlap) (lent now : SegmentColumns) : Type 0 where
  pub same : Same lent now
  pub room : SegmentRoom (length rest) now
  pub gives : put rest now ≡ put all lent

pub left_all : (rows : List Overlap) (c : SegmentColumns) → SegmentRoom (length rows) c → Left rows rows c c
left_all rows c room = record { same = record { from = refl; to = refl; value = refl; gap = refl }; room = room; gives = refl }

left_one : (r : Overlap) (rest all : List Overlap) (lent now : SegmentColumns) → Left (r ∷ rest) all lent now → Left rest all lent (put_one r now)
unfolding stored_in
left_one r rest all lent now w =
    let s = w.same in
    let m = w.room in
    record {
      same = record { from = simp length-set s.from; to = simp length-set s.to; value = simp length-set s.value; gap = simp length-set s.gap };
      room =
          record {
            from = simp length-set (omega arith);
            to = simp length-set (omega arith);
            value = simp length-set (omega arith);
            gap =
                simp length-set (omega arith);
          };
      gives = w.gives;
    }

-- some are put, and the rest is left
pub left_put : (rows rest all : List Overlap) (lent now : SegmentColumns) → Left (rows ++ rest) all lent now → Left rest all lent (put rows now)
unfolding stored_in
left_put [] rest all lent now w = w
left_put (r ∷ rows) rest all lent now w = left_put rows rest all lent (put_one r now) (left_one r (rows ++ rest) all lent now w)

-- there is room for the first of them
pub left_room : (rows rest all : List Overlap) (lent now : SegmentColumns) → Left (rows ++ rest) all lent now → SegmentRoom (length rows) now
left_room rows rest all lent now w =
    let m = w.room in
    let e = length-append rows rest in
    record { from = omega arith; to = omega arith; value = omega arith; gap = omega arith }

pub left_none : (rest all : List Overlap) (lent now : SegmentColumns) → rest ≡ [] → Left rest all lent now → now ≡ put all lent
unfolding stored_in
left_none rest all lent now e w = rw e at w.gives

-- the next list of them is put
module _ (lists : ℕ → List Overlap) (m i : ℕ) (h : i < m) (all : List Overlap) (lent now : SegmentColumns) (w : Left (from_on lists m i) all lent now) where
  next : Left (lists i ++ from_on lists m (i + 1)) all lent now
  next = subst (λ (rows : List Overlap). Left rows all lent now) (joined_next lists i m h) w

  pub next_room : SegmentRoom (length (lists i)) now
  next_room = left_room (lists i) (from_on lists m (i + 1)) all lent now next

  pub next_left : (after : SegmentColumns) → after ≡ put (lists i) now → Left (from_on lists m (i + 1)) all lent after
  next_left after e =
      subst (λ (c : SegmentColumns). Left (from_on lists m (i + 1)) all lent c) (sym e) (left_put (lists i) (from_on lists m (i + 1)) all lent now next)

-- a segment's overlaps: none with gaps that end by its start, or begin at its end or later
module _ (froms tos : List ℕ) (gaps : Gaps froms tos) (start end value : ℕ) where
  none_with : (g : ℕ) → min end (4 * get_or tos g 0) ≤ max start (4 * get_or froms g 0) → overlap_with froms tos start end value g ≡ []
  unfolding overlap_with
  none_with g h = cond_false _ _ (le-ltb (max start (4 * get_or froms g 0)) (min end (4 * get_or tos g 0)) h)

  before_start : (g : ℕ) → 4 * get_or tos g 0 ≤ start → overlap_with froms tos start end value g ≡ []
  before_start g h = none_with g (low start end (4 * get_or froms g 0) (4 * get_or tos g 0) h)
    where
      low : (s e f t : ℕ) → t ≤ s → min e t ≤ max s f
      low s e f t h = omega (arith, h)

  past_end : (g : ℕ) → end ≤ 4 * get_or froms g 0 → overlap_with froms tos start end value g ≡ []
  past_end g h = none_with g (high start end (4 * get_or froms g 0) (4 * get_or tos g 0) h)
    where
      high : (s e f t : ℕ) → e ≤ f → min e t ≤ max s f
      high s e f t h = omega (arith, h)

  -- from the gap on before which all end by its start, it has all its gap segments
  pub overlaps_from : (g : ℕ) → EndedBy froms tos start g → overlaps_of froms tos start end value
      ≡ from_on (overlap_with froms tos start end value) (length froms) g
  unfolding overlaps_of
  overlaps_from g b =
      let a : length froms ≡ g + (length froms - g) = omega (arith, b.inside) in
      let z : 0 + g ≡ g = omega arith in
      ap (joined (overlap_with froms tos start end value) 0) a
      ∙ joined_skip (overlap_with froms tos start end value) 0 g (length froms - g) (λ k x y. before_start k (b.ended k (omega (arith, x, y))))
      ∙ ap (λ (n : ℕ). joined (overlap_with froms tos start end value) n (length froms - g)) z

  -- behind a gap that reaches its end it has none
  pub overlaps_end : (g : ℕ) → end ≤ 4 * get_or tos g 0 → from_on (overlap_with froms tos start end value) (length froms) (g + 1) ≡ []
  overlaps_end g h =
      joined_none (overlap_with froms tos start end value) (g + 1) (length froms - (g + 1))
      (λ k x y. let o = gap_order froms tos gaps g k (omega (arith, x)) (omega (arith, x, y)) in past_end k (omega (arith, h, o)))

-- there are no more gaps than instructions
pub gap_number : (froms tos : List ℕ) → Gaps froms tos → (g : ℕ) → g < length froms → g < get_or tos g 0
gap_number froms tos gaps zero h = let a = gaps.nonempty 0 h in omega (arith, a)
gap_number froms tos gaps (suc g) h =
    let a = gap_number froms tos gaps g (omega (arith, h)) in
    let b = gap_order froms tos gaps g (suc g) (omega arith) h in
    let c = gaps.nonempty (suc g) h in
    omega (arith, a, b, c)

-- gaps that end by a point end by a later one
pub behind_later : (froms tos : List ℕ) (p q g : ℕ) → p ≤ q → EndedBy froms tos p g → EndedBy froms tos q g
behind_later froms tos p q g h b = record { inside = b.inside; ended = λ k l. le_trans (b.ended k l) h }

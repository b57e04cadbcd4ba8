-- `pass_gaps` goes through the gaps: those before g end by the segment's end and have their rows; what the gaps from g on give is left to put
use mathlib.Core.Path.{◌≡◌, refl, sym, ap, ap₂, ◌∙◌, subst}
use Prim.Native.Nat.{ℕ, ◌+◌}
use native.Mathlib.Omega.{arith}
use mathlib.Core.List.{List}
use borrow.Author.Count.{below_more}
use lib.ListN.{length}
use Rattle.overlaps.specs.GapSegments.{Overlap, nonempty, overlap_with, overlaps_of, EndedBy, SegmentColumns, put, SegmentRoom}
use Rattle.overlaps.specs.Lent.{columns_in}
use Rattle.overlaps.proofs.GapRows.{Left, left_all, left_none, next_room, next_left, overlaps_from, overlaps_end, gap_number, behind_later}
use Rattle.overlaps.proofs.LiveLaws.{none_later}
use Rattle.columns.proofs.Joining.{from_on, from_on_end}
use Rattle.overlaps.specs.Passing.{CountedIn}
use Rattle.overlaps.proofs.PassingLaws.{come_first, come_next, come_ends, come_through}
use Rattle.overlaps.proofs.passing.pass_gaps.Goals as goal

pub loop-g-init : goal.loop-g-init
loop-g-init c =
    let a = c.args in
    let p = c.requires.gaps.1 in
    let h = p.nonempty in
    let lent : SegmentColumns = columns_in a.table.now a.used in (
      behind_later a.from.now a.to.now a.s.start.0 a.s.end.0 a.gap (omega (arith, h)) p.ended,
      subst (λ (rows : List Overlap). Left rows (overlaps_of a.from.now a.to.now a.s.start.0 a.s.end.0 a.s.value.0) lent lent)
          (overlaps_from a.from.now a.to.now c.requires.gaps.0 a.s.start.0 a.s.end.0 a.s.value.0 a.gap p.ended)
          (left_all _ lent c.requires.room),
      come_first a.from.now a.to.now a.s a.gap a.held a.live.now,
      refl,
    )

pub overflow_cast-g : goal.overflow_cast-g
overflow_cast-g c =
    let a = c.args in
    let h = c.requires.gaps.0.inside c.loop-g.g c.loop-g-test.true in
    let n = gap_number a.from.now a.to.now c.requires.gaps.0 c.loop-g.g c.loop-g-test.true in
    omega (arith, h, n)

pub put_overlap-n-requires : goal.put_overlap-n-requires
unfolding overlap_with
put_overlap-n-requires c =
    let p = c.loop-g in
    let s = c.args.s in
    subst (λ (rows : List Overlap). SegmentRoom (length rows) (columns_in p.table p.n))
    (sym (ap₂ (λ (a e : ℕ). nonempty a e s.value.0 p.g) c.max.ensures c.min.ensures))
    (next_room (overlap_with c.args.from.now c.args.to.now s.start.0 s.end.0 s.value.0) _ p.g c.loop-g-test.true _ _ _ p.invariant.1)

pub returns-then-t-s-clause-value : goal.returns-then-t-s-clause-value
unfolding overlap_with
returns-then-t-s-clause-value c =
    let a = c.args in
    let p = c.loop-g in
    let gaps = c.requires.gaps.0 in
    let e = c.requires.gaps.1.end in
    let t = c.if-t-s.true in
    let lists : ℕ → List Overlap = overlap_with a.from.now a.to.now a.s.start.0 a.s.end.0 a.s.value.0 in
    let put_is = c.put_overlap-n.ensures.value
    ∙ ap₂ (λ (f e : ℕ). put (nonempty f e a.s.value.0 p.g) (columns_in p.table p.n)) c.max.ensures c.min.ensures in (
      p.invariant.0,
      come_ends a.from.now a.to.now a.s a.gap a.held a.live.now p.live p.g p.count p.invariant.2 _
          (ap (λ (x : ℕ). p.count + x) c.overlap-count.ensures)
          (λ k h. none_later a.from.now a.to.now gaps a.s.live_from.0 a.s.live_to.0 p.g t k (omega (arith, h))),
      left_none (from_on lists (length a.from.now) (p.g + 1)) _ _ _
          (overlaps_end a.from.now a.to.now gaps a.s.start.0 a.s.end.0 a.s.value.0 p.g (omega (arith, t, e)))
          (next_left lists (length a.from.now) p.g c.loop-g-test.true _ _ _ p.invariant.1 _ put_is),
    )

pub loop-g-preserved : goal.loop-g-preserved
unfolding overlap_with
loop-g-preserved c =
    let a = c.args in
    let p = c.loop-g in
    let e = c.requires.gaps.1.end in
    let h = c.loop-g-test.true in
    let r = c.requires.gaps.2 in
    let lists : ℕ → List Overlap = overlap_with a.from.now a.to.now a.s.start.0 a.s.end.0 a.s.value.0 in
    let put_is = c.put_overlap-n.ensures.value
    ∙ ap₂ (λ (f e : ℕ). put (nonempty f e a.s.value.0 p.g) (columns_in p.table p.n)) c.max.ensures c.min.ensures in (
      record {
        inside = omega (arith, h);
        ended = below_more _ _ p.invariant.0.ended (let t = c.if-t-s.false in omega (arith, t, e));
      },
      next_left lists (length a.from.now) p.g h _ _ _ p.invariant.1 _ put_is,
      come_next a.from.now a.to.now a.s a.gap a.held a.live.now p.live p.g p.count p.invariant.2 _ (omega (arith, h, r))
          (ap (λ (x : ℕ). p.count + x) c.overlap-count.ensures),
      c.put_overlap-n.ensures.same ∙ p.invariant.3,
    )

pub returns-clause-value : goal.returns-clause-value
returns-clause-value c =
    let a = c.args in
    let p = c.loop-g in
    let lists : ℕ → List Overlap = overlap_with a.from.now a.to.now a.s.start.0 a.s.end.0 a.s.value.0 in
    let through : p.g ≡ length a.from.now = omega arith in
    let here = subst
    (λ (g : ℕ). EndedBy a.from.now a.to.now a.s.end.0 g × CountedIn a.from.now a.to.now a.s a.gap a.held a.live.now p.live g p.count) through
    (p.invariant.0, come_through a.from.now a.to.now a.s a.gap a.held a.live.now p.live p.g p.count p.invariant.2 c.requires.gaps.0 (omega arith)) in (
      here.0,
      here.1,
      left_none (from_on lists (length a.from.now) p.g) _ _ _ (from_on_end lists (length a.from.now) p.g (omega arith)) p.invariant.1,
    )

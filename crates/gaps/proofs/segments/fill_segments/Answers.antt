-- `fill_segments` goes through the segments: the gaps before `gap` have their live instructions, of that one they are held, and what the
-- segments from i on give is left to put
use mathlib.Core.Path.{◌≡◌, refl, sym, ap, ◌∙◌, subst}
use Prim.Native.Nat.{ℕ, ◌<◌}
use native.Mathlib.Omega.{arith}
use mathlib.Core.List.{List}
use lib.ListN.{length}
use Rattle.columns.proofs.Joining.{from_on, from_on_all, from_on_end}
use Rattle.overlaps.specs.GapSegments.{Overlap, overlaps_of, EndedBy, SegmentColumns, put, SegmentRoom, Filled}
use Rattle.overlaps.specs.Lent.{columns_in}
use Rattle.overlaps.proofs.ValuedLaws.{valued_has}
use Rattle.overlaps.proofs.LiveLaws.{last_of, last_next}
use Rattle.overlaps.proofs.GapRows.{Left, left_all, left_none, next_room, next_left, all_filled}
use Rattle.overlaps.specs.Passing.{passing_segment, Passing, CountedIn}
use Rattle.overlaps.proofs.PassingLaws.{sofar_none, rest_room, comes, sofar_next, sofar_all, rest}
use Rattle.overlaps.specs.declared.passing.PassingSegment.{PassingSegment}
use Rattle.gaps.proofs.SegmentRows.{found_of, all_found}
use Rattle.gaps.proofs.segments.fill_segments.Goals as goal

pub loop-i-init : goal.loop-i-init
loop-i-init c =
    let a = c.args in
    let lent : SegmentColumns = columns_in a.table.now 0 in
    let all : List Overlap = all_found a.segments.now a.from.now a.to.now in (
      refl,
      sofar_none _ _ _ _ _,
      subst (λ (rows : List Overlap). Left rows all lent lent)
          (from_on_all (found_of a.segments.now a.from.now a.to.now) (length a.segments.now.starts))
          (left_all all lent c.requires.room),
      refl,
    )

pub segment_at-s-requires : goal.segment_at-s-requires
segment_at-s-requires c = valued_has c.args.segments.now c.requires.valued.0 c.loop-i.i (omega arith)

pub pass_gaps-passed-requires : goal.pass_gaps-passed-requires
pass_gaps-passed-requires c =
    let a = c.args in
    let p = c.loop-i in
    let starts : List ℕ = a.segments.now.starts in
    let ends : List ℕ = a.segments.now.ends in
    let values : List ℕ = a.segments.now.values in
    let lent : SegmentColumns = columns_in a.table.now 0 in
    let found : SegmentColumns = columns_in p.table p.used in
    let e = sym (c.segment_at-s.ensures ∙ ap (passing_segment starts ends values p.i) p.invariant.0) in
    let inside : p.i < length starts = omega arith in record {
      gaps = (
        c.requires.valued.1,
        subst (λ (s : PassingSegment). Passing a.from.now a.to.now s p.gap p.held) e
            (comes starts ends values a.from.now a.to.now a.live.now p.live p.gap p.held p.i
            c.requires.valued.0.bounds c.requires.valued.1 c.requires.valued.2 p.invariant.1 inside),
        rest_room starts ends values a.from.now a.to.now a.live.now p.live p.gap p.held p.i
            c.requires.valued.0.bounds c.requires.valued.1 c.requires.valued.2 p.invariant.1,
      );
      room = subst
          (λ (s : PassingSegment). SegmentRoom (length (overlaps_of a.from.now a.to.now s.start.0 s.end.0 s.value.0)) found) e
          (next_room (found_of a.segments.now a.from.now a.to.now) (length starts) p.i inside (all_found a.segments.now a.from.now a.to.now) lent found
          p.invariant.2);
    }

pub loop-i-preserved : goal.loop-i-preserved
loop-i-preserved c =
    let a = c.args in
    let p = c.loop-i in
    let r = c.pass_gaps-passed.result in
    let e = c.pass_gaps-passed.ensures.value in
    let starts : List ℕ = a.segments.now.starts in
    let ends : List ℕ = a.segments.now.ends in
    let values : List ℕ = a.segments.now.values in
    let lent : SegmentColumns = columns_in a.table.now 0 in
    let found : SegmentColumns = columns_in p.table p.used in
    let segment_is : c.segment_at-s.result ≡ passing_segment starts ends values p.i (last_of ends p.i) = c.segment_at-s.ensures
    ∙ ap (passing_segment starts ends values p.i) p.invariant.0 in
    let inside : p.i < length starts = omega arith in (
      ap (λ (s : PassingSegment). s.live_to.0) segment_is ∙ last_next ends p.i,
      sofar_next starts ends values a.from.now a.to.now a.live.now p.live p.gap p.held p.i
          c.requires.valued.0.bounds c.requires.valued.1 c.requires.valued.2 p.invariant.1 inside r.gap r.held c.pass_gaps-passed.new.live
          (subst (λ (s : PassingSegment). CountedIn a.from.now a.to.now s p.gap p.held (rest p.gap p.live) c.pass_gaps-passed.new.live r.gap r.held)
          segment_is e.1)
          (subst (λ (s : PassingSegment). EndedBy a.from.now a.to.now s.end.0 r.gap) segment_is e.0),
      next_left (found_of a.segments.now a.from.now a.to.now) (length starts) p.i inside (all_found a.segments.now a.from.now a.to.now) lent found
          p.invariant.2 _
          (e.2 ∙ ap (λ (s : PassingSegment). put (overlaps_of a.from.now a.to.now s.start.0 s.end.0 s.value.0) found) segment_is),
      c.pass_gaps-passed.ensures.same ∙ p.invariant.3,
    )

pub returns-clause-value : goal.returns-clause-value
returns-clause-value c =
    let a = c.args in
    let p = c.loop-i in
    let starts : List ℕ = a.segments.now.starts in
    let lent : SegmentColumns = columns_in a.table.now 0 in
    let all : List Overlap = all_found a.segments.now a.from.now a.to.now in
    let found : ℕ → List Overlap = found_of a.segments.now a.from.now a.to.now in (
      sofar_all starts a.segments.now.ends a.segments.now.values a.from.now a.to.now a.live.now p.live p.gap p.held p.i
          c.requires.valued.0.bounds c.requires.valued.1 c.requires.valued.2 p.invariant.1 (omega arith) c.put_rest.new.live c.put_rest.ensures,
      subst (λ (now : SegmentColumns). Filled all lent now)
          (sym
          (left_none (from_on found (length starts) p.i) all lent
          (columns_in p.table p.used)
          (from_on_end found (length starts) p.i (omega arith)) p.invariant.2))
          (all_filled all lent refl c.requires.room),
    )

-- `take_gap` takes the gap segments of the gap one after the other: what is known is what those passed meet
use mathlib.Core.Path.{◌≡◌, sym, ap, subst, ◌∙◌}
use mathlib.Core.Bool.{true}
use Prim.Native.Nat.{ℕ, ◌≤◌, ◌<◌}
use lib.Dec.{T}
use lib.ListN.{get_or}
use Rattle.links.specs.declared.lower.Side.{Side}
use Rattle.overlaps.specs.GapSegments.{SegmentColumns}
use Rattle.walks.specs.declared.meeting.GapSegment.{GapSegment}
use Rattle.walks.specs.Meeting.{Reserved, also_met}
use Rattle.walks.specs.Ways.{AnyAhead, row_ahead, ahead_is}
use Rattle.walks.specs.Standing.{StandsInUnits, Sound, segment_begin, segment_end}
use Rattle.walks.specs.Gaps.{segment_in, met_before}
use Rattle.walks.proofs.Ways.{row_inside, behind_inside, ahead_is_T}
use Rattle.walks.proofs.GapWalk.{Going, going_next, going_out}
use Rattle.walks.proofs.walk.Walk.take_gap.Goals as goal

-- the test, of the columns that are lent
tested : (side : Side) (gap i : ℕ) {lent g : SegmentColumns} {n : ℕ} → lent ≡ g → n ≡ g.used → ahead_is side g.gap g.used i gap ≡ ahead_is side lent.gap n i gap
tested side gap i e f = rw (e, f)

-- a row ahead of place i is one of the gap
ahead : (side : Side) (g : SegmentColumns) (gap i : ℕ) → i ≤ g.used → ahead_is side g.gap g.used i gap ≡ true
    → AnyAhead side i g.used × (row_ahead side i < g.used) × (get_or g.gap (row_ahead side i) 0 ≡ gap)
ahead side g gap i inside t = let h = (ahead_is_T side g.gap g.used i gap).0 (rw t tt) in (h.0, row_inside side h.0 inside, h.1)

pub loop-segments-preserved : goal.loop-segments-preserved
loop-segments-preserved c =
    let a = c.args in
    let t : Reserved = a.reserved.now in
    let g : SegmentColumns = a.segments.now in
    let l = c.loop-segments in
    let h = ahead a.side g a.gap l.i l.invariant.0
    (tested a.side a.gap l.i c.segments.view_is c.len.ensures ∙ sym c.ahead_is.ensures ∙ c.loop-segments-test.true) in
    -- the gap segment that was read is the row's
    let s : c.at-s.result ≡ segment_in g (row_ahead a.side l.i) = c.at-s.ensures ∙ ap (segment_in g) c.row_ahead-row.ensures in
    let to = sym c.place_behind-i.ensures in
    let took = c.take_segment-took in (
      subst (λ (x : ℕ). x ≤ g.used) to (behind_inside a.side h.0 l.invariant.0),
      took.ensures.1,
      λ r.
          let n = l.invariant.2 r in
          let o = r.walkable.ordered in
          let x =
          subst (λ (s : GapSegment). Sound t s l.met → StandsInUnits a.side a.register t.rows (segment_begin a.side s) l.self
          → (took.result.met ≡ also_met a.register t s l.met)
          × StandsInUnits a.side a.register t.rows (segment_end a.side s) took.result.walk) s took.ensures.2
          (record { ready = r.walkable.ready; nonempty = o.nonempty _ h.1; weight = n.seen.weight }) (n.stands h.0) in
          subst (λ (i : ℕ). Going a.side a.register t g a.gap (met_before a.heaviest) i took.result.walk took.result.met) to
          (subst (Going a.side a.register t g a.gap (met_before a.heaviest) _ took.result.walk) (sym x.0)
          (going_next a.side a.register t g o a.gap (met_before a.heaviest) r.weight l.i l.self l.met n h.0 h.2 took.result.walk x.1)),
    )

pub returns : goal.returns
returns c =
    let a = c.args in
    let g : SegmentColumns = a.segments.now in
    let l = c.loop-segments in
    record {
      fits = record {
        known = c.requires.known;
        long = c.requires.long;
        next = l.invariant.0;
        places = record { eight = l.invariant.1.eight; inside = l.invariant.1.inside };
      };
      exact =
          λ ok w at.
          let n = l.invariant.2 (record { walkable = ok; weight = w; at = at }) in
          let none = tested a.side a.gap l.i c.segments.view_is c.len.ensures ∙ sym c.ahead_is.ensures ∙ c.loop-segments-test.false in
          let out =
          going_out a.side a.register a.reserved.now g ok.ordered a.gap (met_before a.heaviest) w l.i l.self l.met n
          (λ any e. subst T none ((ahead_is_T a.side g.gap g.used l.i a.gap).1 (any, e))) in
          record { met = out.1; at = record { place = out.0; stands = λ h. record { in_unit = (n.stands h).in_unit } } };
    }

-- `grow` tries the own gap and then the side whose turn it is: a try is due, and the walkers stand right for it
use mathlib.Core.Path.{◌≡◌, sym, ◌∙◌, subst}
use Prim.Native.Nat.{ℕ, ◌<◌}
use lib.ListN.{length}
use Rattle.growth.specs.Columns.{number_at, float_at, turn_of, InsideGaps}
use Rattle.growth.specs.declared.step.Growth.{Growth}
use Rattle.region.specs.Find.{GapRows, Reached}
use Rattle.region.proofs.Growing.{due_triable, after_reached, gone_behind, less_behind, turn_region, turn_due, end_answers}
use Rattle.region.proofs.find.grow.Goals as goal

-- whose turn it is, of the columns that are lent
turn : {lent gaps : GapRows} {n : ℕ} (growth : Growth) → lent ≡ gaps → n ≡ length gaps.froms
    → turn_of n (float_at lent.freqs) (number_at lent.lives) growth ≡ turn_of (length gaps.froms) (float_at gaps.freqs) (number_at gaps.lives) growth
turn growth e f = rw (f, e)

pub try_side-t-requires : goal.try_side-t-requires
try_side-t-requires c =
    let a = c.args in
    let l = c.grow in
    record {
      triable = due_triable a.register a.reserved.now a.segments.now a.gaps.now a.initial a.k c.requires.ready l.growth l.side l.invariant.0;
      fits_both = l.invariant.1.fits;
    }

pub next_turn-requires-clause-inside_gaps : goal.next_turn-requires-clause-inside_gaps
next_turn-requires-clause-inside_gaps c =
    let a = c.args in
    let l = c.grow in
    let r = c.after-growth.result.region in
    subst (λ (n : ℕ). r.left < r.right → InsideGaps n r) (sym c.len-count.ensures)
    (gone_behind a.register a.reserved.now a.segments.now a.gaps.now a.initial a.k c.requires.ready l.growth l.side l.invariant.0
    c.requires.begun.walkable l.walkers l.invariant.1 _ c.try_side-t.ensures _ c.after-growth.ensures).inside

pub grow-smaller : goal.grow-smaller
grow-smaller c =
    let a = c.args in
    let l = c.grow in
    less_behind a.register a.reserved.now a.segments.now a.gaps.now a.initial a.k c.requires.ready l.growth l.side l.invariant.0
    c.requires.begun.walkable l.walkers l.invariant.1 _ c.try_side-t.ensures _ c.after-growth.ensures
    (turn_region a.register a.reserved.now a.segments.now a.gaps.now a.initial a.k c.requires.ready _ c.in-Some.next
    (sym c.in-Some.is ∙ c.next_turn.ensures ∙ turn c.after-growth.result c.gaps.view_is c.len-count.ensures))

pub grow-preserved : goal.grow-preserved
grow-preserved c =
    let a = c.args in
    let l = c.grow in
    let gone = gone_behind a.register a.reserved.now a.segments.now a.gaps.now a.initial a.k c.requires.ready l.growth l.side l.invariant.0
    c.requires.begun.walkable l.walkers l.invariant.1 _ c.try_side-t.ensures _ c.after-growth.ensures in (
      turn_due a.register a.reserved.now a.segments.now a.gaps.now a.initial a.k c.requires.ready _ c.in-Some.next gone
          (sym c.in-Some.is ∙ c.next_turn.ensures ∙ turn c.after-growth.result c.gaps.view_is c.len-count.ensures),
      subst (λ (x : Growth). Reached a.register a.reserved.now a.segments.now x c.try_side-t.result.walkers) (sym c.after-growth.ensures)
          (after_reached a.register a.reserved.now a.segments.now a.gaps.now a.initial a.k c.requires.ready
          l.growth l.side l.invariant.0 c.requires.begun.walkable l.walkers l.invariant.1 c.try_side-t.result c.try_side-t.ensures),
    )

pub returns : goal.returns
returns c =
    let a = c.args in
    let l = c.grow in
    let gone = gone_behind a.register a.reserved.now a.segments.now a.gaps.now a.initial a.k c.requires.ready l.growth l.side l.invariant.0
    c.requires.begun.walkable l.walkers l.invariant.1 _ c.try_side-t.ensures _ c.after-growth.ensures in
    end_answers a.register a.reserved.now a.segments.now a.gaps.now a.initial a.k c.requires.ready _ gone
    (sym c.in_default.is ∙ c.next_turn.ensures ∙ turn c.after-growth.result c.gaps.view_is c.len-count.ensures)

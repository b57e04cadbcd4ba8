-- `check_segments` answers the first of lines 5 to 8 that is broken
use mathlib.Core.Path.{subst}
use mathlib.Core.List.{List}
use Prim.Native.Nat.{ℕ, ◌≤◌}
use native.Mathlib.Omega.{arith}
use lib.ListN.{length}
use Rattle.std.proofs.lemmas.Grind.{common_steps}
use Rattle.columns.specs.First.{first_below}
use Rattle.jobs.specs.declared.rows.Limits.{Limits}
use Rattle.jobs.specs.declared.rows.Segment.{Segment}
use Rattle.jobs.specs.declared.rows.Use.{Use}
use Rattle.jobs.specs.Lines.{Lists}
use Rattle.jobs.proofs.Sound.{segments_lists}
use Rattle.jobs.proofs.LastUse.{ends_by_last}
use Rattle.refusals.specs.Refusals.{FewSegments, first_broken, line5, line7}
use Rattle.refusals.proofs.FirstBroken.{line_passed}
use Rattle.refusals.proofs.lines.check_segments.Goals as goal

-- the use lists, where line 5 has passed
listed : (limits : Limits) (uses : List Use) (segments : List Segment) → FewSegments limits uses segments
    → length segments ≤ first_below (line5 limits segments).broken (length segments) → Lists (length uses) segments
listed limits uses segments few passed =
    subst (λ (m : ℕ). Lists m segments) few.counted (segments_lists limits segments (line_passed (line5 limits segments) passed) few.some)

pub first_bad_use-at-requires : goal.first_bad_use-at-requires
first_bad_use-at-requires c =
    listed c.args.limits _ _ c.requires (rw (← c.first_bad_segment-segment.ensures, ← c.len-rows.ensures) c.if-segment-rows.false)

pub returns : goal.returns
unfolding first_broken
returns c =
    let lists = listed c.args.limits _ _ c.requires (rw (← c.first_bad_segment-segment.ensures, ← c.len-rows.ensures) c.if-segment-rows.false) in
    let seven = line_passed (line7 c.args.limits c.args.uses.now c.args.segments.now)
    (rw (← c.first_bad_use-at.ensures, ← c.len-places.ensures) c.if-at-places.false) in
    let by_last = ends_by_last c.args.limits c.args.uses.now c.args.segments.now lists seven in
    grind (arith, common_steps)

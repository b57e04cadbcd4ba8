-- `use_clashes` looks from the fixed row on: no fixed use before i counts, and behind the place where it stops none does
use mathlib.Core.Path.{sym, ap, ◌∙◌}
use native.Mathlib.Omega.{arith}
use Rattle.jobs.specs.Checked.{plain_fixed_use}
use Rattle.walks.proofs.Uses.{looking_first, looking_next, none_left, other_unit, past_segment, one_counts}
use Rattle.walks.proofs.meeting.use_clashes.Goals as goal

pub loop-i-init : goal.loop-i-init
loop-i-init c o = looking_first o (c.first_use-from.ensures.begin.1 o)

pub returns-then-f-r : goal.returns-then-f-r
returns-then-f-r c o =
    other_unit (c.loop-i.invariant o) (omega (arith, c.loop-i-test.true, c.len-i-end.ensures)) (ap plain_fixed_use c.held_at-f.ensures) c.if-f-r.true

pub returns-then-f-s : goal.returns-then-f-s
returns-then-f-s c o =
    past_segment (c.loop-i.invariant o) (omega (arith, c.loop-i-test.true, c.len-i-end.ensures)) (ap plain_fixed_use c.held_at-f.ensures)
    c.if-f-r.false c.if-f-s.true

pub returns-then-clashes : goal.returns-then-clashes
returns-then-clashes c o =
    one_counts (c.loop-i.invariant o) (omega (arith, c.loop-i-test.true, c.len-i-end.ensures)) (ap plain_fixed_use c.held_at-f.ensures)
    c.if-f-r.false (sym c.clashes.ensures ∙ c.if-clashes.true)

pub loop-i-preserved : goal.loop-i-preserved
loop-i-preserved c o =
    looking_next (c.loop-i.invariant o) (omega (arith, c.loop-i-test.true, c.len-i-end.ensures)) (ap plain_fixed_use c.held_at-f.ensures)
    (sym c.clashes.ensures ∙ c.if-clashes.false)

pub returns : goal.returns
returns c o = none_left (c.loop-i.invariant o) (omega (arith, c.loop-i-test.false, c.len-i-end.ensures))

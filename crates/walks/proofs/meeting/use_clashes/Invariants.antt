-- `use_clashes` looks from the fixed row on: no fixed use before i counts, and behind the place where it stops none does
use Rattle.jobs.specs.Checked.{plain_row}
use Rattle.walks.specs.Standing.{OrderedUses}
use Rattle.walks.proofs.Uses.{Looking}
use Rattle.walks.proofs.meeting.use_clashes.Given as goal

abbrev pub invariant-loop-i : goal.invariant-loop-i
invariant-loop-i l = OrderedUses l.fixed_uses → Looking l.fixed_uses l.s (plain_row l.r) l.i

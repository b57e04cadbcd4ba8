-- `collect_list` adds the uses of a list one by one, in order
use mathlib.Core.Path.{◌≡◌}
use lib.ListN.{length}
use Rattle.jobs.specs.Checked.{plain_segment}
use Rattle.use_rows.specs.Lent.{columns_in, lenders}
use Rattle.use_lists.specs.Steps.{number_before, block_in_use}
use Rattle.use_lists.specs.Collecting.{collecting}
use Rattle.use_lists.proofs.ListWalk.{Along}
use Rattle.use_lists.proofs.lists.collect_list.Given as goal

abbrev pub invariant-loop-i : goal.invariant-loop-i
invariant-loop-i l = (lenders l.table ≡ lenders l.initial.table) × Along l.uses l.freq l.end (plain_segment l.s) l.code l.scales
    (collecting (columns_in l.initial.table) l.initial.done) l.i
    (collecting (columns_in l.table) l.done) ×
    (l.done.near.0 ≡ number_before (block_in_use l.end (length l.freq) l.uses) l.i)

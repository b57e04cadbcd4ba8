-- `collect_lists` adds the lists one by one, in order
use mathlib.Core.Path.{◌≡◌}
use lib.ListN.{length}
use Rattle.columns.specs.Table.{row_before}
use Rattle.jobs.specs.Rows.{no_segment}
use Rattle.use_rows.specs.Lent.{columns_in, lenders}
use Rattle.use_lists.specs.Steps.{number_before, block_in_use}
use Rattle.use_lists.specs.Collecting.{collecting}
use Rattle.use_lists.proofs.ListWalk.{AlongAll}
use Rattle.use_lists.proofs.lists.collect_lists.Given as goal

abbrev pub invariant-loop-i : goal.invariant-loop-i
invariant-loop-i l = (lenders l.table ≡ lenders l.initial.table) × AlongAll l.uses l.freq l.block_end l.segments l.code l.scales
    (collecting (columns_in l.initial.table) l.initial.done) l.i
    (collecting (columns_in l.table) l.done) ×
    (l.done.near.0 ≡ number_before (block_in_use l.block_end (length l.freq) l.uses)
    (row_before l.segments no_segment l.i).end_use)

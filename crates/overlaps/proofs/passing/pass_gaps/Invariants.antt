-- `pass_gaps` goes through the gaps: those before g end by the segment's end and have their rows; what the gaps from g on give is left to put
use mathlib.Core.Path.{◌≡◌}
use lib.ListN.{length}
use Rattle.overlaps.specs.GapSegments.{overlap_with, overlaps_of, EndedBy}
use Rattle.overlaps.specs.Lent.{columns_in, lenders}
use Rattle.overlaps.proofs.GapRows.{Left}
use Rattle.columns.proofs.Joining.{from_on}
use Rattle.overlaps.proofs.PassingLaws.{Come}
use Rattle.overlaps.proofs.passing.pass_gaps.Given as goal

abbrev pub invariant-loop-g : goal.invariant-loop-g
invariant-loop-g l = EndedBy l.from l.to l.s.end.0 l.g
    × Left (from_on (overlap_with l.from l.to l.s.start.0 l.s.end.0 l.s.value.0) (length l.from) l.g)
    (overlaps_of l.from l.to l.s.start.0 l.s.end.0 l.s.value.0) (columns_in l.initial.table l.used)
    (columns_in l.table l.n)
    × Come l.from l.to l.s l.gap l.held l.initial.live l.live l.g l.count
    × (lenders l.table ≡ lenders l.initial.table)

-- `fill_segments` goes through the segments: the gaps before `gap` have their live instructions, of that one they are held, and what the
-- segments from i on give is left to put
use mathlib.Core.Path.{◌≡◌}
use lib.ListN.{length}
use Rattle.columns.proofs.Joining.{from_on}
use Rattle.overlaps.specs.Lent.{columns_in, lenders}
use Rattle.overlaps.proofs.LiveLaws.{last_of}
use Rattle.overlaps.proofs.GapRows.{Left}
use Rattle.overlaps.proofs.PassingLaws.{Sofar}
use Rattle.gaps.proofs.SegmentRows.{found_of, all_found}
use Rattle.gaps.proofs.segments.fill_segments.Given as goal

abbrev pub invariant-loop-i : goal.invariant-loop-i
invariant-loop-i l =
    (l.last.0 ≡ last_of l.segments.ends l.i)
    × Sofar l.segments.starts l.segments.ends l.from l.to l.initial.live l.live l.gap l.held l.i
    × Left (from_on (found_of l.segments l.from l.to) (length l.segments.starts) l.i) (all_found l.segments l.from l.to)
    (columns_in l.initial.table 0)
    (columns_in l.table l.used)
    × (lenders l.table ≡ lenders l.initial.table)

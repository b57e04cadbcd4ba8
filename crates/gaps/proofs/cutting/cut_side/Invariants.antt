-- `cut_side` stores the gaps between one pair of uses after the other
use mathlib.Core.Path.{◌≡◌}
use mathlib.Core.List.{List}
use Prim.Native.Nat.{ℕ, ◌+◌}
use lib.ListN.{length}
use Rattle.links.specs.declared.lower.Side.{Side}
use Rattle.use_rows.specs.UseColumns.{UseColumns, use_in}
use Rattle.gaps.specs.Gaps.{Gap}
use Rattle.gaps.specs.Lent.{cut_in, uncut}
use Rattle.gaps.specs.Cutting.{space_of, space_gaps}
use Rattle.gaps.proofs.Sides.{Siding}
use Rattle.gaps.proofs.cutting.cut_side.Given as goal

-- the gaps between use k and the next
abbrev pub gaps_at : Side → List ℕ → List ℕ → List ℕ → List ℕ → UseColumns → ℕ → List Gap
gaps_at side freqs ends edges links uses k = space_gaps side freqs edges links (space_of side ends (length freqs) (use_in uses k) (use_in uses (k + 1)))

abbrev pub invariant-loop-k : goal.invariant-loop-k
invariant-loop-k l = Siding (gaps_at l.side l.freq l.end l.edges l.links l.uses) l.i l.last l.n-2
    (cut_in l.initial.gaps) (cut_in l.gaps) l.k l.n
    × (uncut l.gaps ≡ uncut l.initial.gaps)

-- For the contract of `grow_filled`: growth over tables that are filled, and its answer
use Rattle.std.specs.Prelude.{ℕ, List, Float, length, take}
use Rattle.overlaps.specs.GapSegments.{SegmentColumns, segment_columns}
use Rattle.walks.specs.declared.meeting.Register.{Register}
use Rattle.walks.specs.Meeting.{Reserved}
use Rattle.growth.specs.Growth.{GapsSeen}
use Rattle.walks.specs.Standing.{Known}
use Rattle.walks.specs.Gaps.{Walkable}
use Rattle.region.specs.Find.{seen_by, InTable, RowsInside}
use Rattle.growth.specs.Proposal.{region_of}
use Rattle.work.specs.declared.fill.ReadyTables.{ReadyTables}
use Rattle.work.specs.declared.fill.FilledTables.{FilledTables}
use Rattle.work.specs.declared.fill.FilledTables.TheVariants as FilledTables·is
use Rattle.outcome.specs.Outcome.{of_region}
use Rattle.outcome.specs.declared.grow.Answer.TheVariants as Answer·is
use Rattle.outcome.specs.declared.grow.Proposed.{Proposed}

-- the columns of gaps and gap segments that growth reads
pub record GrowthColumns : Type 0 where
  pub froms : List ℕ
  pub weights : List Float
  pub lives : List ℕ
  pub freqs : List Float
  pub segment_froms : List ℕ
  pub segment_tos : List ℕ
  pub segment_values : List ℕ
  pub segment_gaps : List ℕ

-- the eight as one
abbrev pub growth_columns : List ℕ → List Float → List ℕ → List Float → List ℕ → List ℕ → List ℕ → List ℕ → GrowthColumns
growth_columns froms weights lives freqs segment_froms segment_tos segment_values segment_gaps =
    record {
      froms = froms;
      weights = weights;
      lives = lives;
      freqs = freqs;
      segment_froms = segment_froms;
      segment_tos = segment_tos;
      segment_values = segment_values;
      segment_gaps = segment_gaps;
    }

-- the gap segments, cut to the rows used
abbrev pub segments_ready : GrowthColumns → ReadyTables → SegmentColumns
segments_ready g r =
    segment_columns (take r.gap_segments g.segment_froms) (take r.gap_segments g.segment_tos)
    (take r.gap_segments g.segment_values) (take r.gap_segments g.segment_gaps)
    (length (take r.gap_segments g.segment_froms))

-- what growth sees of tables that are ready
abbrev pub seen_ready : Register → Reserved → ℕ → GrowthColumns → ReadyTables → GapsSeen
seen_ready p t k g r =
    seen_by p t (segments_ready g r) (take r.gaps g.froms) (take r.gaps g.weights) (take r.gaps g.lives) (take r.gaps g.freqs) r.own k

-- what growth relies on
pub record Growable (p : Register) (t : Reserved) (k : ℕ) (g : GrowthColumns) (r : ReadyTables) : Type 0 where
  pub rows : RowsInside r.gaps g.froms g.weights g.lives g.freqs r.gap_segments g.segment_froms g.segment_tos
      g.segment_values g.segment_gaps
  pub known : Known p
  pub walkable : Walkable t (segments_ready g r)
  pub in_table : InTable (seen_ready p t k g r) (take r.gaps g.weights) (take r.gaps g.lives) (take r.gaps g.freqs)

-- the same where tables are ready
abbrev pub GrowableIf : Register → Reserved → ℕ → GrowthColumns → FilledTables → Type 0
GrowableIf p t k g (FilledTables·is.Ready r) = Growable p t k g r
GrowableIf p t k g (FilledTables·is.NoBestUse uses) = Unit {0}
GrowableIf p t k g (FilledTables·is.Refused x) = Unit {0}

-- what is answered: where tables are ready, the region that is grown
abbrev pub grown_from : Register → Reserved → ℕ → GrowthColumns → FilledTables → Proposed
grown_from p t k g (FilledTables·is.Ready r) =
    record { answer = of_region (region_of (seen_ready p t k g r)); uses = r.uses; gaps = r.gaps; gap_segments = r.gap_segments }
grown_from p t k g (FilledTables·is.NoBestUse uses) = record { answer = Answer·is.NoBestUse; uses = uses; gaps = 0; gap_segments = 0 }
grown_from p t k g (FilledTables·is.Refused x) = record { answer = Answer·is.Refused x; uses = 0; gaps = 0; gap_segments = 0 }

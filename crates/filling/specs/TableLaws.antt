-- What documents 01 and 02 say of the tables of a job with a best use: links, gaps and their blocks, live instructions, gap segments
use Rattle.std.specs.Prelude.{◌≡◌, ℕ, ◌+◌, ◌-◌, ◌<◌, Float, length, get_or}
use Rattle.numbers.specs.Weight.{zero_weight}
use Rattle.columns.specs.Below.{count_below, sum_below}
use Rattle.links.specs.Blocks.{start_of}
use Rattle.links.specs.Links.{on_side, IsLink}
use Rattle.links.specs.declared.lower.Side.{Side}
use Rattle.use_rows.specs.Uses.{Source, first_inst, last_inst}
use Rattle.overlaps.specs.Live.{live_insts, covered, covered_in}
use Rattle.overlaps.specs.GapSegments.{AllOverlaps}
use Rattle.gaps.specs.Gaps.{Gap, use_of, initial_gap}
use Rattle.columns.specs.Table.{Each}
use Rattle.gaps.specs.Laws.{Run, Least, nearest_block, placed, row_measure}
use Rattle.gaps.specs.GapColumns.{froms_of, tos_of}
use Rattle.filling.specs.SourceTables.{freqs_of, starts_of, stops_of, values_of, Tables}

-- the laws of the tables of a job, where the best use is a row of the use table
pub record TableLaws (source : Source) (best : ℕ) (t : Tables) : Type 0 where
  -- a lower link names the nearest block of strictly lower frequency on its side, and is absent exactly if none is lower
  pub links : (side : Side) (b : ℕ) → b < length (freqs_of source) → IsLink side (freqs_of source) b (get_or (on_side side t.prevs t.nexts) b 0)
  -- nothing counts left of the first row of the use table or right of the last
  pub first_left : (use_of t.uses 0).left_weight ≡ zero_weight
  pub last_right : (use_of t.uses (length t.uses - 1)).right_weight ≡ zero_weight
  -- gaps tile first to last instruction
  pub tile : Run (first_inst source.segments) (last_inst source.uses source.segments + 1) t.gaps
  -- the best use has a gap of one instruction
  pub own_from : get_or (froms_of t.gaps) (initial_gap source.blocks t.uses best) 0 ≡ (use_of t.uses best).inst.0
  pub own_to : get_or (tos_of t.gaps) (initial_gap source.blocks t.uses best) 0 ≡ (use_of t.uses best).inst.0 + 1
  -- a gap's block carries its frequency, which is the least among blocks it meets
  pub least : Each (Least source.blocks) t.gaps
  -- it is the gap's last block left of the best use, the first right of it, and the best use's own for its gap
  pub nearest : Each (λ (g : Gap). g.block ≡ nearest_block source.blocks (use_of t.uses best).inst.0 g) t.gaps
  -- each counted left, main and right weight is placed in one gap: whatever measures weights, with nothing for zero, measures as much in the
  -- gaps as in all rows of the use table
  pub weights : (f : Float → ℕ) → f zero_weight ≡ 0 → placed f t.gaps ≡ sum_below (λ (k : ℕ). row_measure f (use_of t.uses k)) (length t.uses)
  -- a gap's live instructions are those of its instructions that some segment covers
  pub live : (g : ℕ) → g < length t.gaps → get_or t.lives g 0
      ≡ covered_in (starts_of source) (stops_of source) (get_or (froms_of t.gaps) g 0) (get_or (tos_of t.gaps) g 0)
  -- live instructions over all gaps sum to those of the segments alone
  pub lives : sum_below (λ (g : ℕ). get_or t.lives g 0) (length t.lives) ≡ live_insts (starts_of source) (stops_of source)
  -- which are the instructions that some segment covers
  pub covers : live_insts (starts_of source) (stops_of source)
      ≡ count_below (covered (starts_of source) (stops_of source)) (start_of source.blocks (length source.blocks))
  -- gap segments are all nonempty overlaps of gap and segment, in order
  pub segments : AllOverlaps (froms_of t.gaps) (tos_of t.gaps) (starts_of source) (stops_of source) (values_of source) t.segments

-- `build_gaps` cuts the gaps, then counts their live instructions and stores their gap segments
use mathlib.Core.Path.{sym, ap, subst}
use mathlib.Core.List.{List}
use Prim.Native.Nat.{ℕ, ◌<◌}
use lib.ListN.{length, take}
use Rattle.std.proofs.lemmas.List.{length-take-le}
use Rattle.links.specs.Blocks.{BlockRow, blocks_of}
use Rattle.columns.proofs.Tables.{table_length}
use Rattle.overlaps.specs.Live.{Gaps}
use Rattle.overlaps.specs.Lent.{columns_in as segments_in}
use Rattle.use_rows.specs.UseColumns.{use_in}
use Rattle.gaps.specs.Gaps.{Gap, gaps_of, uses_in}
use Rattle.gaps.specs.GapColumns.{GapColumns, froms_of}
use Rattle.gaps.specs.Cutting.{CutColumns}
use Rattle.gaps.specs.Lent.{columns_in, cut_in}
use Rattle.gaps.proofs.InColumns.{cut_rising}
use Rattle.gaps.proofs.GapTable.{gaps_tile}
use Rattle.gaps.proofs.Built.{froms_room, tos_room, froms_cut, tos_cut, lives_room, segments_room, segments_filled, table_held}
use Rattle.gaps.proofs.gaps.build_gaps.Goals as goal

pub slice_bounds-from-end : goal.slice_bounds-from-end
slice_bounds-from-end c = froms_room _ _ c.requires.room.0 _ _ c.cut_gaps-cut.ensures.value.0 c.cut_gaps-cut.ensures.value.1

pub slice_bounds-from-end-2 : goal.slice_bounds-from-end-2
slice_bounds-from-end-2 c = sym (length-take-le _ _ (froms_room _ _ c.requires.room.0 _ _ c.cut_gaps-cut.ensures.value.0 c.cut_gaps-cut.ensures.value.1))

pub slice_bounds-to-end : goal.slice_bounds-to-end
slice_bounds-to-end c = tos_room _ _ c.requires.room.0 _ _ c.cut_gaps-cut.ensures.value.0 c.cut_gaps-cut.ensures.value.1

pub slice_bounds-to-end-2 : goal.slice_bounds-to-end-2
slice_bounds-to-end-2 c = sym (length-take-le _ _ (tos_room _ _ c.requires.room.0 _ _ c.cut_gaps-cut.ensures.value.0 c.cut_gaps-cut.ensures.value.1))

pub fill_segments-found-requires : goal.fill_segments-found-requires
fill_segments-found-requires c =
    let a = c.args in
    let cuttable = c.requires.cuttable.0 in
    let r = c.requires.room in
    let n : ℕ = c.cut_gaps-cut.result.rows in
    let e = c.cut_gaps-cut.ensures.value in
    let blocks : List BlockRow = blocks_of a.freq.now a.first.now a.end.now in
    let gaps : List Gap = gaps_of blocks (uses_in a.uses.now) a.best in
    let lent : GapColumns = columns_in a.gaps.now in
    let cut : CutColumns = cut_in c.cut_gaps-cut.new.gaps in
    let rising = cut_rising a.freq.now a.first.now a.end.now a.prev_lower_freq.now a.next_lower_freq.now a.uses.now a.best cuttable in
    let inside = subst (λ (n : ℕ). a.best < n) (sym (table_length (use_in a.uses.now) (length a.uses.now.insts))) cuttable.best_inside in
    let tile = gaps_tile blocks (uses_in a.uses.now) rising a.best inside in
    let gaps_held : Gaps (take n cut.froms) (take n cut.tos) = subst (λ (l : List ℕ). Gaps l (take n cut.tos)) (sym (froms_cut gaps lent r.0 cut n e.0 e.1))
    (subst (λ (l : List ℕ). Gaps (froms_of gaps) l) (sym (tos_cut gaps lent r.0 cut n e.0 e.1)) tile) in record {
      valued = (
        c.requires.cuttable.1,
        gaps_held,
        lives_room gaps lent r.0 cut n e.0 e.1 c.cut_gaps-cut.new.gaps.live.now (ap (λ u. u.1) c.cut_gaps-cut.ensures.same),
      );
      room = segments_room gaps lent r.0 cut n e.0 e.1 a.segments.now.starts a.segments.now.ends a.segments.now.values
          (segments_in a.gap_segments.now 0) r.1;
    }

pub returns-clause-value : goal.returns-clause-value
returns-clause-value c =
    let a = c.args in
    let r = c.requires.room in
    let n : ℕ = c.cut_gaps-cut.result.rows in
    let e = c.cut_gaps-cut.ensures.value in
    let f = c.fill_segments-found in
    let gaps : List Gap = gaps_of (blocks_of a.freq.now a.first.now a.end.now) (uses_in a.uses.now) a.best in
    let lent : GapColumns = columns_in a.gaps.now in
    let cut : CutColumns = cut_in c.cut_gaps-cut.new.gaps in (
      table_held gaps lent r.0 cut n e.0 e.1 a.segments.now.starts a.segments.now.ends c.cut_gaps-cut.new.gaps.live.now f.new.live
          (ap (λ u. u.1) c.cut_gaps-cut.ensures.same) f.ensures.value.0,
      segments_filled gaps lent r.0 cut n e.0 e.1 a.segments.now.starts a.segments.now.ends a.segments.now.values
          (segments_in a.gap_segments.now 0)
          (segments_in f.new.table f.result) f.ensures.value.1,
      e.2,
    )

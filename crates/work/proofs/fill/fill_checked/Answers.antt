-- `fill_checked` fills the uses, then the gaps: what each call relies on, and what is left in the end, is said in proofs/Assembly
use Rattle.use_rows.specs.Lent.{columns_in}
use Rattle.overlaps.specs.Lent.{columns_in as segments_held}
use Rattle.gaps.specs.Lent.{columns_in as gaps_held}
use Rattle.work.specs.Lent.{work_columns_in}
use Rattle.work.proofs.Assembly.{prevs_room, nexts_room, uses_room, none_filled, cut_inside, cut_cuttable, segments_valued, cut_room, all_filled}
use Rattle.work.proofs.fill.fill_checked.Goals as goal

pub fill_uses-filled-requires : goal.fill_uses-filled-requires
fill_uses-filled-requires c =
    let a = c.args in
    let lent = work_columns_in a.prev_lower_freq.now a.next_lower_freq.now a.table.now a.gaps.now a.gap_segments.now in
    let q = c.requires in record {
      checked = (q.0, q.1, q.2);
      room = (
        prevs_room _ _ _ _ _ _ _ lent q,
        nexts_room _ _ _ _ _ _ _ lent q,
        uses_room _ _ _ _ _ _ _ lent q,
      );
    }

pub returns-in_default-clause-value : goal.returns-in_default-clause-value
returns-in_default-clause-value c =
    let a = c.args in
    let lent = work_columns_in a.prev_lower_freq.now a.next_lower_freq.now a.table.now a.gaps.now a.gap_segments.now in
    let f = c.fill_uses-filled in
    let cols = columns_in f.new.table in
    none_filled _ _ _ _ _ _ _ lent c.requires
    f.new.prev_lower_freq f.new.next_lower_freq cols f.result.rows f.result.best f.ensures.value c.in_default.is

pub fill_gaps-t-requires : goal.fill_gaps-t-requires
fill_gaps-t-requires c =
    let a = c.args in
    let lent = work_columns_in a.prev_lower_freq.now a.next_lower_freq.now a.table.now a.gaps.now a.gap_segments.now in
    let f = c.fill_uses-filled in
    let cols = columns_in f.new.table in
    let q = c.requires in record {
      inside = cut_inside _ _ _ _ _ _ _ lent q
          f.new.prev_lower_freq f.new.next_lower_freq cols f.result.rows f.result.best f.ensures.value c.in-Some.best c.in-Some.is;
      cuttable = (
        cut_cuttable _ _ _ _ _ _ _ lent q
            f.new.prev_lower_freq f.new.next_lower_freq cols f.result.rows f.result.best f.ensures.value c.in-Some.best c.in-Some.is,
        segments_valued _ _ _ _ _ _ _ lent q,
      );
      room = cut_room _ _ _ _ _ _ _ lent q
          f.new.prev_lower_freq f.new.next_lower_freq cols f.result.rows f.result.best f.ensures.value c.in-Some.best c.in-Some.is;
    }

pub returns-clause-value : goal.returns-clause-value
returns-clause-value c =
    let a = c.args in
    let lent = work_columns_in a.prev_lower_freq.now a.next_lower_freq.now a.table.now a.gaps.now a.gap_segments.now in
    let f = c.fill_uses-filled in
    let cols = columns_in f.new.table in
    let d = c.fill_gaps-t in
    all_filled _ _ _ _ _ _ _ lent c.requires
    f.new.prev_lower_freq f.new.next_lower_freq cols f.result.rows f.result.best f.ensures.value c.in-Some.best c.in-Some.is
    (gaps_held d.new.gaps) (segments_held d.new.gap_segments d.result.segments) d.result.gaps d.result.initial d.ensures.value

-- `job::answer_job` meets its contract: the tables are lent from the arrays, and their text is read there again
use mathlib.Core.Path.{ap, ◌∙◌, subst}
use Prim.Native.Nat.{ℕ}
use mathlib.Core.List.{List}
use lib.ListN.{length}
use lib.Ieee.{binary32, of_bits}
use Rattle.sheet.specs.Answer.{answer_text, Wrote}
use Rattle.sheet.specs.declared.write.Answer as Shown
use Rattle.filling.specs.SourceTables.{work_columns}
use Rattle.refusals.specs.Job.{Job}
use Rattle.figures.specs.Figures.{shown_of}
use Rattle.table_text.specs.TablesText.{columns_text}
use Rattle.table_text.proofs.FilledText.{longer}
use Rattle.answers.specs.SheetRooms.{sheet_rooms}
use Rattle.answers.proofs.Lending.{behind_of, lent_long, back_long, links_few, uses_few, gaps_few, segments_few, lent_rooms}
use Rattle.answers.proofs.Answering.{tables_said, answer_said}
use Rattle.answers.proofs.job.answer_job.Goals as goal

pub slice_bounds-prev-end : goal.slice_bounds-prev-end
slice_bounds-prev-end c =
    let q = c.rooms_lent-lent in
    links_few _ q.ensures

pub slice_bounds-propose_split-end : goal.slice_bounds-propose_split-end
slice_bounds-propose_split-end c =
    let q = c.rooms_lent-lent in
    lent_long sheet_rooms.links q.result.links 0 (links_few _ q.ensures)

pub slice_bounds-next-end : goal.slice_bounds-next-end
slice_bounds-next-end c =
    let q = c.rooms_lent-lent in
    links_few _ q.ensures

pub slice_bounds-propose_split-end-2 : goal.slice_bounds-propose_split-end-2
slice_bounds-propose_split-end-2 c =
    let q = c.rooms_lent-lent in
    lent_long sheet_rooms.links q.result.links 0 (links_few _ q.ensures)

pub slice_bounds-inst-end : goal.slice_bounds-inst-end
slice_bounds-inst-end c =
    let q = c.rooms_lent-lent in
    uses_few _ q.ensures

pub slice_bounds-propose_split-end-3 : goal.slice_bounds-propose_split-end-3
slice_bounds-propose_split-end-3 c =
    let q = c.rooms_lent-lent in
    lent_long sheet_rooms.uses q.result.uses 0 (uses_few _ q.ensures)

pub slice_bounds-weight-end : goal.slice_bounds-weight-end
slice_bounds-weight-end c =
    let q = c.rooms_lent-lent in
    uses_few _ q.ensures

pub slice_bounds-propose_split-end-4 : goal.slice_bounds-propose_split-end-4
slice_bounds-propose_split-end-4 c =
    let q = c.rooms_lent-lent in
    lent_long sheet_rooms.uses q.result.uses (of_bits binary32 0) (uses_few _ q.ensures)

pub slice_bounds-left-end : goal.slice_bounds-left-end
slice_bounds-left-end c =
    let q = c.rooms_lent-lent in
    uses_few _ q.ensures

pub slice_bounds-propose_split-end-5 : goal.slice_bounds-propose_split-end-5
slice_bounds-propose_split-end-5 c =
    let q = c.rooms_lent-lent in
    lent_long sheet_rooms.uses q.result.uses (of_bits binary32 0) (uses_few _ q.ensures)

pub slice_bounds-right-end : goal.slice_bounds-right-end
slice_bounds-right-end c =
    let q = c.rooms_lent-lent in
    uses_few _ q.ensures

pub slice_bounds-propose_split-end-6 : goal.slice_bounds-propose_split-end-6
slice_bounds-propose_split-end-6 c =
    let q = c.rooms_lent-lent in
    lent_long sheet_rooms.uses q.result.uses (of_bits binary32 0) (uses_few _ q.ensures)

pub slice_bounds-gap_from-end : goal.slice_bounds-gap_from-end
slice_bounds-gap_from-end c =
    let q = c.rooms_lent-lent in
    gaps_few _ q.ensures

pub slice_bounds-propose_split-end-7 : goal.slice_bounds-propose_split-end-7
slice_bounds-propose_split-end-7 c =
    let q = c.rooms_lent-lent in
    lent_long sheet_rooms.gaps q.result.gaps 0 (gaps_few _ q.ensures)

pub slice_bounds-gap_to-end : goal.slice_bounds-gap_to-end
slice_bounds-gap_to-end c =
    let q = c.rooms_lent-lent in
    gaps_few _ q.ensures

pub slice_bounds-propose_split-end-8 : goal.slice_bounds-propose_split-end-8
slice_bounds-propose_split-end-8 c =
    let q = c.rooms_lent-lent in
    lent_long sheet_rooms.gaps q.result.gaps 0 (gaps_few _ q.ensures)

pub slice_bounds-gap_weight-end : goal.slice_bounds-gap_weight-end
slice_bounds-gap_weight-end c =
    let q = c.rooms_lent-lent in
    gaps_few _ q.ensures

pub slice_bounds-propose_split-end-9 : goal.slice_bounds-propose_split-end-9
slice_bounds-propose_split-end-9 c =
    let q = c.rooms_lent-lent in
    lent_long sheet_rooms.gaps q.result.gaps (of_bits binary32 0) (gaps_few _ q.ensures)

pub slice_bounds-live-end : goal.slice_bounds-live-end
slice_bounds-live-end c =
    let q = c.rooms_lent-lent in
    gaps_few _ q.ensures

pub slice_bounds-propose_split-end-10 : goal.slice_bounds-propose_split-end-10
slice_bounds-propose_split-end-10 c =
    let q = c.rooms_lent-lent in
    lent_long sheet_rooms.gaps q.result.gaps 0 (gaps_few _ q.ensures)

pub slice_bounds-freq-end : goal.slice_bounds-freq-end
slice_bounds-freq-end c =
    let q = c.rooms_lent-lent in
    gaps_few _ q.ensures

pub slice_bounds-propose_split-end-11 : goal.slice_bounds-propose_split-end-11
slice_bounds-propose_split-end-11 c =
    let q = c.rooms_lent-lent in
    lent_long sheet_rooms.gaps q.result.gaps (of_bits binary32 0) (gaps_few _ q.ensures)

pub slice_bounds-gap_block-end : goal.slice_bounds-gap_block-end
slice_bounds-gap_block-end c =
    let q = c.rooms_lent-lent in
    gaps_few _ q.ensures

pub slice_bounds-propose_split-end-12 : goal.slice_bounds-propose_split-end-12
slice_bounds-propose_split-end-12 c =
    let q = c.rooms_lent-lent in
    lent_long sheet_rooms.gaps q.result.gaps 0 (gaps_few _ q.ensures)

pub slice_bounds-segment_from-end : goal.slice_bounds-segment_from-end
slice_bounds-segment_from-end c =
    let q = c.rooms_lent-lent in
    segments_few _ q.ensures

pub slice_bounds-propose_split-end-13 : goal.slice_bounds-propose_split-end-13
slice_bounds-propose_split-end-13 c =
    let q = c.rooms_lent-lent in
    lent_long sheet_rooms.gap_segments q.result.gap_segments 0 (segments_few _ q.ensures)

pub slice_bounds-segment_to-end : goal.slice_bounds-segment_to-end
slice_bounds-segment_to-end c =
    let q = c.rooms_lent-lent in
    segments_few _ q.ensures

pub slice_bounds-propose_split-end-14 : goal.slice_bounds-propose_split-end-14
slice_bounds-propose_split-end-14 c =
    let q = c.rooms_lent-lent in
    lent_long sheet_rooms.gap_segments q.result.gap_segments 0 (segments_few _ q.ensures)

pub slice_bounds-segment_value-end : goal.slice_bounds-segment_value-end
slice_bounds-segment_value-end c =
    let q = c.rooms_lent-lent in
    segments_few _ q.ensures

pub slice_bounds-propose_split-end-15 : goal.slice_bounds-propose_split-end-15
slice_bounds-propose_split-end-15 c =
    let q = c.rooms_lent-lent in
    lent_long sheet_rooms.gap_segments q.result.gap_segments 0 (segments_few _ q.ensures)

pub slice_bounds-segment_gap-end : goal.slice_bounds-segment_gap-end
slice_bounds-segment_gap-end c =
    let q = c.rooms_lent-lent in
    segments_few _ q.ensures

pub slice_bounds-propose_split-end-16 : goal.slice_bounds-propose_split-end-16
slice_bounds-propose_split-end-16 c =
    let q = c.rooms_lent-lent in
    lent_long sheet_rooms.gap_segments q.result.gap_segments 0 (segments_few _ q.ensures)

pub slice_bounds-write_tables-end : goal.slice_bounds-write_tables-end
slice_bounds-write_tables-end c =
    let q = c.rooms_lent-lent in
    back_long sheet_rooms.links q.result.links 0 (links_few _ q.ensures)
    c.propose_split-proposed.new.prev_lower_freq c.propose_split-proposed.auto.prev_lower_freq

pub slice_bounds-write_tables-end-2 : goal.slice_bounds-write_tables-end-2
slice_bounds-write_tables-end-2 c =
    let q = c.rooms_lent-lent in
    back_long sheet_rooms.links q.result.links 0 (links_few _ q.ensures)
    c.propose_split-proposed.new.next_lower_freq c.propose_split-proposed.auto.next_lower_freq

pub slice_bounds-write_tables-end-3 : goal.slice_bounds-write_tables-end-3
slice_bounds-write_tables-end-3 c =
    let q = c.rooms_lent-lent in
    back_long sheet_rooms.uses q.result.uses 0 (uses_few _ q.ensures)
    c.propose_split-proposed.new.inst c.propose_split-proposed.auto.inst

pub slice_bounds-write_tables-end-4 : goal.slice_bounds-write_tables-end-4
slice_bounds-write_tables-end-4 c =
    let q = c.rooms_lent-lent in
    back_long sheet_rooms.uses q.result.uses (of_bits binary32 0) (uses_few _ q.ensures)
    c.propose_split-proposed.new.weight c.propose_split-proposed.auto.weight

pub slice_bounds-write_tables-end-5 : goal.slice_bounds-write_tables-end-5
slice_bounds-write_tables-end-5 c =
    let q = c.rooms_lent-lent in
    back_long sheet_rooms.uses q.result.uses (of_bits binary32 0) (uses_few _ q.ensures)
    c.propose_split-proposed.new.left_weight c.propose_split-proposed.auto.left_weight

pub slice_bounds-write_tables-end-6 : goal.slice_bounds-write_tables-end-6
slice_bounds-write_tables-end-6 c =
    let q = c.rooms_lent-lent in
    back_long sheet_rooms.uses q.result.uses (of_bits binary32 0) (uses_few _ q.ensures)
    c.propose_split-proposed.new.right_weight c.propose_split-proposed.auto.right_weight

pub slice_bounds-write_tables-end-7 : goal.slice_bounds-write_tables-end-7
slice_bounds-write_tables-end-7 c =
    let q = c.rooms_lent-lent in
    back_long sheet_rooms.gaps q.result.gaps 0 (gaps_few _ q.ensures)
    c.propose_split-proposed.new.gap_from c.propose_split-proposed.auto.gap_from

pub slice_bounds-write_tables-end-8 : goal.slice_bounds-write_tables-end-8
slice_bounds-write_tables-end-8 c =
    let q = c.rooms_lent-lent in
    back_long sheet_rooms.gaps q.result.gaps 0 (gaps_few _ q.ensures)
    c.propose_split-proposed.new.gap_to c.propose_split-proposed.auto.gap_to

pub slice_bounds-write_tables-end-9 : goal.slice_bounds-write_tables-end-9
slice_bounds-write_tables-end-9 c =
    let q = c.rooms_lent-lent in
    back_long sheet_rooms.gaps q.result.gaps (of_bits binary32 0) (gaps_few _ q.ensures)
    c.propose_split-proposed.new.gap_weight c.propose_split-proposed.auto.gap_weight

pub slice_bounds-write_tables-end-10 : goal.slice_bounds-write_tables-end-10
slice_bounds-write_tables-end-10 c =
    let q = c.rooms_lent-lent in
    back_long sheet_rooms.gaps q.result.gaps 0 (gaps_few _ q.ensures)
    c.propose_split-proposed.new.live c.propose_split-proposed.auto.live

pub slice_bounds-write_tables-end-11 : goal.slice_bounds-write_tables-end-11
slice_bounds-write_tables-end-11 c =
    let q = c.rooms_lent-lent in
    back_long sheet_rooms.gaps q.result.gaps (of_bits binary32 0) (gaps_few _ q.ensures)
    c.propose_split-proposed.new.min_freq c.propose_split-proposed.auto.min_freq

pub slice_bounds-write_tables-end-12 : goal.slice_bounds-write_tables-end-12
slice_bounds-write_tables-end-12 c =
    let q = c.rooms_lent-lent in
    back_long sheet_rooms.gaps q.result.gaps 0 (gaps_few _ q.ensures)
    c.propose_split-proposed.new.gap_block c.propose_split-proposed.auto.gap_block

pub slice_bounds-write_tables-end-13 : goal.slice_bounds-write_tables-end-13
slice_bounds-write_tables-end-13 c =
    let q = c.rooms_lent-lent in
    back_long sheet_rooms.gap_segments q.result.gap_segments 0 (segments_few _ q.ensures)
    c.propose_split-proposed.new.segment_from c.propose_split-proposed.auto.segment_from

pub slice_bounds-write_tables-end-14 : goal.slice_bounds-write_tables-end-14
slice_bounds-write_tables-end-14 c =
    let q = c.rooms_lent-lent in
    back_long sheet_rooms.gap_segments q.result.gap_segments 0 (segments_few _ q.ensures)
    c.propose_split-proposed.new.segment_to c.propose_split-proposed.auto.segment_to

pub slice_bounds-write_tables-end-15 : goal.slice_bounds-write_tables-end-15
slice_bounds-write_tables-end-15 c =
    let q = c.rooms_lent-lent in
    back_long sheet_rooms.gap_segments q.result.gap_segments 0 (segments_few _ q.ensures)
    c.propose_split-proposed.new.segment_value c.propose_split-proposed.auto.segment_value

pub slice_bounds-write_tables-end-16 : goal.slice_bounds-write_tables-end-16
slice_bounds-write_tables-end-16 c =
    let q = c.rooms_lent-lent in
    back_long sheet_rooms.gap_segments q.result.gap_segments 0 (segments_few _ q.ensures)
    c.propose_split-proposed.new.segment_gap
    c.propose_split-proposed.auto.segment_gap

pub returns : goal.returns
returns c =
    let q = c.rooms_lent-lent in
    let args = c.args in
    let e = q.ensures in
    let cols = work_columns
    c.propose_split-proposed.new.prev_lower_freq
    c.propose_split-proposed.new.next_lower_freq
    c.propose_split-proposed.new.inst
    c.propose_split-proposed.new.weight
    c.propose_split-proposed.new.left_weight
    c.propose_split-proposed.new.right_weight
    c.propose_split-proposed.new.gap_from
    c.propose_split-proposed.new.gap_to
    c.propose_split-proposed.new.gap_weight
    c.propose_split-proposed.new.live
    c.propose_split-proposed.new.min_freq
    c.propose_split-proposed.new.gap_block
    c.propose_split-proposed.new.segment_from
    c.propose_split-proposed.new.segment_to
    c.propose_split-proposed.new.segment_value
    c.propose_split-proposed.new.segment_gap in
    let proposed = c.propose_split-proposed.ensures in
    let rooms = lent_rooms args.asked e in
    let more = behind_of q.result in
    let blocks = c.count.ensures ∙ ap (λ (j : Job). length j.blocks) c.job.view_is in
    let shown = c.shown_of.ensures ∙ ap (λ (j : Job). shown_of j.k c.propose_split-proposed.result.answer) c.job.view_is in
    record {
      answer = subst
          (λ (x : Shown.Answer). Wrote (answer_text x) args.out.now c.write_answer.new.out c.write_answer.result)
          (shown ∙ answer_said args.asked proposed rooms) c.write_answer.ensures;
      tables = subst
          (λ (x : List ℕ). Wrote x args.tables.now c.write_tables.new.out c.write_tables.result)
          (ap (columns_text (longer cols more)) c.rows_used-rows.ensures
          ∙ tables_said args.asked proposed rooms more c.count.result blocks)
          c.write_tables.ensures;
    }

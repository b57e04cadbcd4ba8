-- `fill_accepted` fills the tables from the job's columns, its blocks cut to as many as there are; proofs/Answers says why they are the job's
use mathlib.Core.Path.{◌≡◌, refl, sym, subst}
use native.Mathlib.Nat.{le_trans, le_of_eq}
use lib.Seq.{length-take-le}
use Rattle.links.specs.Blocks.{no_refusal}
use Rattle.links.proofs.Rows.{blocks_inside}
use Rattle.filling.specs.SourceTables.{rooms_of}
use Rattle.work.specs.Lent.{work_columns_in}
use Rattle.refusals.specs.Job.{Job}
use Rattle.rooms.specs.Rooms.{refusal_of}
use Rattle.tables.specs.Filled.{IsFilled}
use Rattle.tables.proofs.Answers.{cut_sound, cut_checked, cut_bits, cut_roomy, accepted_filled}
use Rattle.tables.proofs.fill.fill_accepted.Goals as goal

pub slice_bounds-fill_checked-end : goal.slice_bounds-fill_checked-end
slice_bounds-fill_checked-end c =
    let n = c.count-blocks in
    let j = c.job.inside in
    sym (length-take-le n.result j.freq.now (le_trans (le_of_eq n.ensures) (blocks_inside j.freq.now j.first.now j.end.now).freqs))

pub slice_bounds-fill_checked-end-2 : goal.slice_bounds-fill_checked-end-2
slice_bounds-fill_checked-end-2 c =
    let n = c.count-blocks in
    let j = c.job.inside in
    sym (length-take-le n.result j.first.now (le_trans (le_of_eq n.ensures) (blocks_inside j.freq.now j.first.now j.end.now).firsts))

pub slice_bounds-fill_checked-end-3 : goal.slice_bounds-fill_checked-end-3
slice_bounds-fill_checked-end-3 c =
    let n = c.count-blocks in
    let j = c.job.inside in
    sym (length-take-le n.result j.end.now (le_trans (le_of_eq n.ensures) (blocks_inside j.freq.now j.first.now j.end.now).ends))

pub fill_checked-requires : goal.fill_checked-requires
fill_checked-requires c =
    let a = c.args in
    let lent = work_columns_in a.prev_lower_freq.now a.next_lower_freq.now a.table.now a.gaps.now a.gap_segments.now in
    let sound = subst (λ (j : Job). refusal_of j (rooms_of lent) ≡ no_refusal) (sym c.job.view_is) c.requires in
    let n = c.count-blocks in
    let z = c.from-scales in
    let j = c.job.inside in (
      cut_sound _ j.freq.now j.first.now j.end.now refl lent sound n.result n.ensures z.result z.ensures,
      cut_checked _ j.freq.now j.first.now j.end.now refl lent sound n.result n.ensures z.result z.ensures,
      cut_bits _ j.freq.now j.first.now j.end.now refl lent sound n.result n.ensures z.result z.ensures,
      cut_roomy _ j.freq.now j.first.now j.end.now refl lent sound n.result n.ensures z.result z.ensures,
    )

pub returns-clause-value : goal.returns-clause-value
returns-clause-value c =
    let a = c.args in
    let lent = work_columns_in a.prev_lower_freq.now a.next_lower_freq.now a.table.now a.gaps.now a.gap_segments.now in
    let sound = subst (λ (j : Job). refusal_of j (rooms_of lent) ≡ no_refusal) (sym c.job.view_is) c.requires in
    let n = c.count-blocks in
    let z = c.from-scales in
    let j = c.job.inside in
    let f = c.fill_checked.new in
    let after = work_columns_in f.prev_lower_freq f.next_lower_freq f.table f.gaps f.gap_segments in
    subst (λ (j : Job). IsFilled j lent after c.fill_checked.result) c.job.view_is
    (accepted_filled _ j.freq.now j.first.now j.end.now refl lent sound n.result n.ensures z.result z.ensures after c.fill_checked.result
    c.fill_checked.ensures.value)

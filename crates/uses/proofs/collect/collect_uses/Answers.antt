-- `collect_uses` fills the columns with the use table
use mathlib.Core.Path.{◌≡◌, refl, sym, ap, ap₂, ◌∙◌, subst}
use Prim.Native.Nat.{ℕ, ◌+◌, ◌-◌}
use native.Mathlib.Omega.{arith}
use lib.ListN.{length, get_or}
use Rattle.links.specs.Blocks.{blocks_of}
use Rattle.jobs.specs.Rows.{no_segment}
use Rattle.jobs.specs.Checked.{plain_segment}
use Rattle.use_rows.specs.declared.row.SplitUse.{SplitUse}
use Rattle.use_rows.specs.Uses.{source_of, no_weights, start_inst, end_inst, first_inst, last_inst, use_table_of}
use Rattle.use_rows.specs.UseColumns.{Holds}
use Rattle.use_rows.specs.Lent.{columns_in}
use Rattle.use_lists.specs.Collecting.{Collecting, counted_lists, RowsLeft, StoredUses, with_last}
use Rattle.uses.specs.FirstLast.{Starting, Ending}
use Rattle.use_rows.proofs.Rows.{inside_less}
use Rattle.uses.proofs.CheckedJob.{job_starting, job_ending}
use Rattle.uses.proofs.UseSteps.{job_listings}
use Rattle.uses.proofs.Held.{last_room, last_held}
use Rattle.uses.proofs.collect.collect_uses.Goals as goal

pub collect_lists-done-requires : goal.collect_lists-done-requires
collect_lists-done-requires c =
    let a = c.args in
    let job = source_of a.uses.now a.segments.now a.code.now a.scales (blocks_of a.freq.now a.block_first.now a.block_end.now) in
    let lent = columns_in a.table.now in
    record {
      checked = job_listings job c.requires.checked a.freq.now a.block_first.now a.block_end.now c.requires.sound_columns refl;
      room = inside_less (0 + length job.uses) (length job.uses + 1) lent (omega arith) c.requires.room;
      near_value = refl;
    }

pub last_inst-last-requires : goal.last_inst-last-requires
last_inst-last-requires c =
    let a = c.args in
    let job = source_of a.uses.now a.segments.now a.code.now a.scales (blocks_of a.freq.now a.block_first.now a.block_end.now) in
    let tail : plain_segment c.live_at-last_segment.result ≡ get_or a.segments.now (length a.segments.now - 1) no_segment =
    ap plain_segment c.live_at-last_segment.ensures ∙ ap (λ (n : ℕ). get_or a.segments.now (n - 1) no_segment) c.len.ensures in
    subst (Ending job.uses) (sym tail) (job_ending job c.requires.checked)

pub first_inst-requires : goal.first_inst-requires
first_inst-requires c =
    let a = c.args in
    let job = source_of a.uses.now a.segments.now a.code.now a.scales (blocks_of a.freq.now a.block_first.now a.block_end.now) in
    subst Starting (sym (ap plain_segment c.live_at-first_segment.ensures)) (job_starting job c.requires.checked)

pub put_last-requires : goal.put_last-requires
unfolding first_inst
put_last-requires c =
    let a = c.args in
    let job = source_of a.uses.now a.segments.now a.code.now a.scales (blocks_of a.freq.now a.block_first.now a.block_end.now) in
    let lent = columns_in a.table.now in
    let collected : SplitUse → Collecting = λ u. counted_lists job.uses a.freq.now a.block_end.now a.segments.now a.code.now
    a.scales (length a.segments.now) (record { cols = lent; rows = 0; latest = u }) in
    let latest : c.no_weights-latest.result ≡ no_weights (first_inst a.segments.now) = c.no_weights-latest.ensures
    ∙ ap no_weights (c.first_inst.ensures ∙ ap start_inst (ap plain_segment c.live_at-first_segment.ensures)) in
    subst (RowsLeft 1) (sym (c.collect_lists-done.ensures.value ∙ ap collected latest))
    (last_room job c.requires.checked a.freq.now a.block_first.now a.block_end.now c.requires.sound_columns refl lent c.requires.room)

pub returns-clause-value : goal.returns-clause-value
unfolding first_inst last_inst
returns-clause-value c =
    let a = c.args in
    let job = source_of a.uses.now a.segments.now a.code.now a.scales (blocks_of a.freq.now a.block_first.now a.block_end.now) in
    let lent = columns_in a.table.now in
    let collected : SplitUse → Collecting = λ u. counted_lists job.uses a.freq.now a.block_end.now a.segments.now a.code.now
    a.scales (length a.segments.now) (record { cols = lent; rows = 0; latest = u }) in
    let latest : c.no_weights-latest.result ≡ no_weights (first_inst a.segments.now) = c.no_weights-latest.ensures
    ∙ ap no_weights (c.first_inst.ensures ∙ ap start_inst (ap plain_segment c.live_at-first_segment.ensures)) in
    let tail : plain_segment c.live_at-last_segment.result ≡ get_or a.segments.now (length a.segments.now - 1) no_segment =
    ap plain_segment c.live_at-last_segment.ensures ∙ ap (λ (n : ℕ). get_or a.segments.now (n - 1) no_segment) c.len.ensures in
    subst (λ (x : StoredUses). Holds (use_table_of job) lent x.cols x.rows)
    (sym (c.put_last.ensures.value ∙ ap₂ with_last (c.collect_lists-done.ensures.value ∙ ap collected latest) (c.last_inst-last.ensures ∙ ap (end_inst job.uses) tail)))
    (last_held job c.requires.checked a.freq.now a.block_first.now a.block_end.now c.requires.sound_columns refl lent c.requires.room)

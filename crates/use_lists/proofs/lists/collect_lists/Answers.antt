-- `collect_lists` adds the lists one by one, in order
use mathlib.Core.Path.{refl, ap, ◌∙◌}
use Prim.Native.Nat.{ℕ, ◌-◌}
use native.Mathlib.Nat.{lt_of_lt_of_le, le_of_eq}
use lib.ListN.{length, get_or}
use Rattle.jobs.specs.Rows.{no_segment}
use Rattle.jobs.specs.Checked.{plain_segment}
use Rattle.jobs.specs.declared.rows.Segment.{Segment}
use Rattle.jobs.proofs.Walk.{before_next}
use Rattle.use_rows.specs.Lent.{columns_in}
use Rattle.use_lists.specs.Steps.{number_before, block_in_use}
use Rattle.use_lists.specs.Collecting.{collecting, counted_list}
use Rattle.use_lists.proofs.ListWalk.{along_all_first, along_all_next}
use Rattle.use_lists.proofs.lists.collect_lists.Goals as goal

pub loop-i-init : goal.loop-i-init
loop-i-init c = (refl, along_all_first _ _ _ _ _ _ _ c.requires.room, c.requires.near_value)

pub loop-i-preserved : goal.loop-i-preserved
loop-i-preserved c =
    let in_list = lt_of_lt_of_le c.loop-i-test.true (le_of_eq c.len-i-end.ensures) in
    let row = ap plain_segment c.live_at-s.ensures in
    let a = c.args in
    let k = c.loop-i in
    let block = block_in_use a.block_end.now (length a.freq.now) a.uses.now in
    let s = c.live_at-s.result in
    let now = collecting (columns_in k.table) k.done in (
      c.collect_list-done.ensures.same ∙ k.invariant.0,
      along_all_next a.uses.now a.freq.now a.block_end.now a.segments.now a.code.now a.scales c.requires.checked.lists _ k.i now _ in_list k.invariant.1
          (c.collect_list-done.ensures.value.0
          ∙ ap (λ (x : ℕ). counted_list a.uses.now a.freq.now a.block_end.now (plain_segment s) x a.scales (s.end_use - s.first_use) now) c.cell-c.ensures
          ∙ ap (λ (s : Segment). counted_list a.uses.now a.freq.now a.block_end.now s (get_or a.code.now s.value 0) a.scales (s.end_use - s.first_use) now) row),
      c.collect_list-done.ensures.value.1 ∙ ap (λ (s : Segment). number_before block s.end_use) (row ∙ before_next a.segments.now no_segment k.i),
    )

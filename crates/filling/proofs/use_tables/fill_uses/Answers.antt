-- `fill_uses` prepares the links, collects the use table and finds its best use
use mathlib.Core.Path.{sym, subst}
use lib.ListN.{length}
use Rattle.links.specs.Blocks.{blocks_of}
use Rattle.links.proofs.Columns.{frequencies_of_sound}
use Rattle.use_rows.specs.Uses.{source_of, use_table_of, AllWeights}
use Rattle.uses.proofs.UseTable.{use_table_weights, held_mains}
use Rattle.filling.proofs.UseFilling.{scales_of}
use Rattle.filling.proofs.use_tables.fill_uses.Goals as goal

pub prepare-requires : goal.prepare-requires
prepare-requires c =
    let a = c.args in (
      frequencies_of_sound a.freq.now a.first.now a.end.now c.requires.checked.0 (length a.prev_lower_freq.now) c.requires.room.0,
      frequencies_of_sound a.freq.now a.first.now a.end.now c.requires.checked.0 (length a.next_lower_freq.now) c.requires.room.1,
    )

pub best_of_first-best-requires-clause-weights : goal.best_of_first-best-requires-clause-weights
best_of_first-best-requires-clause-weights c =
    let a = c.args in
    let source = source_of a.uses.now a.segments.now a.code.now a.scales (blocks_of a.freq.now a.first.now a.end.now) in
    subst AllWeights (sym (held_mains (use_table_of source) _ _ _ c.collect_uses-rows.ensures.value)) (use_table_weights source (scales_of a.scales c.requires.checked.2))

-- `write::write_tables` meets its contract: where all lines fit, each table's stand behind those of the table before
use Prim.Native.Nat.{◌+◌, ◌*◌, ◌≤◌}
use mathlib.Core.Bool.{not}
use mathlib.Core.Path.{refl, ap}
use lib.ListN.{length}
use Rattle.filling.specs.SourceTables.{work_columns}
use Rattle.table_text.specs.TablesText.{bytes_of_rows}
use Rattle.table_text.proofs.TextLaws.{room_short, room_enough, text_short, text_put}
use Rattle.table_text.proofs.write.write_tables.Goals as goal

pub returns-then-not-tables_fit : goal.returns-then-not-tables_fit
returns-then-not-tables_fit c =
    let a = c.args in
    text_short (work_columns a.prev.now a.next.now a.inst.now a.weight.now a.left.now a.right.now a.gap_from.now a.gap_to.now a.gap_weight.now a.live.now a.freq.now a.gap_block.now a.segment_from.now a.segment_to.now a.segment_value.now a.segment_gap.now) a.rows a.out.now (room_short _ _ c.tables_fit.ensures (ap not c.if-not-tables_fit.true))

pub returns : goal.returns
returns c =
    let fits : bytes_of_rows c.args.rows ≤ length c.args.out.now = room_enough _ _ c.tables_fit.ensures (ap not c.if-not-tables_fit.false) in
    let a = c.args in
    let r = a.rows in
    text_put (work_columns a.prev.now a.next.now a.inst.now a.weight.now a.left.now a.right.now a.gap_from.now a.gap_to.now a.gap_weight.now a.live.now a.freq.now a.gap_block.now a.segment_from.now a.segment_to.now a.segment_value.now a.segment_gap.now) r a.out.now
    c.put_rows.new.out c.put_rows-2.new.out c.put_rows-3.new.out c.put_rows-4.new.out
    (24 * r.links) (24 * r.links + 46 * r.uses) (24 * r.links + 46 * r.uses + 68 * r.gaps)
    (24 * r.links + 46 * r.uses + 68 * r.gaps + 46 * r.gap_segments)
    refl refl refl refl fits
    c.put_rows.ensures c.put_rows-2.ensures c.put_rows-3.ensures c.put_rows-4.ensures

-- `fill::fill_kind` meets its contract. The invariant: the columns left, stored into the cells as they are, give what all give.
-- Assumes nothing.
use native.Mathlib.Omega.{arith}
use Prim.Native.Nat.{◌+◌, ◌*◌, ◌-◌, ◌≤◌}
use mathlib.Core.Path.{refl, subst⁻¹}
use lib.ListN.{length}
use Rattle.sheet.specs.Kinds.{cell_count}
use Rattle.sheet.specs.Lines.{Readable}
use Rattle.sheet.proofs.KindLaws.{fields_few, width_most, cells_small}
use Rattle.sheet.proofs.Lists.{part_long}
use Rattle.sheet.proofs.FillLaws.{column_readable, column_fits, column_stored, column_step, column_end}
use Rattle.sheet.proofs.fill.fill_kind.Goals as goal

-- the column lies in the cells
fits_here : (c : goal.In-loop-c) → c.base_of-base.result + c.loop-c.c * c.limit_of-most.result + c.args.count ≤ cell_count
fits_here c = column_fits _ _ _ _ _ c.loop-c.invariant.0 c.loop-c.c c.loop-c-test.true c.args.text.now c.args.at c.args.count c.requires.k_lt_kinds.2

pub overflow_mul-from : goal.overflow_mul-from
overflow_mul-from c = omega (arith, fits_here c, cells_small)

pub overflow_add-from : goal.overflow_add-from
overflow_add-from c = omega (arith, fits_here c, cells_small)

pub overflow_add-to : goal.overflow_add-to
overflow_add-to c = omega (arith, fits_here c, cells_small)

pub offset_bounds-cells-from : goal.offset_bounds-cells-from
offset_bounds-cells-from c = omega (arith, fits_here c, cells_small)

pub slice_bounds-fill_column-end : goal.slice_bounds-fill_column-end
slice_bounds-fill_column-end c = omega (arith, fits_here c, c.loop-c.auto.cells, c.requires.k_lt_kinds.3)

pub overflow_mul-c : goal.overflow_mul-c
overflow_mul-c c = omega (arith, c.fields_of-n.ensures, fields_few c.args.k)

pub overflow_add-at-in-loop-c : goal.overflow_add-at-in-loop-c
overflow_add-at-in-loop-c c = omega (arith, c.requires.k_lt_kinds.1, c.well_formed.0.1, c.fields_of-n.ensures, fields_few c.args.k)

pub fill_column-requires : goal.fill_column-requires
fill_column-requires c =
    let a = c.args in
    let l = c.loop-c in
    let t = c.loop-c-test.true in
    let fits = column_fits _ _ _ _ _ l.invariant.0 l.c t a.text.now a.at a.count c.requires.k_lt_kinds.2 in
    let from = c.base_of-base.result + l.c * c.limit_of-most.result in
    let long = part_long l.cells from (from + a.count - from) a.count (omega arith) (omega (arith, fits, l.auto.cells, c.requires.k_lt_kinds.3)) in
    record {
      readable = subst⁻¹ (Readable a.text.now (a.at + 1 + 11 * l.c) c.width_of-w.result) long
          (column_readable _ _ _ _ _ l.invariant.0 l.c t a.text.now a.at a.count c.requires.are_lines);
      step_le_widest = omega (arith, c.width_of-w.ensures, width_most a.k);
    }

pub loop-c-preserved : goal.loop-c-preserved
loop-c-preserved c =
    let a = c.args in
    let l = c.loop-c in
    let t = c.loop-c-test.true in
    let f = c.fill_column in
    let fits = column_fits _ _ _ _ _ l.invariant.0 l.c t a.text.now a.at a.count c.requires.k_lt_kinds.2 in
    let from = c.base_of-base.result + l.c * c.limit_of-most.result in
    let inside : from + a.count ≤ length l.cells = omega (arith, fits, l.auto.cells, c.requires.k_lt_kinds.3) in
    let long = part_long l.cells from (from + a.count - from) a.count (omega arith) inside in (
      l.invariant.0,
      column_step a.k l.c _ l.cells _ _ (omega (arith, c.fields_of-n.ensures, t))
          (column_stored _ _ _ _ _ l.invariant.0 l.c t a.text.now a.at a.count l.cells f.new.column _ _ _ refl (omega arith) long
          inside f.auto.column f.ensures) l.invariant.1,
    )

pub returns : goal.returns
returns c =
    let l = c.loop-c in
    column_end c.args.k l.c _ l.cells _ (omega (arith, c.fields_of-n.ensures, c.loop-c-test.false)) l.invariant.1

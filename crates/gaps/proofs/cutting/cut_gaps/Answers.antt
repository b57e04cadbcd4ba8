-- `cut_gaps` stores the gaps on the left, the own one and those on the right
use mathlib.Core.Path.{sym, ap, ◌∙◌, subst}
use Prim.Native.Nat.{◌-◌}
use native.Mathlib.Omega.{arith}
use lib.ListN.{length}
use Rattle.links.specs.Blocks.{Ends}
use Rattle.links.specs.declared.lower.Side.TheVariants.{Previous, Next}
use Rattle.use_rows.specs.declared.row.SplitUse.{SplitUse}
use Rattle.gaps.specs.Lent.{cut_in}
use Rattle.gaps.specs.Cutting.{own_in}
use Rattle.gaps.proofs.InColumns.{own_ends, in_order, side_alike, side_leads}
use Rattle.gaps.proofs.Collected.{initial_is, left_rows, own_rows, own_below, right_rows, all_stored}
use Rattle.gaps.proofs.cutting.cut_gaps.Goals as goal

pub cut_side-initial-requires : goal.cut_side-initial-requires
cut_side-initial-requires c =
    let a = c.args in
    let s = c.requires.cuttable in record {
      leads = (
        side_leads a.freq.now a.first.now a.end.now a.prev_lower_freq.now a.next_lower_freq.now a.uses.now a.best s
            Previous a.prev_lower_freq.now s.left_links,
        side_alike a.freq.now a.first.now a.end.now a.prev_lower_freq.now a.next_lower_freq.now a.uses.now a.best s
            Previous a.prev_lower_freq.now s.left_links,
      );
      in_order = in_order a.freq.now a.first.now a.end.now a.prev_lower_freq.now a.next_lower_freq.now a.uses.now a.best s
          0 a.best s.best_inside;
      room = left_rows a.freq.now a.first.now a.end.now a.prev_lower_freq.now a.next_lower_freq.now a.uses.now a.best s
          (cut_in a.gaps.now) c.requires.room;
    }

pub put_own-requires : goal.put_own-requires
put_own-requires c =
    let a = c.args in
    let s = c.requires.cuttable in (
      subst (λ (u : SplitUse). Ends a.end.now (length a.freq.now) u.inst.0) (sym c.at-u.ensures)
          (own_ends a.freq.now a.first.now a.end.now a.prev_lower_freq.now a.next_lower_freq.now a.uses.now a.best s),
      own_rows a.freq.now a.first.now a.end.now a.prev_lower_freq.now a.next_lower_freq.now a.uses.now a.best s
          (cut_in a.gaps.now) c.requires.room c.cut_side-initial.ensures.value,
    )

pub overflow_add-initial : goal.overflow_add-initial
overflow_add-initial c =
    let a = c.args in
    let b = own_below a.freq.now a.first.now a.end.now a.prev_lower_freq.now a.next_lower_freq.now a.uses.now a.best c.requires.cuttable
    (cut_in a.gaps.now) c.requires.room c.cut_side-initial.ensures.value in
    omega (arith, b)

pub cut_side-rows-requires : goal.cut_side-rows-requires
cut_side-rows-requires c =
    let a = c.args in
    let s = c.requires.cuttable in
    let b = s.best_inside in record {
      leads = (
        side_leads a.freq.now a.first.now a.end.now a.prev_lower_freq.now a.next_lower_freq.now a.uses.now a.best s
            Next a.next_lower_freq.now s.right_links,
        side_alike a.freq.now a.first.now a.end.now a.prev_lower_freq.now a.next_lower_freq.now a.uses.now a.best s
            Next a.next_lower_freq.now s.right_links,
      );
      in_order = rw c.len.ensures (in_order a.freq.now a.first.now a.end.now a.prev_lower_freq.now a.next_lower_freq.now a.uses.now a.best s
          a.best (length a.uses.now.insts - 1) (omega (arith, b)));
      room = rw c.len.ensures (right_rows a.freq.now a.first.now a.end.now a.prev_lower_freq.now a.next_lower_freq.now a.uses.now a.best s
          (cut_in a.gaps.now) c.requires.room c.cut_side-initial.ensures.value
          (ap (own_in a.freq.now a.end.now) c.at-u.ensures) c.put_own.ensures.value);
    }

pub returns-clause-value : goal.returns-clause-value
returns-clause-value c =
    let a = c.args in
    let s = c.requires.cuttable in
    let stored = all_stored a.freq.now a.first.now a.end.now a.prev_lower_freq.now a.next_lower_freq.now a.uses.now a.best s
    (cut_in a.gaps.now) c.requires.room c.cut_side-initial.ensures.value
    (ap (own_in a.freq.now a.end.now) c.at-u.ensures) c.put_own.ensures.value (rw c.len.ensures at c.cut_side-rows.ensures.value) in (
      stored.0,
      stored.1,
      c.cut_side-initial.ensures.value.0
          ∙ initial_is a.freq.now a.first.now a.end.now a.prev_lower_freq.now a.next_lower_freq.now a.uses.now a.best s,
    )

-- `fill::fill_all` meets its contract. The invariant: the kinds left, stored into the cells as they are, give the whole sheet.
-- Assumes nothing.
use native.Mathlib.Omega.{arith}
use Prim.Native.Nat.{◌+◌, ◌*◌, ◌≤◌}
use lib.ListN.{length, get_or}
use Rattle.sheet.proofs.FillLaws.{left_all, kind_lines, kind_count, kind_room, left_less, left_none}
use Rattle.sheet.proofs.fill.fill_all.Goals as goal

-- the lines of this turn's kind lie inside the text
room_here : (c : goal.After-width_of) →
    let l = c.loop-k in
    l.at + get_or c.args.counts l.k 0 * c.width_of.result ≤ length c.args.text.now
room_here c =
    let l = c.loop-k in
    kind_room _ c.requires.0 c.args.counts c.requires.2 _ _ _ l.k c.loop-k-test.true l.invariant
    c.width_of.result c.width_of.ensures

pub loop-k-init : goal.loop-k-init
loop-k-init c = left_all c.args.text.now c.requires.0 c.args.cells.now

pub fill_kind-requires : goal.fill_kind-requires
fill_kind-requires c =
    let l = c.loop-k in
    let t = c.loop-k-test.true in
    record {
      k_lt_kinds = (t, l.invariant.inside, kind_count _ c.requires.0 c.args.counts c.requires.2 _ _ _ l.k t l.invariant, omega (arith, l.invariant.same, c.requires.1));
      are_lines = kind_lines _ c.requires.0 c.args.counts c.requires.2 _ _ _ l.k t l.invariant;
    }

pub overflow_mul-at : goal.overflow_mul-at
overflow_mul-at c = omega (arith, room_here c)

pub overflow_add-at : goal.overflow_add-at
overflow_add-at c = omega (arith, room_here c)

pub loop-k-preserved : goal.loop-k-preserved
loop-k-preserved c =
    let l = c.loop-k in
    let t = c.loop-k-test.true in
    let f = c.fill_kind in
    left_less _ c.requires.0 c.args.counts c.requires.2 _ _ _ l.k t l.invariant f.new.cells c.width_of.result
    c.width_of.ensures f.auto.cells f.ensures

pub returns : goal.returns
returns c = let l = c.loop-k in left_none _ _ _ _ l.k c.loop-k-test.false l.invariant

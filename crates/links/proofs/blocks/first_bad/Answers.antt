-- `first_bad` finds the first bad block: `start` is where block i has to start, and no block before i is bad
use Prim.Native.Nat.{◌<◌}
use native.Mathlib.Nat.{lt_of_lt_of_le}
use native.Mathlib.Omega.{arith}
use borrow.Author.Count.{below_more}
use lib.ListN.{length}
use Rattle.links.specs.Blocks.{blocks_of}
use Rattle.columns.proofs.Firsts.{first_found, first_none}
use Rattle.links.proofs.Rows.{bad_at, next_start}
use Rattle.links.proofs.blocks.first_bad.Goals as goal

pub returns-then-is_bad : goal.returns-then-is_bad
returns-then-is_bad c =
    let a = c.args in
    let l = c.loop-i in
    let row : l.i < length (blocks_of a.freq.now a.first.now a.end.now) = omega arith in
    let bad = bad_at a.freq.now a.first.now a.end.now l.i l.start row l.invariant.1 in
    first_found _ _ l.i c.loop-i-test.true l.invariant.2 (cc)

pub loop-i-preserved : goal.loop-i-preserved
loop-i-preserved c =
    let a = c.args in
    let l = c.loop-i in
    let row : l.i < length (blocks_of a.freq.now a.first.now a.end.now) = omega arith in
    let bad = bad_at a.freq.now a.first.now a.end.now l.i l.start row l.invariant.1 in
    (omega arith, next_start a.freq.now a.first.now a.end.now l.i row, below_more _ _ l.invariant.2 (cc))

pub returns : goal.returns
returns c = first_none _ _ (λ k h. c.loop-i.invariant.2 k (lt_of_lt_of_le h c.loop-i-test.false))

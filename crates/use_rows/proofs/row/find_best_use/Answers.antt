-- `find_best_use` goes through the main weights with the largest so far and its first row
use mathlib.Core.Path.{◌≡◌, sym, ap, ◌∙◌}
use native.Mathlib.Omega.{arith}
use lib.Ieee.{lt, of_bits, nan}
use lib.ListN.{length, get_or}
use Rattle.numbers.specs.Weight.{zero_weight}
use Rattle.columns.proofs.Tables.{row_any}
use Rattle.use_rows.proofs.Largest.{largest_none, largest_as, largest_new, largest_same, best_short, best_found, best_none}
use Rattle.use_rows.proofs.row.find_best_use.Goals as goal
use Rattle.use_rows.proofs.row.find_best_use.Goals.{else-top-w, then-top-w}

pub returns-then-weight-le1 : goal.returns-then-weight-le1
returns-then-weight-le1 c = best_short _ c.if-weight-le1.true

pub loop-i-init : goal.loop-i-init
unfolding of_bits
loop-i-init c = largest_none _ 0

pub loop-i-preserved : goal.loop-i-preserved
loop-i-preserved c =
    let ws = c.args.weight.now in
    let l = c.loop-i in
    let inside = c.loop-i-test.true in
    let read : get_or ws l.i nan ≡ get_or ws l.i zero_weight = row_any ws nan zero_weight l.i inside in
    let same = ap (lt l.top) (sym read) in
    elim c.if-top-w.branch [
      | then-top-w w ↦ largest_as (largest_new ws c.requires l.i l.best l.top inside l.invariant (same ∙ w.if-top-w.true)) w.best-is (w.top-is ∙ read)
      | else-top-w w ↦ largest_as (largest_same ws c.requires l.i l.best l.top inside l.invariant (same ∙ w.if-top-w.false)) w.best-is w.top-is
    ]

pub returns-then-top : goal.returns-then-top
unfolding of_bits
returns-then-top c =
    let all : c.loop-i.i ≡ length c.args.weight.now = omega arith in
    best_found _ c.requires c.loop-i.best c.loop-i.top c.if-weight-le1.false (rw (← all) c.loop-i.invariant) c.if-top.true

pub returns : goal.returns
unfolding of_bits
returns c =
    let all : c.loop-i.i ≡ length c.args.weight.now = omega arith in
    best_none _ c.requires c.loop-i.best c.loop-i.top c.if-weight-le1.false (rw (← all) c.loop-i.invariant) c.if-top.false

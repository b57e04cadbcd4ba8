-- `check::check_text` meets its contract. The invariant: the verdict is that of the lines left, below those passed.
-- Assumes nothing.
use native.Mathlib.Omega.{arith}
use Prim.Native.Nat.{ℕ, ◌<◌}
use mathlib.Core.Path.{◌≡◌, sym, ◌∙◌}
use mathlib.Core.List.{List}
use lib.ListN.{length}
use Rattle.std.specs.Prelude.{Option, Some}
use Rattle.sheet.specs.declared.check.Line.{Line}
use Rattle.sheet.specs.Next.{line_to, next_at}
use Rattle.sheet.specs.Kinds.{kinds}
use Rattle.sheet.proofs.CheckLaws.{Upto, upto_none, upto_few, upto_end, Good, next_good, next_bad, next_many, next_pass, good_kind, good_moved}
use Rattle.sheet.proofs.CheckLaws.{refused_checked, upto_missing}
use Rattle.sheet.proofs.check.check_text.Goals as goal

-- the line that was found, its kind, and where it ends
module _ (text counts : List ℕ) (lines latest at : ℕ) (u : Upto text counts lines latest at) (h : at < length text) (next : Option Line) (k e : ℕ) (is : next ≡ Some (line_to k e))
    (said : next ≡ next_at text at lines latest) where
  good_there : Good text lines latest at k e
  good_there = next_good text counts lines latest at u h k e (sym is ∙ said)

  kind_there : k < kinds
  kind_there = good_kind text counts lines latest at u h k e good_there

  moved_there : at < e
  moved_there = good_moved text lines latest at k e good_there

pub loop-at-init : goal.loop-at-init
loop-at-init c = upto_none c.args.text.now

pub overflow_add-result : goal.overflow_add-result
overflow_add-result c =
    let l = c.loop-at in
    omega (arith, upto_few _ _ _ _ _ l.invariant)

pub returns-in_default : goal.returns-in_default
returns-in_default c =
    let l = c.loop-at in
    refused_checked _ 14 _
    (next_bad _ _ _ _ _ l.invariant c.loop-at-test.true
    (sym c.in_default.is ∙ c.next_line.ensures))

pub offset_bounds-counts-kind : goal.offset_bounds-counts-kind
offset_bounds-counts-kind c = omega (arith, kind_there _ _ _ _ _ c.loop-at.invariant c.loop-at-test.true _ _ _ c.in-Some.is c.next_line.ensures)

pub bounds-counts-kind : goal.bounds-counts-kind
bounds-counts-kind c = kind_there _ _ _ _ _ c.loop-at.invariant c.loop-at-test.true _ _ _ c.in-Some.is c.next_line.ensures

pub overflow_add-result-then-rows-limit_of : goal.overflow_add-result-then-rows-limit_of
overflow_add-result-then-rows-limit_of c =
    let l = c.loop-at in
    omega (arith, upto_few _ _ _ _ _ l.invariant)

pub returns-then-rows-limit_of : goal.returns-then-rows-limit_of
returns-then-rows-limit_of c =
    let l = c.loop-at in
    refused_checked _ 15 _
    (next_many _ _ _ _ _ l.invariant c.loop-at-test.true _ _ (good_there _ _ _ _ _ c.loop-at.invariant c.loop-at-test.true _ _ _ c.in-Some.is c.next_line.ensures)
    (omega (arith, c.limit_of.ensures, c.if-rows-limit_of.true)))

pub offset_bounds-counts-kind-in-loop-at : goal.offset_bounds-counts-kind-in-loop-at
offset_bounds-counts-kind-in-loop-at c = omega (arith, kind_there _ _ _ _ _ c.loop-at.invariant c.loop-at-test.true _ _ _ c.in-Some.is c.next_line.ensures)

pub bounds-counts-kind-in-loop-at : goal.bounds-counts-kind-in-loop-at
bounds-counts-kind-in-loop-at c = kind_there _ _ _ _ _ c.loop-at.invariant c.loop-at-test.true _ _ _ c.in-Some.is c.next_line.ensures

pub overflow_add-lines : goal.overflow_add-lines
overflow_add-lines c =
    let l = c.loop-at in
    omega (arith, upto_few _ _ _ _ _ l.invariant)

pub loop-at-smaller : goal.loop-at-smaller
loop-at-smaller c = omega (arith, moved_there _ _ _ _ _ c.loop-at.invariant c.loop-at-test.true _ _ _ c.in-Some.is c.next_line.ensures)

pub loop-at-preserved : goal.loop-at-preserved
loop-at-preserved c =
    let l = c.loop-at in
    next_pass _ _ _ _ _ l.invariant c.loop-at-test.true _ _ (good_there _ _ _ _ _ c.loop-at.invariant c.loop-at-test.true _ _ _ c.in-Some.is c.next_line.ensures)
    (omega (arith, c.limit_of.ensures, c.if-rows-limit_of.false))

pub overflow_add-result-then-not-is_complete : goal.overflow_add-result-then-not-is_complete
overflow_add-result-then-not-is_complete c = omega (arith, upto_few _ _ _ _ _ c.loop-at.invariant)

pub returns-then-not-is_complete : goal.returns-then-not-is_complete
returns-then-not-is_complete c =
    let l = c.loop-at in
    refused_checked _ 14 _
    (upto_missing _ _ _ _ _ l.invariant c.loop-at-test.false (sym (c.if-not-is_complete.true) ∙ c.is_complete.ensures))

pub returns : goal.returns
returns c =
    let l = c.loop-at in
    upto_end _ _ _ _ _ l.invariant c.loop-at-test.false (sym (c.if-not-is_complete.false) ∙ c.is_complete.ensures)

-- `search_bad_use` finds the first bad use, list by list: no use of a list before i is bad
use mathlib.Core.Path.{◌∙◌}
use native.Mathlib.Nat.{lt_of_lt_of_le, le_of_eq, le_antisymm}
use Rattle.columns.proofs.Firsts.{first_none}
use Rattle.jobs.proofs.UseLists.{first_of_all, none_listed}
use Rattle.use_checks.proofs.lines.search_bad_use.Goals as goal

pub returns-then-bad-s : goal.returns-then-bad-s
returns-then-bad-s c =
    first_of_all _ _ c.requires _ _ c.loop-i.i (lt_of_lt_of_le c.loop-i-test.true (le_of_eq c.len-n.ensures)) c.first_bad_use_of-bad.result
    (rw (← c.at-s.ensures) c.first_bad_use_of-bad.ensures) c.loop-i.invariant (rw (← c.at-s.ensures) c.if-bad-s.true)

pub loop-i-preserved : goal.loop-i-preserved
loop-i-preserved c =
    none_listed _ _ c.requires c.args.limits c.args.uses.now c.loop-i.i (lt_of_lt_of_le c.loop-i-test.true (le_of_eq c.len-n.ensures)) c.first_bad_use_of-bad.result
    (rw (← c.at-s.ensures) c.first_bad_use_of-bad.ensures) c.loop-i.invariant (rw (← c.at-s.ensures) c.if-bad-s.false)

pub returns : goal.returns
returns c =
    let e = le_antisymm c.loop-i.auto.i-end c.loop-i-test.false ∙ c.len-n.ensures in
    c.len.ensures ∙ first_none _ _ (λ k h. c.loop-i.invariant k (rw (e, c.requires.all) h))

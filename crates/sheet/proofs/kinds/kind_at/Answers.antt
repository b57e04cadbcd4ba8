-- `kinds::kind_at` meets its contract: the table is the definition's.
-- Assumes nothing.
use mathlib.Core.Path.{sym}
use Rattle.sheet.specs.declared.kinds.Asked.TheVariants.{Any}
use Rattle.sheet.specs.Kinds.{kind, kind_table, kind_at}
use Rattle.sheet.proofs.KindLaws.{kind_past, either_default}
use Rattle.sheet.proofs.kinds.kind_at.Goals as goal

pub returns-then-k-ge-KINDS : goal.returns-then-k-ge-KINDS
returns-then-k-ge-KINDS c = sym (kind_past c.args.k c.if-k-ge-KINDS.true)

pub returns : goal.returns
unfolding kind_at
returns c = either_default kind_table _ (kind 0 0 0 Any) c.args.k c.if-k-ge-KINDS.false

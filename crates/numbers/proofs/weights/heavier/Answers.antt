-- `heavier` returns what its definition picks by the same comparison
use mathlib.Core.Path.{sym}
use Rattle.columns.proofs.Tests.{cond_true, cond_false}
use Rattle.numbers.proofs.weights.heavier.Goals as goal

pub returns-then-a-b : goal.returns-then-a-b
returns-then-a-b c = sym (cond_true c.args.b c.args.a c.if-a-b.true)

pub returns-else-a-b : goal.returns-else-a-b
returns-else-a-b c = sym (cond_false c.args.b c.args.a c.if-a-b.false)

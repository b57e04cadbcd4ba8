-- `value_from_bits` answers what its definition picks; bits within a limit are no NaN's
use mathlib.Core.Path.{sym, subst}
use Prim.Native.Nat.{ℕ, ◌≤◌, ◌<◌}
use native.Mathlib.Nat.{le_trans}
use borrow.Author.Tests.{le-leb, lt-leb}
use Rattle.numbers.specs.Weight.{value_from, limit_bits}
use Rattle.numbers.proofs.Bits.{bits_not_nan, limit_bound}
use Rattle.columns.proofs.Tests.{cond_true, cond_false}
use Rattle.numbers.proofs.weights.Limit.value_from_bits.Goals as goal

pub float_from_bits-result : goal.float_from_bits-result
float_from_bits-result c =
    bits_not_nan c.args.bits (le_trans (subst (λ (n : ℕ). c.args.bits ≤ n) c.bits.ensures c.if-bits.true) (limit_bound c.args.self))

pub returns-then-bits : goal.returns-then-bits
unfolding value_from
returns-then-bits c =
    sym (cond_true _ _ (le-leb c.args.bits (limit_bits c.args.self) (subst (λ (n : ℕ). c.args.bits ≤ n) c.bits.ensures c.if-bits.true)))

pub returns : goal.returns
unfolding value_from
returns c = sym (cond_false _ _ (lt-leb c.args.bits (limit_bits c.args.self) (subst (λ (n : ℕ). n < c.args.bits) c.bits.ensures c.if-bits.false)))

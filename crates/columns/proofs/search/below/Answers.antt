-- `below` answers the carry of a difference
use mathlib.Core.Path.{◌≡◌, sym, ap, ◌∙◌}
use mathlib.Core.Logic.{⊎_elim}
use mathlib.Core.Bool.{Bool, cond}
use Prim.Native.Nat.{ℕ, ◌+◌, ◌-◌, ◌/◌, ◌≤◌, ◌<◌}
use native.Mathlib.Omega.{arith}
use borrow.Author.Tests.{lt-ltb, le-ltb}
use lib.Dec.{ltb}
use Rattle.columns.proofs.Firsts.{split}
use Rattle.columns.proofs.search.below.Goals as goal

-- the difference reaches 2 ^ 63 exactly if n is below x
carry : (n x : ℕ) → n < 4294967296 → x < 4294967296 → (x + 9223372036854775807 - n) / 9223372036854775808 ≡ cond (ltb n x) 1 0
carry n x a b =
    ⊎_elim
    (λ (h : n < x). let one : (x + 9223372036854775807 - n) / 9223372036854775808 ≡ 1 = omega arith in one
    ∙ sym (ap (λ (t : Bool). cond t 1 0) (lt-ltb n x h)))
    (λ (h : x ≤ n). let none : (x + 9223372036854775807 - n) / 9223372036854775808 ≡ 0 = omega arith in none
    ∙ sym (ap (λ (t : Bool). cond t 1 0) (le-ltb n x h)))
    (split n x)

pub returns : goal.returns
returns c = carry c.args.n c.args.x (omega arith) (omega arith)

-- `first_from_ends` looks at the first and the last number before it searches: the column does not fall
use mathlib.Core.List.{List}
use Prim.Native.Nat.{ℕ, ◌-◌, ◌≤◌, ◌<◌}
use native.Mathlib.Nat.{le_refl, lt_of_le_of_lt}
use native.Mathlib.Omega.{arith}
use borrow.Author.Tests.{le-leb, lt-leb}
use lib.Dec.{leb}
use lib.ListN.{get_or}
use Rattle.columns.specs.First.{FirstIn, Rising}
use Rattle.columns.proofs.search.first_from_ends.Goals as goal

module _ (col : List ℕ) (lo hi x : ℕ) (order : lo ≤ hi) where
  -- the first number reaches x
  at_first : x ≤ get_or col lo 0 → FirstIn (λ (k : ℕ). leb x (get_or col k 0)) lo hi lo
  at_first h = record { from = le_refl lo; to = order; passed = λ k p q. absurd (omega (arith, p, q)); found = λ _. le-leb x (get_or col lo 0) h }

  -- no number does
  at_end : ((k : ℕ) → lo ≤ k → k < hi → get_or col k 0 < x) → FirstIn (λ (k : ℕ). leb x (get_or col k 0)) lo hi hi
  at_end h = record { from = order; to = le_refl hi; passed = λ k p q. lt-leb x (get_or col k 0) (h k p q); found = λ q. absurd (omega (arith, q)) }

  none_reaches : Rising col lo hi → get_or col (hi - 1) 0 < x → FirstIn (λ (k : ℕ). leb x (get_or col k 0)) lo hi hi
  none_reaches s h = at_end (λ k p q. lt_of_le_of_lt (s k (hi - 1) p (omega arith) (omega arith)) h)

pub returns-then-lo-hi : goal.returns-then-lo-hi
returns-then-lo-hi c =
    let o = c.requires.0 in (
      o,
      le_refl c.args.hi,
      λ _. at_end c.args.col.now c.args.lo c.args.hi c.args.x o
          (λ k p q. absurd (omega (arith, p, q, c.if-lo-hi.true))),
    )

pub returns-then-col-lo : goal.returns-then-col-lo
returns-then-col-lo c =
    let o =
    c.requires.0 in
    (le_refl c.args.lo, o, λ _. at_first c.args.col.now c.args.lo c.args.hi c.args.x o c.if-col-lo.true)

pub returns-then-col-hi : goal.returns-then-col-hi
returns-then-col-hi c =
    let o =
    c.requires.0 in
    (o, le_refl c.args.hi, λ s. none_reaches c.args.col.now c.args.lo c.args.hi c.args.x o s c.if-col-hi.true)

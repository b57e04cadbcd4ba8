-- `first_at_least` finds the first place: all before `base` are below x, and all from `base + size` on are not, since the column does
-- not fall
use mathlib.Core.Path.{◌≡◌, sym, ap, ◌∙◌, subst}
use mathlib.Core.Logic.{◌⊎◌, inl, inr, ⊎_elim}
use mathlib.Core.Bool.{Bool, true, cond}
use mathlib.Core.List.{List}
use Prim.Native.Nat.{ℕ, ◌+◌, ◌-◌, ◌*◌, ◌/◌, ◌≤◌, ◌<◌}
use native.Mathlib.Nat.{le_trans, lt_of_le_of_lt, mul-one, mul-zero, eq-or-lt_of_le}
use native.Mathlib.Omega.{arith}
use borrow.Author.Rules.{scaled_Fits}
use borrow.Author.Tests.{le-leb, lt-leb, lt-ltb, le-ltb}
use lib.Dec.{ltb, leb}
use lib.ListN.{length, get_or}
use Rattle.columns.specs.First.{FirstIn, Rising}
use Rattle.columns.proofs.Firsts.{split}
use Rattle.columns.proofs.search.first_at_least.Invariants.{Between}
use Rattle.columns.proofs.search.first_at_least.Goals as goal

-- a number is below x, or it is not
data Below (n x r : ℕ) : Type 0 where
  is : n < x → r ≡ 1 → Below n x r
  is_not : x ≤ n → r ≡ 0 → Below n x r

by_test : (n x r : ℕ) → r ≡ cond (ltb n x) 1 0 → Below n x r
by_test n x r e =
    ⊎_elim
    (λ (h : n < x). is h (e ∙ ap (λ (t : Bool). cond t 1 0) (lt-ltb n x h)))
    (λ (h : x ≤ n). is_not h (e ∙ ap (λ (t : Bool). cond t 1 0) (le-ltb n x h)))
    (split n x)

times : (h n x r : ℕ) → Below n x r → (h * r ≡ h) ⊎ (h * r ≡ 0)
times h n x r (is p e) = inl (ap (λ (y : ℕ). h * y) e ∙ mul-one h)
times h n x r (is_not p e) = inr (ap (λ (y : ℕ). h * y) e ∙ mul-zero h)

at_most : (h n x r : ℕ) → r ≡ cond (ltb n x) 1 0 → h * r ≤ h
at_most h n x r e = elim (times h n x r (by_test n x r e)) [ inl p ↦ omega (arith, p) | inr p ↦ omega (arith, p) ]

-- a step by half
halved : (col : List ℕ) (lo hi x base size r : ℕ) → Between col lo hi x base size → 1 < size
    → r ≡ cond (ltb (get_or col (base + size / 2) 0) x) 1 0 → Between col lo hi x (base + size / 2 * r) (size - size / 2)
halved col lo hi x base size r b h e = by (by_test (get_or col (base + size / 2) 0) x r e)
  where
    by : Below (get_or col (base + size / 2) 0) x r → Between col lo hi x (base + size / 2 * r) (size - size / 2)
    by (is p q) =
        let m : size / 2 * r ≡ size / 2 = ap (λ (y : ℕ). size / 2 * y) q ∙ mul-one (size / 2) in
        let t = b.to in
        let f = b.from in
        record {
          some = omega arith;
          from = omega arith;
          to = omega arith;
          passed = λ s k u v. lt_of_le_of_lt (s k (base + size / 2) u (omega arith) (omega arith)) p;
          reached = λ s k u v. b.reached s k (omega arith) v;
        }
    by (is_not p q) =
        let m : size / 2 * r ≡ 0 = ap (λ (y : ℕ). size / 2 * y) q ∙ mul-zero (size / 2) in
        let t = b.to in
        let f = b.from in
        record {
          some = omega arith;
          from = omega arith;
          to = omega arith;
          passed = λ s k u v. b.passed s k u (omega arith);
          reached = λ s k u v. le_trans p (s (base + size / 2) k (omega arith) (omega arith) v);
        }

-- before a place and the one behind it
upto : (k base r : ℕ) → k < base + r → r ≡ 1 → (k ≡ base) ⊎ (k < base)
upto k base r v q = eq-or-lt_of_le (omega (arith, v, q))

-- where a search ends
abbrev Found : List ℕ → ℕ → ℕ → ℕ → ℕ → Type 0
Found col lo hi x r = (lo ≤ r) × (r ≤ hi) × (Rising col lo hi → FirstIn (λ (k : ℕ). leb x (get_or col k 0)) lo hi r)

-- one place is left
ended : (col : List ℕ) (lo hi x base size r : ℕ) → Between col lo hi x base size → size ≤ 1 →
    r ≡ cond (ltb (get_or col base 0) x) 1 0 → Found col lo hi x (base + r)
ended col lo hi x base size r b h e = by (by_test (get_or col base 0) x r e)
  where
    by : Below (get_or col base 0) x r → Found col lo hi x (base + r)
    by (is p q) =
        let n = b.some in
        let t = b.to in
        let f = b.from in (
          omega arith,
          omega arith,
          λ s. record {
            from = omega arith;
            to = omega arith;
            passed =
                λ k u v. lt-leb x (get_or col k 0)
                (elim (upto k base r v q) [ inl w ↦ subst (λ (y : ℕ). get_or col y 0 < x) (sym w) p | inr w ↦ b.passed s k u w ]);
            found = λ u. le-leb x (get_or col (base + r) 0) (b.reached s (base + r) (omega arith) u);
          },
        )
    by (is_not p q) =
        let n = b.some in
        let t = b.to in
        let f = b.from in (
          omega arith,
          omega arith,
          λ s. record {
            from = omega arith;
            to = omega arith;
            passed = λ k u v. lt-leb x (get_or col k 0) (b.passed s k u (omega arith));
            found = λ u. subst (λ (y : ℕ). leb x (get_or col y 0) ≡ true) (omega arith) (le-leb x (get_or col base 0) p);
          },
        )

pub returns-then-lo-hi : goal.returns-then-lo-hi
returns-then-lo-hi c =
    let o = c.requires.0 in
    (o, omega arith, λ s. record { from = o; to = omega arith; passed = λ k p q. absurd (omega arith); found = λ p. absurd (omega arith) })

pub overflow_sub-size : goal.overflow_sub-size
overflow_sub-size c = let o = c.requires.0 in omega arith

pub loop-size-init : goal.loop-size-init
loop-size-init c =
    let o = c.requires.0 in
    record { some = omega arith; from = omega arith; to = omega arith; passed = λ s k p q. absurd (omega arith); reached = λ s k p q. absurd (omega arith) }

pub offset_bounds-col-base : goal.offset_bounds-col-base
offset_bounds-col-base c =
    let i = c.requires.1 in
    let t = c.loop-size.invariant.to in
    let n = c.loop-size-test.true in
    scaled_Fits _ (length c.args.col.now) 4 (omega arith) c.well_formed.0.1

pub bounds-col-base : goal.bounds-col-base
bounds-col-base c =
    let i = c.requires.1 in
    let t = c.loop-size.invariant.to in
    omega arith

pub overflow_mul-base : goal.overflow_mul-base
overflow_mul-base c =
    let m = at_most (c.loop-size.size / 2) (get_or c.args.col.now (c.loop-size.base + c.loop-size.size / 2) 0)
    c.args.x c.below.result c.below.ensures in
    omega (arith, m)

pub overflow_add-base-in-loop-size : goal.overflow_add-base-in-loop-size
overflow_add-base-in-loop-size c =
    let m = at_most (c.loop-size.size / 2) (get_or c.args.col.now (c.loop-size.base + c.loop-size.size / 2) 0)
    c.args.x c.below.result c.below.ensures in
    let t = c.loop-size.invariant.to in
    omega (arith, m, t)

pub loop-size-preserved : goal.loop-size-preserved
loop-size-preserved c =
    let a = c.args in
    let l = c.loop-size in
    halved a.col.now a.lo a.hi a.x l.base l.size c.below.result l.invariant (omega arith)
    c.below.ensures

pub offset_bounds-col-base-2 : goal.offset_bounds-col-base-2
offset_bounds-col-base-2 c =
    let i = c.requires.1 in
    let t = c.loop-size.invariant.to in
    let n = c.loop-size.invariant.some in
    scaled_Fits _ (length c.args.col.now) 4 (omega arith) c.well_formed.0.1

pub bounds-col-base-2 : goal.bounds-col-base-2
bounds-col-base-2 c =
    let i = c.requires.1 in
    let t = c.loop-size.invariant.to in
    let n = c.loop-size.invariant.some in
    omega arith

pub overflow_add-result : goal.overflow_add-result
overflow_add-result c =
    let m = at_most 1 (get_or c.args.col.now c.loop-size.base 0) c.args.x c.below-2.result
    c.below-2.ensures in
    let t = c.loop-size.invariant.to in
    omega (arith, m, t)

pub returns : goal.returns
returns c =
    let a = c.args in
    let l = c.loop-size in
    ended a.col.now a.lo a.hi a.x l.base l.size c.below-2.result l.invariant (omega arith) c.below-2.ensures

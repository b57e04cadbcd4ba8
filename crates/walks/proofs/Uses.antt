-- The fixed uses of a unit: their row numbers, which of them count for a reservation, and a search for one that does
use mathlib.Core.Path.{◌≡◌, ap}
use mathlib.Core.Logic.{⊎_elim}
use mathlib.Core.Bool.{Bool, true, false}
use mathlib.Core.List.{List}
use Prim.Native.Nat.{ℕ, zero, suc, ◌+◌, ◌-◌, ◌≤◌, ◌<◌}
use native.Mathlib.Omega.{arith}
use lib.Dec.{T, eqb, eqb→eq, leb→le, ltb→lt}
use lib.ListN.{length, get_or}
use borrow.Author.Tests.{le-leb, eq-eqb, ne_eqb}
use Rattle.columns.specs.Below.{count_below, any_below}
use Rattle.columns.proofs.Firsts.{split}
use Rattle.columns.proofs.Counting.{any_elim, any_hit}
use Rattle.columns.proofs.Tests.{test_same, and_T}
use Rattle.jobs.specs.Rows.{no_fixed_use}
use Rattle.jobs.specs.declared.rows.Reservation.{Reservation}
use Rattle.jobs.specs.declared.rows.FixedUse.{FixedUse}
use Rattle.walks.specs.declared.meeting.GapSegment.{GapSegment}
use Rattle.walks.specs.Meeting.{clashes, row_number, use_counts}
use Rattle.walks.specs.Standing.{OrderedUses, UsesFrom}

-- a count of all numbers from a on
count_from : (test : ℕ → Bool) (a n : ℕ) → ((k : ℕ) → k < a → test k ≡ false) → ((k : ℕ) → a ≤ k → k < n → test k ≡ true) → count_below test n ≡ n - a
unfolding count_below
count_from test a zero p q = omega arith
count_from test a (suc n) p q =
    let r = count_from test a n p (λ k l m. q k l (omega arith)) in
    ⊎_elim (λ l. rw (p n l) (omega arith)) (λ l. rw (q n l (omega arith)) (omega arith)) (split n a)

-- a fixed use's row number within the unit
number : {fixed_uses : List FixedUse} {u from : ℕ} → OrderedUses fixed_uses → UsesFrom fixed_uses u from → (j : ℕ) → j < length fixed_uses
    → (get_or fixed_uses j no_fixed_use).unit ≡ u → row_number fixed_uses u j ≡ j - from
unfolding row_number
number {fixed_uses} {u} {from} o b j l e =
    let unit : ℕ → ℕ = λ k. (get_or fixed_uses k no_fixed_use).unit in
    count_from (λ k. eqb (unit k) u) from j (λ k m. ne_eqb (unit k) u (omega (arith, b.before k m)))
    (λ k m q. eq-eqb (unit k) u (omega (arith, b.later k m (omega arith), o.units k j (omega arith) l)))

-- what is known of one that counts
record Counts (fixed_uses : List FixedUse) (s : GapSegment) (r : Reservation) (j : ℕ) : Type 0 where
  unit : (get_or fixed_uses j no_fixed_use).unit ≡ r.unit
  row : r.fixed ≤ row_number fixed_uses r.unit j
  point : (get_or fixed_uses j no_fixed_use).point < s.to.0

counts : {fixed_uses : List FixedUse} {s : GapSegment} {r : Reservation} {j : ℕ} → T (use_counts fixed_uses s r j) → Counts fixed_uses s r j
unfolding use_counts clashes
counts t = let p = simp and_T at t in omega (arith, eqb→eq, leb→le, ltb→lt)

-- a search from the fixed row on stands at fixed use i: none before it counts
pub record Looking (fixed_uses : List FixedUse) (s : GapSegment) (r : Reservation) (i : ℕ) : Type 0 where
  pub from : ℕ
  pub ordered : OrderedUses fixed_uses
  pub begin : UsesFrom fixed_uses r.unit from
  pub past : from + r.fixed ≤ i
  pub none : (k : ℕ) → k < i → k < length fixed_uses → T (use_counts fixed_uses s r k) → ⊥

-- it begins where the unit's fixed uses do, and the fixed row further on
pub looking_first : {fixed_uses : List FixedUse} {s : GapSegment} {r : Reservation} {from : ℕ} → OrderedUses fixed_uses → UsesFrom fixed_uses r.unit from
    → Looking fixed_uses s r (from + r.fixed)
looking_first {fixed_uses} {s} {r} {from} o b =
    record {
      from = from;
      ordered = o;
      begin = b;
      past = omega arith;
      none = λ k h l t.
          let c : Counts fixed_uses s r k = counts t in
          ⊎_elim (λ m. omega (arith, b.before k m)) (λ m. omega (arith, number o b k l c.unit)) (split k from);
    }

module _ {fixed_uses : List FixedUse} {s : GapSegment} {r : Reservation} {i : ℕ} (l : Looking fixed_uses s r i) where
  -- where none from i on counts, none counts
  none_counts : ((j : ℕ) → i ≤ j → j < length fixed_uses → Counts fixed_uses s r j → ⊥) → false ≡ any_below (use_counts fixed_uses s r) (length fixed_uses)
  none_counts f =
      test_same false _ (λ t. absurd t)
      (any_elim _ _ (λ k h t. ⊎_elim (λ m. l.none k m h t) (λ m. f k m h (counts t)) (split k i)))

  -- none is left
  pub none_left : length fixed_uses ≤ i → false ≡ any_below (use_counts fixed_uses s r) (length fixed_uses)
  none_left h = none_counts (λ j m n c. omega arith)

  -- fixed use i is f
  module _ {f : FixedUse} (h : i < length fixed_uses) (e : f ≡ get_or fixed_uses i no_fixed_use) where
    -- it is of another unit, or past the segment: none counts from there on
    pub other_unit : (f.unit ≡ r.unit → ⊥) → false ≡ any_below (use_counts fixed_uses s r) (length fixed_uses)
    other_unit ne =
        none_counts (λ j m n c. ne (omega (arith, ap (λ (f : FixedUse). f.unit) e, l.begin.later i (omega arith) h, l.ordered.units i j m n)))

    pub past_segment : f.unit ≡ r.unit → s.to.0 ≤ f.point → false ≡ any_below (use_counts fixed_uses s r) (length fixed_uses)
    past_segment u p =
        let q = ap (λ (f : FixedUse). f.point) e in
        none_counts (λ j m n c. omega (arith, l.ordered.points i j m n (omega (arith, ap (λ (f : FixedUse). f.unit) e))))

    -- it clashes, or not
    pub one_counts : f.unit ≡ r.unit → clashes s f ≡ true → true ≡ any_below (use_counts fixed_uses s r) (length fixed_uses)
    unfolding use_counts
    one_counts u t =
        let v : (get_or fixed_uses i no_fixed_use).unit ≡ r.unit = rw (← e) u in
        let n : r.fixed ≤ row_number fixed_uses r.unit i = omega (arith, number l.ordered l.begin i h v) in
        test_same true _ (λ _. any_hit _ _ i h (rw (eq-eqb _ _ v, le-leb _ _ n, ← e, t) tt)) (λ _. tt)

    pub looking_next : clashes s f ≡ false → Looking fixed_uses s r (i + 1)
    unfolding use_counts
    looking_next t =
        record {
          from = l.from;
          ordered = l.ordered;
          begin = l.begin;
          past = omega arith;
          none = λ k m n c. ⊎_elim (λ x. l.none k x n c)
              (λ x. let q : k ≡ i = omega arith in rw (q, ← e, t) at (simp and_T at c).1) (split k i);
        }

-- What was met is the least that covers what each row of a set counts, in whatever order they are looked at
use mathlib.Core.Path.{◌≡◌, refl, sym, ap₂, subst}
use mathlib.Core.Logic.{◌⊎◌, inl, inr, ⊎_elim}
use mathlib.Core.Bool.{Bool, ◌||◌}
use Prim.Native.Nat.{ℕ, ◌≤◌, ◌<◌, max}
use native.Mathlib.Nat.{le_refl, le_trans, le_antisymm}
use native.Mathlib.Omega.{arith}
use lib.Dec.{T}
use lib.Ieee.{Float}
use Rattle.columns.proofs.Tests.{test_same, or_T}
use Rattle.numbers.specs.Weight.{Weight, units_of, heavier, heaviest}
use Rattle.numbers.proofs.Units.{units_inj}
use Rattle.numbers.proofs.Heaviest.{heavier_weight, heavier_units}
use Rattle.links.specs.declared.lower.Side.{Side}
use Rattle.walks.specs.declared.meeting.Met.{Met}
use Rattle.walks.specs.Ways.{Ahead, Behind, AnyAhead, row_ahead, place_behind}
use Rattle.walks.proofs.Ways.{passed_or_ahead, row_inside, passed_only, passed_still, row_passed}

-- ---- an order
-- m covers x: it is fixed if x is, and no lighter
pub record Covers (m x : Met) : Type 0 where
  pub fixed : T x.fixed → T m.fixed
  pub heaviest : units_of x.heaviest ≤ units_of m.heaviest

-- anything covers x
abbrev pub Nothing : Met → Type 0
Nothing x = (m : Met) → Covers m x

covers_trans : {a b c : Met} → Covers a b → Covers b c → Covers a c
covers_trans p q = record { fixed = λ t. p.fixed (q.fixed t); heaviest = le_trans q.heaviest p.heaviest }

-- c is a and b together
pub record Joins (a b c : Met) : Type 0 where
  pub weight : Weight c.heaviest
  pub fixed : c.fixed ≡ (a.fixed || b.fixed)
  pub heaviest : units_of c.heaviest ≡ max (units_of a.heaviest) (units_of b.heaviest)

pub also_joins : (m x : Met) → Weight m.heaviest → Weight x.heaviest
    → Joins m x (record { fixed = m.fixed || x.fixed; heaviest = heavier m.heaviest x.heaviest })
also_joins m x w v = record { weight = heavier_weight w v; fixed = refl; heaviest = heavier_units w v }

-- x is the least that covers what the rows in P count
pub record Least (count : ℕ → Met) (P : ℕ → Type 0) (x : Met) : Type 0 where
  pub above : (k : ℕ) → P k → Covers x (count k)
  pub least : (n : Met) → ((k : ℕ) → P k → Covers n (count k)) → Covers n x

-- m is the least that covers m₀ and what they count
pub record Seen (count : ℕ → Met) (P : ℕ → Type 0) (m₀ m : Met) : Type 0 where
  pub weight : Weight m.heaviest
  pub kept : Covers m m₀
  pub above : (k : ℕ) → P k → Covers m (count k)
  pub least : (n : Met) → Covers n m₀ → ((k : ℕ) → P k → Covers n (count k)) → Covers n m

-- what was met, by its two parts
abbrev pub met : Bool → Float → Met
met fixed heaviest = record { fixed = fixed; heaviest = heaviest }

module _ {count : ℕ → Met} where
  -- there is only one
  pub seen_only : {P : ℕ → Type 0} {m₀ m n : Met} → Seen count P m₀ m → Seen count P m₀ n → m ≡ n
  seen_only {m = m} {n} s t =
      let a = t.least m s.kept s.above in
      let b = s.least n t.kept t.above in
      ap₂ met (test_same m.fixed n.fixed b.fixed a.fixed) (units_inj s.weight t.weight (le_antisymm b.heaviest a.heaviest))

  -- rows that count nothing more
  pub seen_none : {P : ℕ → Type 0} {m : Met} → Weight m.heaviest → ((k : ℕ) → P k → Covers m (count k)) → Seen count P m m
  seen_none {m = m} w f =
      record { weight = w; kept = record { fixed = λ t. t; heaviest = le_refl (units_of m.heaviest) }; above = f; least = λ n h _. h }

  -- rows that count x
  pub seen_joins : {P : ℕ → Type 0} {m x m' : Met} → Joins m x m' → Least count P x → Seen count P m m'
  seen_joins {m = m} {x} j l =
      record {
        weight = j.weight;
        kept = record { fixed = λ t. rw j.fixed ((or_T m.fixed x.fixed).1 (inl t)); heaviest = omega arith };
        above = λ k p. covers_trans (record { fixed = λ t. rw j.fixed ((or_T m.fixed x.fixed).1 (inr t)); heaviest = omega arith }) (l.above k p);
        least = λ n h f. let c = l.least n f in record {
          fixed = λ t. ⊎_elim h.fixed c.fixed ((or_T m.fixed x.fixed).0 (rw j.fixed at t));
          heaviest = omega arith;
        };
      }

  -- some rows, and then others
  pub seen_then : {P : ℕ → Type 0} (Q R : ℕ → Type 0) {m₀ m n : Met} → ((k : ℕ) → R k → P k ⊎ Q k) → ((k : ℕ) → P k → R k) → ((k : ℕ) → Q k → R k)
      → Seen count P m₀ m → Seen count Q m n → Seen count R m₀ n
  seen_then Q R only first second s t =
      record {
        weight = t.weight;
        kept = covers_trans t.kept s.kept;
        above = λ k r. ⊎_elim (λ p. covers_trans t.kept (s.above k p)) (t.above k) (only k r);
        least = λ n h f. t.least n (s.least n h (λ k p. f k (first k p))) (λ k q. f k (second k q));
      }

-- ---- a walk over those of n rows that are such, on the way to a side
abbrev pub Rows : ℕ → (ℕ → Type 0) → ℕ → Type 0
Rows n Of k = (k < n) × Of k

-- and those of them that were passed
abbrev pub Passed : Side → ℕ → (ℕ → Type 0) → ℕ → ℕ → Type 0
Passed side n Of i k = Behind side i k × Rows n Of k

module _ (side : Side) (n : ℕ) (count : ℕ → Met) (Of : ℕ → Type 0) where
  abbrev Before : ℕ → ℕ → Type 0
  Before = Passed side n Of

  -- one row more
  pub walk_more : (i : ℕ) {m₀ m m' : Met} → AnyAhead side i n → i ≤ n → Of (row_ahead side i) → Joins m (count (row_ahead side i)) m'
      → Seen count (Before i) m₀ m → Seen count (Before (place_behind side i)) m₀ m'
  walk_more i any inside of j s =
      seen_then (λ (k : ℕ). k ≡ row_ahead side i) (Before (place_behind side i))
      (λ k q. ⊎_elim (λ l. inl (l, q.1)) (λ l. inr l) (passed_only side q.0))
      (λ k q. (passed_still side q.0, q.1))
      (λ k e. subst (Before (place_behind side i)) (sym e) (row_passed side i, (row_inside side any inside, of))) s
      (seen_joins j (record {
        above = λ k e. subst (λ (x : ℕ). Covers (count (row_ahead side i)) (count x)) (sym e) (record { fixed = λ t. t; heaviest = le_refl _ });
        least = λ x f. f (row_ahead side i) refl;
      }))

  -- all rows, if those ahead count nothing
  pub walk_all : (i : ℕ) {m₀ m : Met} → ((k : ℕ) → Ahead side i k → Rows n Of k → Nothing (count k)) → Seen count (Before i) m₀ m → Seen count (Rows n Of) m₀ m
  walk_all i {m = m} f s =
      seen_then (λ (k : ℕ). Ahead side i k × Rows n Of k) (Rows n Of) (λ k r. ⊎_elim (λ l. inl (l, r)) (λ l. inr (l, r)) (passed_or_ahead side i k))
      (λ k q. q.1) (λ k q. q.1) s (seen_none s.weight (λ k q. f k q.0 q.1 m))

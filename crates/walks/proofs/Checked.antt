-- Tables that have passed lines 10 and 11 are as the walkers need them
use mathlib.Core.Path.{◌≡◌, sym}
use mathlib.Core.Logic.{⊎_elim, ◌↔◌}
use mathlib.Core.Bool.{Bool, false, ◌&&◌, ◌||◌}
use mathlib.Core.List.{List}
use Prim.Native.Nat.{ℕ, zero, suc, ◌≤◌, ◌<◌}
use native.Mathlib.Nat.{le_of_eq, le_of_suc-le-suc, eq-or-lt_of_le}
use native.Mathlib.Omega.{arith}
use lib.Dec.{ltb, eqb}
use lib.ListN.{length, get_or}
use borrow.Author.Tests.{ltb-false, leb-false, eq-eqb}
use Rattle.jobs.specs.declared.rows.Reservation.{Reservation}
use Rattle.jobs.specs.declared.rows.FixedUse.{FixedUse}
use Rattle.jobs.specs.declared.rows.Limits.{Limits}
use Rattle.jobs.specs.Rows.{no_reservation, no_fixed_use}
use Rattle.jobs.specs.Lines.{bad_span, bad_reservation, bad_fixed_use, bad_fixed_use_at}
use Rattle.jobs.proofs.Sound.{or_parts}
use Rattle.jobs.proofs.Walk.{or_none}
use Rattle.walks.specs.Meeting.{Reserved}
use Rattle.walks.specs.Standing.{Ready}

-- an "or" fails if both its parts do
pub or_fails : (a b : Bool) → ((a || b) ≡ false) ↔ ((a ≡ false) × (b ≡ false))
or_fails a b = (or_parts a b, λ p. or_none p.0 p.1)

-- a row after another: its unit is not before the other's, and if it is the same, the row begins where the other ends or later
record After (unit end next begin : ℕ) : Type 0 where
  rising : unit ≤ next
  apart : unit ≡ next → end ≤ begin

not_before : {unit end next begin : ℕ} → (eqb next unit && ltb begin end) ≡ false → unit ≡ next → end ≤ begin
not_before {unit} {end} {next} {begin} p e = ltb-false begin end (rw (eq-eqb next unit (sym e)) at p)

-- rows that go from a begin to an end, each after the one before it: each is after all before it
record Chain (unit begin end : ℕ → ℕ) (n : ℕ) : Type 0 where
  forward : (i : ℕ) → i < n → begin i ≤ end i
  step : (i : ℕ) → suc i < n → After (unit i) (end i) (unit (suc i)) (begin (suc i))

module _ {unit begin end : ℕ → ℕ} {n : ℕ} (c : Chain unit begin end n) where
  later : (i k : ℕ) → i < k → k < n → After (unit i) (end i) (unit k) (begin k)
  later i zero h l = absurd (omega arith)
  later i (suc k) h l =
      let s = c.step k l in
      ⊎_elim (λ e. rw e s)
      (λ m. let t = later i k m (omega arith) in
      record { rising = omega arith; apart = λ e. omega (arith, t.apart (omega arith), c.forward k (omega arith), s.apart (omega arith)) })
      (eq-or-lt_of_le (le_of_suc-le-suc h))

  rises : (i k : ℕ) → i ≤ k → k < n → unit i ≤ unit k
  rises i k h l = ⊎_elim (λ e. le_of_eq (rw e)) (λ m. (later i k m l).rising) (eq-or-lt_of_le h)

-- line 10
module _ (limits : Limits) (fixed_uses : List FixedUse) (rows : List Reservation)
    (passed : (i : ℕ) → i < length rows → bad_reservation limits fixed_uses rows i ≡ false) where
  abbrev row : ℕ → Reservation
  row i = get_or rows i no_reservation

  nonempty : (i : ℕ) → i < length rows → (row i).start < (row i).end
  unfolding bad_span
  nonempty i h = let p = simp or_fails at (passed i h) in omega (arith, leb-false)

  row_chain : Chain (λ i. (row i).unit) (λ i. (row i).start) (λ i. (row i).end) (length rows)
  unfolding bad_span
  row_chain =
      record {
        forward = λ i h. omega (arith, nonempty i h);
        step = λ i h. let p = simp or_fails at (passed (suc i) h) in record { rising = omega (arith, ltb-false); apart = not_before p.0.1 };
      }

-- line 11
module _ (limits : Limits) (fixed_uses : List FixedUse) (passed : (i : ℕ) → i < length fixed_uses → bad_fixed_use_at limits fixed_uses i ≡ false) where
  use_chain : let point : ℕ → ℕ = λ i. (get_or fixed_uses i no_fixed_use).point in
      Chain (λ i. (get_or fixed_uses i no_fixed_use).unit) point point (length fixed_uses)
  unfolding bad_fixed_use
  use_chain =
      record {
        forward = λ i h. omega arith;
        step = λ i h. let p = simp or_fails at (passed (suc i) h) in record { rising = omega (arith, ltb-false); apart = not_before p.1 };
      }

-- both lines
pub checked_ready : (limits : Limits) (t : Reserved)
    → ((i : ℕ) → i < length t.rows → bad_reservation limits t.fixed_uses t.rows i ≡ false)
    → ((i : ℕ) → i < length t.fixed_uses → bad_fixed_use_at limits t.fixed_uses i ≡ false) → Ready t
checked_ready limits t passed sound =
    let rows = row_chain limits t.fixed_uses t.rows passed in
    let uses = use_chain limits t.fixed_uses sound in
    record {
      rows = record { units = rises rows; nonempty = nonempty limits t.fixed_uses t.rows passed; apart = λ i k h l. (later rows i k h l).apart };
      uses = record { units = rises uses; points = λ i k h l e. ⊎_elim (λ m. le_of_eq (rw m)) (λ m. (later uses i k m l).apart e) (eq-or-lt_of_le h) };
    }

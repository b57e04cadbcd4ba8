-- Where a walk begins: the rows and the fixed uses of a unit stand together, and a search by halves in them finds the place
use mathlib.Core.Path.{◌≡◌, refl, ap, subst, ◌∙◌}
use mathlib.Core.Logic.{⊎_elim}
use mathlib.Core.List.{List}
use Prim.Native.Nat.{ℕ, ◌+◌, ◌≤◌, ◌<◌, zero-le}
use native.Mathlib.Nat.{le_refl, le_of_eq, eq-or-lt_of_le}
use native.Mathlib.Omega.{arith}
use lib.Dec.{leb}
use lib.ListN.{length, get_or}
use Rattle.columns.specs.Table.{table}
use Rattle.columns.specs.First.{FirstIn, Rising}
use Rattle.columns.proofs.Firsts.{split, parted}
use Rattle.columns.proofs.Tables.{table_length}
use Rattle.jobs.specs.declared.rows.Reservation.{Reservation}
use Rattle.jobs.specs.declared.rows.FixedUse.{FixedUse}
use Rattle.jobs.specs.declared.rows.Reservations.TheInside as Reservations·is
use Rattle.jobs.specs.declared.rows.FixedUses.TheInside as FixedUses·is
use Rattle.jobs.specs.Rows.{reservations_of, no_reservation, fixed_uses_of, no_fixed_use}
use Rattle.jobs.proofs.Walk.{own_row}
use Rattle.links.specs.declared.lower.Side.TheVariants.{Previous, Next}
use Rattle.walks.specs.Standing.{OrderedRows, OrderedUses, RowsOfUnit, UsesFrom, StandsIn}

-- a column that holds a field of the rows
pub record Holds {A : Type 0} (col : List ℕ) (rows : List A) (d : A) (field : A → ℕ) : Type 0 where
  pub long : length rows ≤ length col
  pub at : (i : ℕ) → i < length rows → get_or col i 0 ≡ field (get_or rows i d)

-- a column of a table does
column : {A : Type 0} {d : A} {field : A → ℕ} {col : List ℕ} (row : ℕ → A) (n : ℕ) → n ≤ length col → ((i : ℕ) → get_or col i 0 ≡ field (row i))
    → Holds col (table row n) d field
column {d = d} {field} row n h f = record { long = rw table_length h; at = λ i l. f i ∙ ap field (own_row row n i d (row i) refl l) }

-- those of the tables that are lent
module _ (t : Reservations·is.Inside) {rows : List Reservation}
    (are : reservations_of t.unit.now t.start.now t.end.now t.kind.now t.index.now t.fixed.now ≡ rows) where
  pub holds_unit : Holds t.unit.now rows no_reservation (λ (r : Reservation). r.unit)
  holds_unit = subst (λ rows. Holds t.unit.now rows no_reservation (λ (r : Reservation). r.unit)) are (column _ _ (omega arith) (λ i. refl))

  pub holds_start : Holds t.start.now rows no_reservation (λ (r : Reservation). r.start)
  holds_start = subst (λ rows. Holds t.start.now rows no_reservation (λ (r : Reservation). r.start)) are (column _ _ (omega arith) (λ i. refl))

  pub holds_end : Holds t.end.now rows no_reservation (λ (r : Reservation). r.end)
  holds_end = subst (λ rows. Holds t.end.now rows no_reservation (λ (r : Reservation). r.end)) are (column _ _ (omega arith) (λ i. refl))

pub holds_use : (t : FixedUses·is.Inside) {rows : List FixedUse} → fixed_uses_of t.unit.now t.point.now t.value.now ≡ rows
    → Holds t.unit.now rows no_fixed_use (λ (f : FixedUse). f.unit)
holds_use t are = subst (λ rows. Holds t.unit.now rows no_fixed_use (λ (f : FixedUse). f.unit)) are (column _ _ (omega arith) (λ i. refl))

-- what a search for x in a column answers
abbrev pub Found : List ℕ → ℕ → ℕ → ℕ → ℕ → Type 0
Found col x lo hi r = Rising col lo hi → FirstIn (λ (k : ℕ). leb x (get_or col k 0)) lo hi r

-- it parts the rows whose field the column holds: the field is below x in those before r, and not in those from r on
record Parts {A : Type 0} (rows : List A) (d : A) (field : A → ℕ) (x lo hi r : ℕ) : Type 0 where
  from : lo ≤ r
  to : r ≤ hi
  before : (k : ℕ) → lo ≤ k → k < r → field (get_or rows k d) < x
  later : (k : ℕ) → r ≤ k → k < hi → x ≤ field (get_or rows k d)

parts : {A : Type 0} {col : List ℕ} {rows : List A} {d : A} {field : A → ℕ} {x lo hi r : ℕ} → Holds col rows d field → hi ≤ length rows
    → ((i k : ℕ) → lo ≤ i → i ≤ k → k < hi → field (get_or rows i d) ≤ field (get_or rows k d)) → Found col x lo hi r → Parts rows d field x lo hi r
parts {col = col} {x = x} {lo = lo} {hi = hi} h n rise answer =
    let rising : Rising col lo hi = λ i k p q l. rw (h.at i (omega arith), h.at k (omega arith)) (rise i k p q l) in
    let f = answer rising in
    let s = parted {col = col} {x = x} rising f in
    record {
      from = f.from;
      to = f.to;
      before = λ k p q. rw (h.at k (omega arith)) at (s.before k p q);
      later = λ k p q. rw (h.at k (omega arith)) at (s.later k p q);
    }

-- ---- the fixed uses of a unit
pub uses_found : {fixed_uses : List FixedUse} {unit : List ℕ} {u n r : ℕ} → OrderedUses fixed_uses → Holds unit fixed_uses no_fixed_use (λ (f : FixedUse). f.unit)
    → n ≡ length fixed_uses → Found unit u 0 n r → UsesFrom fixed_uses u r
uses_found o h e f =
    let a = parts h (le_of_eq e) (λ i k _ q l. o.units i k q (omega arith)) f in
    record { before = λ k l. a.before k zero-le l; later = λ k l m. a.later k l (omega arith) }

-- ---- the rows of a unit
-- where a walk to the left and one to the right stand
abbrev pub Places : List Reservation → ℕ → ℕ → ℕ → ℕ → Type 0
Places rows u point l r =
    ((l ≤ length rows) × StandsIn Previous rows u point l) × ((r ≤ length rows) × StandsIn Next rows u point r)

module _ (rows : List Reservation) (ordered : OrderedRows rows) (u : ℕ) where
  pub rows_found : {unit : List ℕ} {n from to : ℕ} → Holds unit rows no_reservation (λ (r : Reservation). r.unit)
      → n ≡ length rows → Found unit u 0 n from → Found unit (u + 1) from n to → RowsOfUnit rows u from to
  rows_found h e f g =
      let a = parts h (le_of_eq e) (λ i k _ q l. ordered.units i k q (omega arith)) f in
      let b = parts h (le_of_eq e) (λ i k _ q l. ordered.units i k q (omega arith)) g in
      record {
        order = b.from;
        inside = omega arith;
        before = λ k l. a.before k zero-le l;
        own = λ k l m. omega (arith, a.later k l (omega arith), b.before k l m);
        later = λ k l m. omega (arith, b.later k l (omega arith));
      }

  module _ (from to : ℕ) (own : RowsOfUnit rows u from to) where
    -- of two rows of the unit, the first ends where the second starts, or before
    apart : (i k : ℕ) → from ≤ i → i < k → k < to → (get_or rows i no_reservation).end ≤ (get_or rows k no_reservation).start
    apart i k p q l = ordered.apart i k q (omega arith) (omega (arith, own.own i p (omega arith), own.own k (omega arith) l))

    -- a row of the unit is one of these
    not_before : (k : ℕ) → (get_or rows k no_reservation).unit ≡ u → from ≤ k
    not_before k e = ⊎_elim (λ l. absurd (omega (arith, own.before k l))) (λ l. l) (split k from)

    not_later : (k : ℕ) → k < length rows → (get_or rows k no_reservation).unit ≡ u → k < to
    not_later k h e = ⊎_elim (λ l. l) (λ l. absurd (omega (arith, own.later k l h))) (split k to)

    -- the unit's rows end in order, so a search finds the first that reaches the point: to the right a walk begins at it, and to the left
    -- behind it, or at it if it does not start before the point
    pub places_found : {end : List ℕ} {point r : ℕ} → Holds end rows no_reservation (λ (r : Reservation). r.end) → Found end point from to r
        → (l : ℕ) → r ≤ l → l ≤ to → (l ≤ r → r < to → point ≤ (get_or rows r no_reservation).start) → Places rows u point l r
    places_found {r = r} h found l p q g =
        let f = parts h own.inside
        (λ i k p q l. ⊎_elim (λ e. le_of_eq (rw e)) (λ m. omega (arith, apart i k p m l, ordered.nonempty k (omega arith))) (eq-or-lt_of_le q)) found in (
          (
            omega arith,
            record {
              ahead = λ k m h. ⊎_elim (λ x. omega (arith, own.before k x)) (λ x. omega (arith, own.own k x (omega arith))) (split k from);
              passed = λ k m h e.
                  let inside = not_later k m e in
                  ⊎_elim (λ x. rw (← x) (record { is = g (omega arith) (omega arith) }))
                  (λ x. omega (arith, f.later r (le_refl r) (omega arith), apart r k f.from x inside)) (eq-or-lt_of_le {n = r} {m = k} (omega arith));
            },
          ),
          (
            omega arith,
            record {
              ahead = λ k m h. ⊎_elim (λ x. omega (arith, own.own k (omega arith) x)) (λ x. omega (arith, own.later k x m)) (split k to);
              passed = λ k m h e. omega (arith, f.before k (not_before k e) (omega arith));
            },
          ),
        )

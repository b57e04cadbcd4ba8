-- `walk_unit` looks at the unit's rows ahead, one after the other: what is known is what the rows passed count
use mathlib.Core.Path.{◌≡◌, sym, ap, ◌∙◌, subst}
use mathlib.Core.Bool.{true, false}
use mathlib.Core.List.{List}
use Prim.Native.Nat.{ℕ, ◌≤◌, ◌<◌}
use native.Mathlib.Omega.{arith}
use lib.Dec.{T}
use lib.ListN.{length, get_or}
use Rattle.jobs.specs.declared.checked.Held.{Held}
use Rattle.jobs.specs.declared.rows.Reservation.{Reservation}
use Rattle.jobs.specs.Rows.{no_reservation}
use Rattle.jobs.specs.Checked.{held_reservation, plain_row}
use Rattle.links.specs.declared.lower.Side.{Side}
use Rattle.walks.specs.Meeting.{Reserved, looked}
use Rattle.walks.specs.Ways.{AnyAhead, row_ahead, ahead_is}
use Rattle.walks.specs.Standing.{reaches_past}
use Rattle.walks.proofs.Ways.{row_inside, behind_inside, some_row, ahead_is_T}
use Rattle.walks.proofs.Begin.{Holds, holds_unit}
use Rattle.walks.proofs.OneUnit.{Walking, Answers, walking_first, walking_out, walking_past, walking_next}
use Rattle.walks.proofs.walk.walk_unit.Goals as goal

-- a row ahead of place i is one of the unit
module _ (side : Side) {units : List ℕ} {rows : List Reservation} (u i : ℕ) {n : ℕ}
    (holds : Holds units rows no_reservation (λ (r : Reservation). r.unit)) (all : n ≡ length rows) (inside : i ≤ length rows) where
  abbrev row : ℕ
  row = row_ahead side i

  ahead : ahead_is side units n i u ≡ true → AnyAhead side i (length rows) × (row < length rows) × ((get_or rows row no_reservation).unit ≡ u)
  ahead t =
      let h = (ahead_is_T side units (length rows) i u).0 (rw (← all, t) tt) in
      let there = row_inside side h.0 inside in
      (h.0, there, sym (holds.at row there) ∙ h.1)

  none : ahead_is side units n i u ≡ false → AnyAhead side i (length rows) → (get_or rows row no_reservation).unit ≡ u → ⊥
  none t any e =
      let there = row_inside side any inside in
      subst T (ap (λ (n : ℕ). ahead_is side units n i u) (sym all) ∙ t)
      ((ahead_is_T side units (length rows) i u).1 (any, holds.at row there ∙ e))

-- the row that was read is it
read : {rows lent : List Reservation} {i k : ℕ} {r : Held} → lent ≡ rows → i ≡ k → r ≡ held_reservation (get_or lent i no_reservation)
    → get_or rows k no_reservation ≡ plain_row r
read e f h = rw (h, e, f)

-- the rows of the table that is lent
rows_are : {t lent : Reserved} → lent ≡ t → lent.rows ≡ t.rows
rows_are = ap (λ (t : Reserved). t.rows)

pub loop-reservations-init : goal.loop-reservations-init
loop-reservations-init c = (c.requires, λ sound st. walking_first _ _ _ _ _ sound _ st)

pub place_behind-i-requires : goal.place_behind-i-requires
place_behind-i-requires c =
    let i = c.loop-reservations.invariant.0 in
    let e = rows_are c.reserved.view_is in
    let holds = holds_unit c.reservations.inside (c.reservations.view_is ∙ e) in
    let h = ahead c.args.side _ _ holds (c.len-n.ensures ∙ ap length e) i (sym c.ahead_is.ensures ∙ c.loop-reservations-test.true) in
    (some_row c.args.side h.0, omega (arith, i, holds.long, c.reservations.told))

-- out where no row of the unit is ahead
pub returns-after-loop-reservations : goal.returns-after-loop-reservations
returns-after-loop-reservations c =
    let a = c.args in
    let l = c.loop-reservations in
    let e = rows_are c.reserved.view_is in
    let holds = holds_unit c.reservations.inside (c.reservations.view_is ∙ e) in
    let ne = none a.side _ _ holds (c.len-n.ensures ∙ ap length e) l.invariant.0 (sym c.ahead_is.ensures ∙ c.loop-reservations-test.false) in
    (l.invariant.0, λ sound st. walking_out a.side _ a.s a.u.0 a.met sound l.i l.met (l.invariant.1 sound st) (λ any _ e. ne any e) l.invariant.0)

-- out behind a row that reaches past the segment
pub returns-then-reaches_past : goal.returns-then-reaches_past
returns-then-reaches_past c =
    let a = c.args in
    let l = c.loop-reservations in
    let t : Reserved = a.reserved.now in
    let e = rows_are c.reserved.view_is in
    let holds = holds_unit c.reservations.inside (c.reservations.view_is ∙ e) in
    let h = ahead a.side _ _ holds (c.len-n.ensures ∙ ap length e) l.invariant.0 (sym c.ahead_is.ensures ∙ c.loop-reservations-test.true) in
    let r = read e c.row_ahead-row.ensures c.held_at-r.ensures in (
      l.invariant.0,
      λ sound st.
          subst (Answers a.side t a.s a.u.0 a.met l.i)
          (ap (λ (r : Reservation). looked t.fixed_uses t.weights a.s r l.met) r ∙ sym (c.look-met.ensures sound.ready.uses))
          (walking_past a.side t a.s a.u.0 a.met sound l.i l.met (l.invariant.1 sound st) h.0 l.invariant.0 h.2
          (ap (reaches_past a.side a.s) r ∙ sym c.reaches_past.ensures ∙ c.if-reaches_past.true)),
    )

pub loop-reservations-preserved : goal.loop-reservations-preserved
loop-reservations-preserved c =
    let a = c.args in
    let l = c.loop-reservations in
    let t : Reserved = a.reserved.now in
    let e = rows_are c.reserved.view_is in
    let holds = holds_unit c.reservations.inside (c.reservations.view_is ∙ e) in
    let h = ahead a.side _ _ holds (c.len-n.ensures ∙ ap length e) l.invariant.0 (sym c.ahead_is.ensures ∙ c.loop-reservations-test.true) in
    let r = read e c.row_ahead-row.ensures c.held_at-r.ensures in
    let to = sym c.place_behind-i.ensures in (
      subst (λ (x : ℕ). x ≤ length t.rows) to (behind_inside a.side h.0 l.invariant.0),
      λ sound st.
          subst (λ (x : ℕ). Walking a.side t a.s a.u.0 a.met x c.look-met.result) to
          (subst (Walking a.side t a.s a.u.0 a.met _)
          (ap (λ (r : Reservation). looked t.fixed_uses t.weights a.s r l.met) r ∙ sym (c.look-met.ensures sound.ready.uses))
          (walking_next a.side t a.s a.u.0 a.met sound l.i l.met (l.invariant.1 sound st) h.0 l.invariant.0 h.2
          (ap (reaches_past a.side a.s) r ∙ sym c.reaches_past.ensures ∙ c.if-reaches_past.false))),
    )

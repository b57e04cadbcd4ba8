-- `kind_is_bad` asks of a known kind what its definition asks, with the limits picked by the kind
use mathlib.Core.Path.{◌≡◌, refl, sym, ap, ◌∙◌, subst}
use mathlib.Core.Bool.{Bool, true, false, not, ◌&&◌, ◌||◌, cond}
use Prim.Native.Nat.{ℕ, zero, suc, ◌≤◌, ◌<◌}
use native.Mathlib.Omega.{arith}
use lib.Dec.{leb, eqb}
use borrow.Author.Tests.{le-leb, lt-leb, eq-eqb, ne_eqb}
use Rattle.jobs.specs.declared.rows.Limits.{Limits}
use Rattle.jobs.specs.declared.rows.Reservation.{Reservation}
use Rattle.jobs.specs.Lines.{bad_kind, no_fixed}
use Rattle.jobs.proofs.Walk.{or_first, or_second, and_both, and_first}
use Rattle.jobs.proofs.checks.kind_is_bad.Goals as goal

-- a number of 1 or more is not 0
above_zero : (n : ℕ) → leb 1 n ≡ not (eqb n 0)
above_zero zero = refl
above_zero (suc n) = le-leb 1 (suc n) (omega arith) ∙ sym (ap not (ne_eqb (suc n) 0 (λ e. omega (arith, e))))

turned : (a b : Bool) → (a || b) ≡ (b || (a && a))
turned true true = refl
turned true false = refl
turned false true = refl
turned false false = refl

or_last : (a : Bool) {b : Bool} → b ≡ true → (a || b) ≡ true
or_last true e = refl
or_last false e = e

-- how many indices a kind has, which fixed row is sound for it in any case, and below how many it is sound else
abbrev indices : Limits → ℕ → ℕ
indices limits kind = cond (eqb kind 1) 1 (cond (eqb kind 0) limits.weights limits.values)

abbrev sound : ℕ → ℕ
sound kind = cond (eqb kind 0) no_fixed 0

abbrev rows : ℕ → ℕ → ℕ
rows have kind = cond (eqb kind 0) have 1

-- a known kind, by what is picked for it
known : (limits : Limits) (have kind index fixed : ℕ) → kind ≤ 2 →
    cond (eqb kind 0) (leb limits.weights index || (not (eqb fixed no_fixed) && leb have fixed))
    (not (eqb fixed 0) || cond (eqb kind 1) (not (eqb index 0)) (not (eqb kind 2) || leb limits.values index))
    ≡ (leb (indices limits kind) index || (not (eqb fixed (sound kind)) && leb (rows have kind) fixed))
known limits have zero index fixed h = refl
known limits have (suc zero) index fixed h = rw (above_zero index, above_zero fixed) (turned (not (eqb fixed 0)) (not (eqb index 0)))
known limits have (suc (suc zero)) index fixed h = rw (above_zero fixed) (turned (not (eqb fixed 0)) (leb limits.values index))
known limits have (suc (suc (suc kind))) index fixed h = absurd (omega (arith, h))

known_kind : (limits : Limits) (have : ℕ) (r : Reservation) → r.kind ≤ 2 →
    bad_kind limits have r ≡ (leb (indices limits r.kind) r.index || (not (eqb r.fixed (sound r.kind)) && leb (rows have r.kind) r.fixed))
unfolding bad_kind
known_kind limits have r h = known limits have r.kind r.index r.fixed h

-- an unknown kind
unknown_kind : (limits : Limits) (have : ℕ) (r : Reservation) → 2 < r.kind → bad_kind limits have r ≡ true
unfolding bad_kind
unknown_kind limits have r h =
    simp (
      ne_eqb r.kind 0 (λ e. omega (arith, e, h)),
      ne_eqb r.kind 1 (λ e. omega (arith, e, h)),
      ne_eqb r.kind 2
          (λ e. omega (arith, e, h)),
    ) (or_last (not (eqb r.fixed 0)) refl)

pub returns-then-r-gt2 : goal.returns-then-r-gt2
returns-then-r-gt2 c = let a = c.args in sym (unknown_kind a.limits a.have a.r c.if-r-gt2.true)

pub returns-then-r-indices : goal.returns-then-r-indices
returns-then-r-indices c =
    let a = c.args in
    let e : c.picked-indices.result ≡ indices a.limits a.r.kind = c.picked-indices.ensures ∙ ap (λ (n : ℕ). cond (eqb a.r.kind 1) 1 n) c.picked-known.ensures in
    sym (known_kind a.limits a.have a.r c.if-r-gt2.false ∙ or_first _ _ (le-leb _ _ (subst (λ (n : ℕ). n ≤ a.r.index) e c.if-r-indices.true)))

-- the index is within its limit
index_sound : (limits : Limits) (kind index n : ℕ) → n ≡ indices limits kind → index < n → leb (indices limits kind) index ≡ false
index_sound limits kind index n e h = lt-leb _ _ (subst (λ (m : ℕ). index < m) e h)

pub returns-then-r-unfixed : goal.returns-then-r-unfixed
returns-then-r-unfixed c =
    let a = c.args in
    let e : c.picked-indices.result ≡ indices a.limits a.r.kind = c.picked-indices.ensures ∙ ap (λ (n : ℕ). cond (eqb a.r.kind 1) 1 n) c.picked-known.ensures in
    sym (known_kind a.limits a.have a.r c.if-r-gt2.false
    ∙ or_second _ _ _ (index_sound a.limits a.r.kind a.r.index _ e c.if-r-indices.false)
    (and_first _ _ (ap not (eq-eqb _ _ (c.if-r-unfixed.true ∙ c.picked-unfixed.ensures)))))

pub returns : goal.returns
returns c =
    let a = c.args in
    let e : c.picked-indices.result ≡ indices a.limits a.r.kind = c.picked-indices.ensures ∙ ap (λ (n : ℕ). cond (eqb a.r.kind 1) 1 n) c.picked-known.ensures in
    sym (known_kind a.limits a.have a.r c.if-r-gt2.false
    ∙ or_second _ _ _ (index_sound a.limits a.r.kind a.r.index _ e c.if-r-indices.false)
    (and_both _ _ _ (ap not (ne_eqb _ _ (λ z. c.if-r-unfixed.false (z ∙ sym c.picked-unfixed.ensures))))
    (ap (λ (n : ℕ). leb n a.r.fixed) (sym c.picked-rows.ensures))))

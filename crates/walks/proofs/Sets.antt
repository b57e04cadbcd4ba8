-- The definitions as sets: something fixed is met exactly if some row counts so, and the weights met are those of the rows that weigh
use mathlib.Core.Path.{◌≡◌}
use mathlib.Core.Logic.{◌⊎◌, inl, inr, ⊎_elim, ◌↔◌}
use mathlib.Core.Bool.{Bool, true, false, cond}
use mathlib.Core.List.{List, [], ◌∷◌}
use Prim.Native.Nat.{ℕ}
use native.Mathlib.Nat.{le_refl}
use lib.Dec.{T}
use lib.Ieee.{Float}
use lib.ListN.{get_or}
use Rattle.columns.proofs.OneOf.{OneOf, any_one, one_both}
use Rattle.jobs.specs.declared.rows.Reservation.{Reservation}
use Rattle.numbers.specs.Weight.{Weight, weight_limit, Weights, Among}
use Rattle.numbers.proofs.Bits.{value_weight}
use Rattle.numbers.proofs.Heaviest.{among_one, weights_append}
use Rattle.walks.specs.declared.meeting.GapSegment.{GapSegment}
use Rattle.walks.specs.declared.meeting.Register.{Register}
use Rattle.walks.specs.Meeting.{Reserved, spill_weight, weighs_against, fixed_met, weights_where, weights_met, fixed_met_any, weights_met_all}

-- ---- rows
-- the weights of those that pass a test
pub where_one : (test : Reservation → Bool) (weights : List ℕ) (w : Float)
    → OneOf (λ (rows : List Reservation). Among w (weights_where test weights rows)) (λ (r : Reservation). T (test r) × (w ≡ spill_weight weights r))
unfolding weights_where
where_one test weights w = record { none = λ a. a; next = λ r rows. by (test r) (spill_weight weights r) (weights_where test weights rows) }
  where
    by : (b : Bool) (x : Float) (ws : List Float) → Among w (cond b (x ∷ ws) ws) ↔ ((T b × (w ≡ x)) ⊎ Among w ws)
    by true x ws = (⊎_elim (λ e. inl (tt, e)) (λ a. inr a), ⊎_elim (λ e. inl e.1) (λ a. inr a))
    by false x ws = (λ a. inr a, ⊎_elim (λ e. absurd e.0) (λ a. a))

pub spill_weight_lem : (weights : List ℕ) (r : Reservation) → Weight (spill_weight weights r)
unfolding spill_weight
spill_weight_lem weights r = value_weight weight_limit (get_or weights r.index 0) (le_refl weight_limit)

-- ---- gap segments
module _ (p : Register) (t : Reserved) where
  pub fixed_one : OneOf (λ (xs : List GapSegment). T (fixed_met_any p t xs)) (λ (s : GapSegment). T (fixed_met p t s))
  unfolding fixed_met_any
  fixed_one = any_one (fixed_met p t)

  pub weight_one : (w : Float) → OneOf (λ (xs : List GapSegment). Among w (weights_met_all p t xs)) (λ (s : GapSegment). Among w (weights_met p t s))
  unfolding weights_met_all
  weight_one w = record { none = λ a. a; next = λ s xs. one_both (among_one w) (weights_met p t s) (weights_met_all p t xs) }

  -- what is met are weights
  pub met_weights : (s : GapSegment) → Weights (weights_met p t s)
  unfolding weights_met weights_where
  met_weights s = go t.rows
    where
      go : (rows : List Reservation) → Weights (weights_where (weighs_against p s) t.weights rows)
      go [] = tt
      go (r ∷ rows) = by (weighs_against p s r) (go rows)
        where
          by : (b : Bool) → Weights (weights_where (weighs_against p s) t.weights rows)
              → Weights (cond b (spill_weight t.weights r ∷ weights_where (weighs_against p s) t.weights rows)
              (weights_where (weighs_against p s) t.weights rows))
          by true ws = (spill_weight_lem t.weights r, ws)
          by false ws = ws

  pub all_weights : (xs : List GapSegment) → Weights (weights_met_all p t xs)
  unfolding weights_met_all
  all_weights [] = tt
  all_weights (x ∷ xs) = weights_append (weights_met p t x) (weights_met_all p t xs) (met_weights x) (all_weights xs)

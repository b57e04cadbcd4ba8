-- What segments and uses satisfy that lines 6, 7 and 8 have passed: each clause as a fact
use mathlib.Core.Path.{◌≡◌, sym, ap, ◌∙◌}
use mathlib.Core.Bool.{Bool, true, false, not, ◌&&◌, true≢false}
use mathlib.Core.List.{List}
use Prim.Native.Nat.{ℕ, ◌+◌, ◌-◌, ◌*◌, ◌/◌, ◌%◌, ◌≤◌, ◌<◌}
use native.Mathlib.Omega.{arith}
use lib.Dec.{T, leb, ltb, eqb}
use lib.Ieee.Bits.{is_true}
use lib.ListN.{get_or}
use borrow.Author.Tests.{ltb-false, leb-false, eqb-true, not-false, eq-eqb}
use Rattle.numbers.specs.Point.{round_up}
use Rattle.columns.proofs.Tests.{cond_true, cond_false}
use Rattle.columns.proofs.Counting.{any_hit}
use Rattle.jobs.specs.declared.rows.Segment.{Segment}
use Rattle.jobs.specs.declared.rows.Use.{Use}
use Rattle.jobs.specs.declared.rows.Limits.{Limits}
use Rattle.jobs.specs.Rows.{no_use, live_out, fixed_def}
use Rattle.jobs.specs.Lines.{bad_def, bad_use, bad_end, has_use_at, cost_most, lies_outside}
use Rattle.jobs.proofs.Sound.{or_parts}

-- an "and" that fails, one part of which holds
pub and_rest : (a b : Bool) → a ≡ true → (a && b) ≡ false → b ≡ false
and_rest true b t e = e
and_rest false b t e = absurd (true≢false (sym t))

-- line 6: a segment with the fixed-def flag
pub record Defined (uses : List Use) (s : Segment) : Type 0 where
  pub boundary : s.start % 4 ≡ 0
  pub later : 4 ≤ s.start
  pub some : s.first_use < s.end_use
  pub kind : (get_or uses s.first_use no_use).kind ≡ 0
  pub before : (get_or uses s.first_use no_use).position ≡ s.start / 4 - 1

pub defined : (uses : List Use) (s : Segment) → fixed_def s.flags ≡ true → bad_def uses s ≡ false → Defined uses s
unfolding bad_def
defined uses s flag e =
    let u = get_or uses s.first_use no_use in
    let p4 = or_parts _ (not (eqb u.position (s.start / 4 - 1))) (and_rest (fixed_def s.flags) _ flag e) in
    let p3 = or_parts _ (not (eqb u.kind 0)) p4.0 in
    let p2 = or_parts _ (leb s.end_use s.first_use) p3.0 in
    let p1 = or_parts (not (eqb (s.start % 4) 0)) (ltb s.start 4) p2.0 in
    record {
      boundary = eqb-true (s.start % 4) 0 (not-false (eqb (s.start % 4) 0) p1.0);
      later = ltb-false s.start 4 p1.1;
      some = leb-false s.end_use s.first_use p2.1;
      kind = eqb-true u.kind 0 (not-false (eqb u.kind 0) p3.1);
      before = eqb-true u.position (s.start / 4 - 1) (not-false (eqb u.position (s.start / 4 - 1)) p4.1);
    }

-- line 7: a use of a segment after another use
pub record Fitting (limits : Limits) (s : Segment) (isFirst : Bool) (last u : Use) : Type 0 where
  pub kind : u.kind ≤ 9
  pub cost : u.cost ≤ cost_most u.kind
  pub blocked : 4 * u.position < limits.end
  pub rises : isFirst ≡ false → last.position ≤ u.position
  pub inside : (isFirst && fixed_def s.flags) ≡ false → (s.start < 4 * (u.position + 1)) × (4 * u.position ≤ s.end)

pub fitting : (limits : Limits) (s : Segment) (isFirst : Bool) (last u : Use) → bad_use limits s isFirst last u ≡ false → Fitting limits s isFirst last u
unfolding bad_use
fitting limits s isFirst last u e =
    let p4 = or_parts _ (not (isFirst && fixed_def s.flags) && lies_outside s u) e in
    let p3 = or_parts _ (not isFirst && ltb u.position last.position) p4.0 in
    let p2 = or_parts _ (leb limits.end (4 * u.position)) p3.0 in
    let p1 = or_parts (ltb 9 u.kind) (ltb (cost_most u.kind) u.cost) p2.0 in
    record {
      kind = ltb-false 9 u.kind p1.0;
      cost = ltb-false (cost_most u.kind) u.cost p1.1;
      blocked = leb-false limits.end (4 * u.position) p2.1;
      rises = λ f. ltb-false u.position last.position (and_rest (not isFirst) _ (ap not f) p3.1);
      inside =
          λ f. bounds (or_parts (leb (4 * (u.position + 1)) s.start) (ltb s.end (4 * u.position))
          (and_rest (not (isFirst && fixed_def s.flags)) _ (ap not f) p4.1));
    }
  where
    bounds : (leb (4 * (u.position + 1)) s.start ≡ false) × (ltb s.end (4 * u.position) ≡ false)
        → (s.start < 4 * (u.position + 1)) × (4 * u.position ≤ s.end)
    bounds p = (leb-false (4 * (u.position + 1)) s.start p.0, ltb-false s.end (4 * u.position) p.1)

-- a use of a segment's list at an instruction
pub used_at : (uses : List Use) (s : Segment) (p u : ℕ) → s.first_use ≤ u → u < s.end_use → (get_or uses u no_use).position ≡ p → T (has_use_at uses s p)
used_at uses s p u l m e =
    let f = s.first_use in
    let there : u ≡ f + (u - f) = omega (arith, l) in
    any_hit (λ (k : ℕ). eqb (get_or uses (f + k) no_use).position p) (s.end_use - f) (u - f) (omega (arith, l, m))
    (rw (eq-eqb _ _ (ap (λ (k : ℕ). (get_or uses k no_use).position) (sym there) ∙ e)) tt)

-- line 8: a segment that is live-out
pub record LivesOut (uses : List Use) (s : Segment) : Type 0 where
  pub boundary : s.end % 4 ≡ 0
  pub apart : (u : ℕ) → s.first_use ≤ u → u < s.end_use → (get_or uses u no_use).position ≡ s.end / 4 → ⊥

pub lives_out : (uses : List Use) (is_last : Bool) (s : Segment) → live_out s.flags ≡ true → bad_end uses is_last s ≡ false → LivesOut uses s
unfolding bad_end
lives_out uses is_last s flag e =
    let p = or_parts (not (eqb (s.end % 4) 0)) (has_use_at uses s (s.end / 4)) (sym (cond_true _ _ flag) ∙ e) in
    record {
      boundary = eqb-true (s.end % 4) 0 (not-false (eqb (s.end % 4) 0) p.0);
      apart = λ u l m q. true≢false (sym (is_true _ (used_at uses s (s.end / 4) u l m q)) ∙ p.1);
    }

-- line 8: the last segment, not live-out
pub record Ended (uses : List Use) (s : Segment) : Type 0 where
  pub some : s.first_use < s.end_use
  pub near : round_up s.end ≤ (get_or uses (s.end_use - 1) no_use).position + 1

pub ended : (uses : List Use) (s : Segment) → live_out s.flags ≡ false → bad_end uses true s ≡ false → Ended uses s
unfolding bad_end
ended uses s flag e =
    let last = (get_or uses (s.end_use - 1) no_use).position in
    let p = or_parts (leb s.end_use s.first_use) (ltb (last + 1) (round_up s.end)) (sym (cond_false _ _ flag) ∙ e) in
    record { some = leb-false s.end_use s.first_use p.0; near = ltb-false (last + 1) (round_up s.end) p.1 }

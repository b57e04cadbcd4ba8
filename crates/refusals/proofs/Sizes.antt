-- What parameters and sizes satisfy that lines 1 and 2 have passed: each clause as a fact
use mathlib.Core.Path.{◌≡◌}
use mathlib.Core.Bool.{false}
use Prim.Native.Nat.{ℕ, ◌≤◌, ◌<◌}
use native.Mathlib.Omega.{arith}
use lib.Dec.{ltb, eqb}
use borrow.Author.Tests.{ltb-false, eqb-false}
use Rattle.numbers.specs.Weight.{cost_limit}
use Rattle.links.specs.Blocks.{item_limit}
use Rattle.jobs.proofs.Sound.{or_parts}
use Rattle.refusals.specs.declared.job.Sizes.{Sizes}
use Rattle.refusals.specs.Refusals.{bad_parameters, some_long, bad_sizes, adjustment_limit, unit_limit}

-- line 1
pub record Limited (k move load indirect : ℕ) : Type 0 where
  pub adjustment : k ≤ adjustment_limit
  pub move_scale : move ≤ cost_limit
  pub load_scale : load ≤ cost_limit
  pub indirect_scale : indirect ≤ cost_limit

pub limited : (k move load indirect : ℕ) → bad_parameters k move load indirect ≡ false → Limited k move load indirect
unfolding bad_parameters
limited k move load indirect e =
    let p3 = or_parts _ (ltb cost_limit indirect) e in
    let p2 = or_parts _ (ltb cost_limit load) p3.0 in
    let p1 = or_parts (ltb adjustment_limit k) (ltb cost_limit move) p2.0 in
    record {
      adjustment = ltb-false adjustment_limit k p1.0;
      move_scale = ltb-false cost_limit move p1.1;
      load_scale = ltb-false cost_limit load p2.1;
      indirect_scale = ltb-false cost_limit indirect p3.1;
    }

-- line 2: no table has more than 4,096 items
pub record Short (t : Sizes) : Type 0 where
  pub blocks : t.blocks ≤ item_limit
  pub values : t.values ≤ item_limit
  pub segments : t.segments ≤ item_limit
  pub uses : t.uses ≤ item_limit
  pub weights : t.weights ≤ item_limit
  pub reservations : t.reservations ≤ item_limit
  pub fixed_uses : t.fixed_uses ≤ item_limit

pub short : (t : Sizes) → some_long t ≡ false → Short t
unfolding some_long
short t e =
    let p6 = or_parts _ (ltb item_limit t.fixed_uses) e in
    let p5 = or_parts _ (ltb item_limit t.reservations) p6.0 in
    let p4 = or_parts _ (ltb item_limit t.weights) p5.0 in
    let p3 = or_parts _ (ltb item_limit t.uses) p4.0 in
    let p2 = or_parts _ (ltb item_limit t.segments) p3.0 in
    let p1 = or_parts (ltb item_limit t.blocks) (ltb item_limit t.values) p2.0 in
    record {
      blocks = ltb-false item_limit t.blocks p1.0;
      values = ltb-false item_limit t.values p1.1;
      segments = ltb-false item_limit t.segments p2.1;
      uses = ltb-false item_limit t.uses p3.1;
      weights = ltb-false item_limit t.weights p4.1;
      reservations = ltb-false item_limit t.reservations p5.1;
      fixed_uses = ltb-false item_limit t.fixed_uses p6.1;
    }

-- line 2, whole
pub record Sized (units : ℕ) (t : Sizes) : Type 0 where
  pub some_blocks : 0 < t.blocks
  pub some_segments : 0 < t.segments
  pub some_units : 1 ≤ units
  pub few_units : units ≤ unit_limit
  pub items : Short t

some : (n : ℕ) → eqb n 0 ≡ false → 0 < n
some n e = above n (eqb-false n 0 e)
  where
    above : (n : ℕ) → (n ≡ 0 → ⊥) → 0 < n
    above n h = omega arith

pub sized : (units : ℕ) (t : Sizes) → bad_sizes units t ≡ false → Sized units t
unfolding bad_sizes
sized units t e =
    let p4 = or_parts _ (some_long t) e in
    let p3 = or_parts _ (ltb unit_limit units) p4.0 in
    let p2 = or_parts _ (eqb units 0) p3.0 in
    let p1 = or_parts (eqb t.blocks 0) (eqb t.segments 0) p2.0 in
    record {
      some_blocks = some t.blocks p1.0;
      some_segments = some t.segments p1.1;
      some_units = some units p2.1;
      few_units = ltb-false unit_limit units p3.1;
      items = short t p4.1;
    }

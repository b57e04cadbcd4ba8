-- `take_segment` walks the register's units one after the other: what is known is what the units before v count
use mathlib.Core.Path.{◌≡◌, refl, sym, subst}
use Prim.Native.Nat.{ℕ, ◌+◌, ◌<◌}
use native.Mathlib.Nat.{le_refl, lt_of_lt_of_le}
use native.Mathlib.Omega.{arith}
use Rattle.walks.specs.Meeting.{Reserved}
use Rattle.walks.specs.Standing.{Sound, segment_end}
use Rattle.walks.proofs.Seen.{Seen, seen_only}
use Rattle.walks.proofs.Counted.{RowsOf, counted, first_units, units_none, units_more, met_seen}
use Rattle.walks.proofs.AllUnits.{walked_none, walked_more}
use Rattle.walks.proofs.walk.Walk.take_segment.Invariants.{Inside, StandsAt}
use Rattle.walks.proofs.walk.Walk.take_segment.Goals as goal

pub loop-v-init : goal.loop-v-init
loop-v-init c =
    let a = c.args in
    let t : Reserved = a.reserved.now in
    let places = c.requires.1 in (
      refl,
      walked_none _ _ (Inside t) a.self.at places.eight places.inside,
      λ sound st. (
        walked_none _ _ (StandsAt a.side a.register t (segment_end a.side a.s)) a.self.at places.eight st.in_unit,
        units_none a.register t a.s a.met sound.weight,
      ),
    )

pub loop-v-preserved : goal.loop-v-preserved
loop-v-preserved c =
    let a = c.args in
    let t : Reserved = a.reserved.now in
    let v = c.loop-v-test.true in
    let few = c.requires.0.few in
    let w = c.walk_unit-w in
    let i = c.loop-v.invariant in (
      i.0,
      walked_more w.result.at v few w.ensures.0 i.1,
      λ sound st. let k = i.2 sound st in
          let now : Sound t a.s c.loop-v.met =
          record { ready = sound.ready; nonempty = sound.nonempty; weight = k.1.weight } in
          let r = w.ensures.1 now (k.0.waiting c.loop-v.v (le_refl c.loop-v.v) v) in (
            walked_more w.result.at v few r.1 k.0,
            subst (Seen (counted t a.s) (RowsOf (first_units a.register (c.loop-v.v + 1)) t) a.met) (sym r.0)
                (units_more a.register t a.s c.loop-v.v a.met c.loop-v.met k.1),
          ),
    )

-- all units have been walked
pub returns : goal.returns
returns c =
    let a = c.args in
    let t : Reserved = a.reserved.now in
    let i = c.loop-v.invariant in
    let m = c.loop-v.met in
    let all : c.loop-v.v ≡ a.register.units = omega arith in
    let done : (v : ℕ) → v < a.register.units → v < c.loop-v.v = λ v h. lt_of_lt_of_le h c.loop-v-test.false in (
      i.0,
      record { eight = i.1.eight; inside = λ v h. i.1.walked v (done v h) },
      λ sound st. let k = i.2 sound st in (
        seen_only
            (subst (λ (v : ℕ). Seen (counted t a.s) (RowsOf (first_units a.register v) t) a.met m) all k.1)
            (met_seen t a.s a.register a.met sound.weight),
        record { in_unit = λ v h. k.0.walked v (done v h) },
      ),
    )

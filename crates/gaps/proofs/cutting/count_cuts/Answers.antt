-- `count_cuts` counts: what it has counted and the cuts left are all cuts
use mathlib.Core.Path.{◌≡◌, refl, sym, ap, ◌∙◌}
use mathlib.Core.List.{List, []}
use Prim.Native.Nat.{ℕ, ◌+◌, ◌<◌}
use native.Mathlib.Omega.{arith}
use lib.ListN.{length}
use Rattle.links.specs.Links.{beside}
use Rattle.links.specs.declared.lower.Side.{Side}
use Rattle.gaps.specs.Cutting.{Leads, cuts_in}
use Rattle.gaps.proofs.Cuts.{next_cut, cut_gone, cut_at, cut_stopped, one_more, followed_end, followed_few, all_enough}
use Rattle.gaps.proofs.cutting.count_cuts.Invariants.{Counting}
use Rattle.gaps.proofs.cutting.count_cuts.Goals as goal
use Rattle.std.specs.Prelude.{Some, None}

starts : (side : Side) (links : List ℕ) (last b : ℕ) → Leads side links → b < length links → Counting side links last b b 0
starts side links last b leads h = record { leads = leads; inside = h; fuel = length links; enough = all_enough side (length links) b h; counts = omega arith }

module _ (side : Side) (links : List ℕ) (last b₀ b n : ℕ) (k : Counting side links last b₀ b n) where
  small : n < 4294967296
  small = let f = followed_few side links last (length links) b₀ in let l = k.leads.few in let e = k.counts in omega (arith, f, l, e)

  goes_on : (c : ℕ) → next_cut side links last b ≡ Some (record { 0 = c })
      → Counting side links last b₀ c (n + 1) × (beside side (length links) c < beside side (length links) b)
  goes_on c e =
      let m = one_more side links k.leads last b c k.fuel k.inside k.enough e in
      let l = ap length m.more in
      let t = k.counts in (
        record { leads = k.leads; inside = m.inside; fuel = m.fuel_after; enough = m.enough; counts = omega (arith, l, t) },
        m.fewer,
      )

  ends : next_cut side links last b ≡ None → n ≡ length (cuts_in side links last b₀)
  ends e =
      let l = ap length (followed_end side links last b k.fuel e) in
      let t = k.counts in
      let z : length {A = ℕ} [] ≡ 0 = refl in
      omega (arith, l, t, z)

pub loop-lower-init : goal.loop-lower-init
loop-lower-init c = starts _ _ _ _ c.requires.0 c.requires.1

pub overflow_add-n : goal.overflow_add-n
overflow_add-n c =
    let s = small _ _ _ _ _ _ c.loop-lower.invariant in
    omega arith

pub loop-lower-preserved : goal.loop-lower-preserved
loop-lower-preserved c =
    let a = c.args in
    let l = c.loop-lower in
    (goes_on _ _ _ _ _ _ l.invariant c.in-Some.lower.0
    (sym
    (cut_at a.side a.links.now l.invariant.leads a.last.0 l.b.0 l.invariant.inside c.in-Some.lower.0
    (sym c.link_at.ensures ∙ c.in-Some.is) (sym c.reaches.ensures ∙ c.if-not-reaches.false)))).0

pub returns-in_default : goal.returns-in_default
returns-in_default c =
    let a = c.args in
    let l = c.loop-lower in
    ends _ _ _ _ _ _ l.invariant
    (sym
    (cut_gone a.side a.links.now l.invariant.leads a.last.0 l.b.0 l.invariant.inside
    (sym c.link_at.ensures ∙ c.in_default.is)))

pub returns-then-not-reaches : goal.returns-then-not-reaches
returns-then-not-reaches c =
    let a = c.args in
    let l = c.loop-lower in
    ends _ _ _ _ _ _ l.invariant
    (sym
    (cut_stopped a.side a.links.now l.invariant.leads a.last.0 l.b.0 l.invariant.inside c.in-Some.lower.0
    (sym c.link_at.ensures ∙ c.in-Some.is) (sym c.reaches.ensures ∙ c.if-not-reaches.true)))

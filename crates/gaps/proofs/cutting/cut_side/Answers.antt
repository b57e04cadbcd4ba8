-- `cut_side` stores the gaps between one pair of uses after the other
use mathlib.Core.Path.{◌≡◌, refl, sym, ap, ap₂, ◌∙◌, subst}
use Prim.Native.Nat.{◌+◌}
use native.Mathlib.Omega.{arith}
use lib.ListN.{length}
use Rattle.gaps.specs.Cutting.{stored_gaps, CutRows}
use Rattle.gaps.specs.Lent.{cut_in}
use Rattle.gaps.specs.Cutting.{space_of, space_gaps, Ordered}
use Rattle.gaps.specs.declared.cutting.Space.{Space}
use Rattle.gaps.proofs.Sides.{siding_starts, siding_room, siding_next, siding_ends, space_inside}
use Rattle.gaps.proofs.cutting.cut_side.Goals as goal

pub loop-k-init : goal.loop-k-init
loop-k-init c = (siding_starts _ _ _ _ _ c.requires.room, refl)

pub cut_space-n-requires : goal.cut_space-n-requires
cut_space-n-requires c =
    let a = c.args in
    let l = c.loop-k in
    let p = c.requires.leads in
    let ordered : Ordered a.end.now (length a.freq.now) c.at-u.result c.at-v.result = rw (c.at-u.ensures, c.at-v.ensures) (c.requires.in_order.each l.k l.invariant.0.from c.loop-k-test.true) in
    let space_is = c.space_between-s.ensures ∙ ap₂ (space_of a.side a.end.now (length a.freq.now)) c.at-u.ensures c.at-v.ensures in
    let b = space_inside a.side a.end.now (length a.freq.now) c.at-u.result c.at-v.result ordered in
    let e = ap (λ (s : Space). s.block.0) c.space_between-s.ensures in
    let z = p.1.links_long in record {
      leads = (p.0, p.1, omega (arith, b, e, z));
      room = subst
          (λ (s : Space). CutRows (l.n + length (space_gaps a.side a.freq.now a.edges.now a.links.now s))
          (cut_in l.gaps)) (sym space_is)
          (siding_room _ _ _ _ _ _ _ _ l.invariant.0 c.loop-k-test.true);
    }

pub loop-k-preserved : goal.loop-k-preserved
loop-k-preserved c =
    let a = c.args in
    let l = c.loop-k in
    let n = c.cut_space-n in
    let space_is = c.space_between-s.ensures ∙ ap₂ (space_of a.side a.end.now (length a.freq.now)) c.at-u.ensures c.at-v.ensures in (
      siding_next _ _ _ _ _ _ _ _ l.invariant.0 c.loop-k-test.true
          (subst
          (λ (s : Space).
          (n.result ≡ l.n + length (space_gaps a.side a.freq.now a.edges.now a.links.now s)) ×
          (cut_in n.new.gaps ≡ stored_gaps l.n (space_gaps a.side a.freq.now a.edges.now a.links.now s) (cut_in l.gaps)))
          space_is n.ensures.value),
      n.ensures.same ∙ l.invariant.1,
    )

pub returns-clause-value : goal.returns-clause-value
returns-clause-value c = siding_ends _ _ _ _ _ _ _ _ c.loop-k.invariant.0 c.loop-k-test.false

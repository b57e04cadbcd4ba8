-- `cut_space` stores the gaps of a space: what is left, stored into the columns as they are, gives what all of them give
use mathlib.Core.Path.{◌≡◌, refl, sym, ap, ◌∙◌}
use Prim.Native.Nat.{ℕ, ◌+◌}
use native.Mathlib.Omega.{arith}
use lib.Ieee.{of_bits}
use Rattle.gaps.specs.Lent.{cut_in}
use Rattle.gaps.proofs.Cuts.{next_cut, cut_gone, cut_at, cut_stopped}
use Rattle.gaps.proofs.Spaces.{first_inside, storing_starts, storing_next, storing_step, storing_done, row_inside}
use Rattle.gaps.proofs.cutting.cut_space.Goals as goal
use Rattle.gaps.proofs.cutting.cut_space.Goals.{in_default, in-Some+then-not-reaches}
use Rattle.std.specs.Prelude.{Some, None}

pub overflow_add-first : goal.overflow_add-first
overflow_add-first c =
    let a = c.args in
    let e = c.rows_before.ensures in
    let r = c.requires.room.from in
    let f =
    first_inside a.side a.freq.now a.edges.now a.links.now a.s a.n
    (cut_in a.gaps.now) in
    omega (arith, e, r, f)

pub loop-lower-init : goal.loop-lower-init
loop-lower-init c =
    let a = c.args in (
      storing_starts a.side a.freq.now a.edges.now a.links.now a.s a.n
          (cut_in a.gaps.now) c.requires.leads.0 c.requires.leads.1 c.requires.leads.2 c.requires.room
          (a.n + c.rows_before.result) (ap (λ (x : ℕ). a.n + x) c.rows_before.ensures),
      refl,
    )

pub put_gap-requires : goal.put_gap-requires
put_gap-requires c = row_inside _ _ _ _ _ _ _ _ _ _ _ _ c.loop-lower.invariant.0

pub next_row-at-requires : goal.next_row-at-requires
next_row-at-requires c =
    let l = c.loop-lower in
    let row = row_inside _ _ _ _ _ _ _ _ _ _ _ _ l.invariant.0 in
    let cut = cut_at c.args.side c.args.links.now l.invariant.0.leads c.args.s.last.0 l.b.0 l.invariant.0.inside c.in-Some.lower.0
    (sym c.link_at.ensures ∙ c.in-Some.is) (sym c.reaches.ensures ∙ c.if-not-reaches.false) in
    let next = storing_next _ _ _ _ _ _ _ _ _ _ _ _ l.invariant.0 c.in-Some.lower.0 (sym cut) in
    (next.3, omega (arith, row.from, l.invariant.0.same.from))

pub loop-lower-preserved : goal.loop-lower-preserved
unfolding of_bits
loop-lower-preserved c =
    let cut : let a = c.args in next_cut a.side a.links.now a.s.last.0 c.loop-lower.b.0 ≡ Some (record { 0 = c.in-Some.lower.0 }) = let a = c.args in
    let l = c.loop-lower in
    sym
    (cut_at a.side a.links.now l.invariant.0.leads a.s.last.0 l.b.0 l.invariant.0.inside c.in-Some.lower.0
    (sym c.link_at.ensures ∙ c.in-Some.is) (sym c.reaches.ensures ∙ c.if-not-reaches.false)) in
    let l = c.loop-lower in (
      storing_step _ _ _ _ _ _ _ _ _ _ _ _ l.invariant.0 c.in-Some.lower.0 cut
          c.block_frequency-f.ensures c.put_gap.ensures.value c.next_row-at.ensures,
      c.put_gap.ensures.same ∙ l.invariant.1,
    )

pub put_gap-requires-2 : goal.put_gap-requires-2
put_gap-requires-2 c = row_inside _ _ _ _ _ _ _ _ _ _ _ _ c.loop-lower.invariant.0

-- with the gap up to the farther use all are stored
pub returns-clause-value : goal.returns-clause-value
returns-clause-value c =
    let gone : let a = c.args in next_cut a.side a.links.now a.s.last.0 c.loop-lower.b.0 ≡ None = let a = c.args in
    let l = c.loop-lower in
    let link = sym c.link_at.ensures in
    sym
    (elim c.match-link_at.branch [
      | in_default w ↦ cut_gone a.side a.links.now l.invariant.0.leads a.s.last.0 l.b.0 l.invariant.0.inside (link ∙ w.in_default.is)
      | in-Some+then-not-reaches w ↦ cut_stopped a.side a.links.now l.invariant.0.leads a.s.last.0 l.b.0 l.invariant.0.inside
          w.in-Some.lower.0 (link ∙ w.in-Some.is) (sym w.reaches.ensures ∙ w.if-not-reaches.true)
    ]) in
    let a = c.args in
    let l = c.loop-lower in
    storing_done _ _ _ _ _ _ _ _ _ _ _ _ l.invariant.0
    gone c.block_frequency-far_freq.ensures c.put_gap-2.ensures.value
    (ap (λ (x : ℕ). a.n + x) c.rows_before.ensures) c.max.ensures

pub overflow_add-result : goal.overflow_add-result
overflow_add-result c =
    let a = c.args in
    let first = first_inside a.side a.freq.now a.edges.now a.links.now a.s a.n
    (cut_in a.gaps.now) in
    let row = row_inside _ _ _ _ _ _ _ _ _ _ _ _ c.loop-lower.invariant.0 in
    omega (arith, first, row.from, c.loop-lower.invariant.0.same.from, c.requires.room.from, c.rows_before.ensures)

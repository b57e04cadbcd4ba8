-- `live_insts` goes through the segments with where the one before ended and the sum so far, which lies before that
use mathlib.Core.Path.{◌≡◌, refl, sym, ap, ap₂, ◌∙◌}
use Prim.Native.Nat.{ℕ, ◌+◌, ◌-◌, ◌≤◌, ◌<◌, max}
use mathlib.Core.List.{List}
use native.Mathlib.Omega.{arith}
use lib.ListN.{length, get_or}
use Rattle.numbers.specs.Point.{inst_of, round_up}
use Rattle.links.specs.Blocks.{end_limit}
use Rattle.columns.specs.Below.{sum_below}
use Rattle.overlaps.specs.Live.{live_of, Segments}
use Rattle.overlaps.proofs.LiveLaws.{last_of, sum_next, last_next, live_order, live_inside, live_before}
use Rattle.overlaps.proofs.live.live_insts.Goals as goal

-- a turn, at segment i
module _ (starts ends : List ℕ) (given : Segments starts ends) (i last sum first to : ℕ) (inside : i < length starts)
    (before : last ≡ last_of ends i) (summed : sum ≡ sum_below (live_of starts ends) i)
    (from : first ≡ max last (inst_of (get_or starts i 0))) (to_is : to ≡ round_up (get_or ends i 0)) where
  from_is : first ≡ max (last_of ends i) (inst_of (get_or starts i 0))
  from_is = from ∙ ap (λ (l : ℕ). max l (inst_of (get_or starts i 0))) before

  ordered : first ≤ to
  ordered = let p = live_order starts ends given i inside in let f = from_is in omega (arith, p, f, to_is)

  turned : (to ≡ last_of ends (i + 1)) × (sum + (to - first) ≡ sum_below (live_of starts ends) (i + 1))
  turned = (
    to_is ∙ last_next ends i,
    ap₂ (λ (a b : ℕ). a + b) summed (ap₂ (λ (z a : ℕ). z - a) to_is from_is) ∙ sym (sum_next (live_of starts ends) i),
  )

  limited : sum + (to - first) ≤ end_limit
  limited =
      let m = live_inside starts ends given i inside in
      let b = live_before starts ends given (i + 1) (omega (arith, inside)) in
      let l = last_next ends i in
      let s = turned.1 in
      omega (arith, m, b, l, s)

pub loop-i-init : goal.loop-i-init
unfolding sum_below
loop-i-init c = (refl, refl)

pub bounds-end-i : goal.bounds-end-i
bounds-end-i c = let e = c.requires.long in omega arith

pub overflow_sub-sum : goal.overflow_sub-sum
overflow_sub-sum c =
    let l = c.loop-i in
    let o = ordered c.args.start.now c.args.end.now c.requires l.i l.last.0 l.sum _ _ (omega arith) l.invariant.0 l.invariant.1
    c.live_from-first.ensures c.live_to-last.ensures in
    omega arith

pub overflow_add-sum : goal.overflow_add-sum
overflow_add-sum c =
    let l = c.loop-i in
    let m = limited c.args.start.now c.args.end.now c.requires l.i l.last.0 l.sum _ _ (omega arith) l.invariant.0 l.invariant.1
    c.live_from-first.ensures c.live_to-last.ensures in
    omega arith

pub loop-i-preserved : goal.loop-i-preserved
loop-i-preserved c =
    let l = c.loop-i in
    turned c.args.start.now c.args.end.now c.requires l.i l.last.0 l.sum _ _ (omega arith) l.invariant.0 l.invariant.1
    c.live_from-first.ensures c.live_to-last.ensures

-- `sweep` reaches the last place that lower links reach: its state after t blocks is a sweep of `Following`
use mathlib.Core.Path.{◌≡◌, sym, ap, ◌∙◌, subst, subst₂}
use mathlib.Core.Bool.{true, false}
use mathlib.Core.List.{List}
use Prim.Native.Nat.{ℕ, ◌+◌, ◌≤◌, ◌<◌}
use native.Mathlib.Nat.{le_trans, not-le_of_lt}
use native.Mathlib.Omega.{arith}
use borrow.Author.Tests.{lt-ltb, le-ltb}
use lib.Dec.{ltb, lit≤}
use lib.ListN.{length, get_or}
use Rattle.numbers.specs.declared.Inst.{Inst}
use Rattle.links.specs.Links.{beside, beyond, absent, is_lower}
use Rattle.links.specs.Split.{reaches, Swept, last_reached}
use Rattle.links.specs.declared.lower.Side.{Side}
use Rattle.links.proofs.Linking.{beyond_inside, lower_bits}
use Rattle.links.proofs.Following.{Sweep, sweep_starts, sweep_lower, sweep_passes, sweep_ends, stopped}
use Rattle.links.proofs.split.sweep.Goals as goal
use Rattle.links.proofs.split.sweep.Goals.{then-f-least, else-f-least}

module _ (side : Side) (f edges : List ℕ) (limit start b : ℕ) (pre : Swept f edges b) (t p l : ℕ) (s : Sweep side f edges limit start b t p l) where
  few : length f ≤ absent
  few = le_trans pre.given.few (lit≤ tt)

  -- the next block i is lower than the last one reached exactly if its bits are below the least so far
  lower_at : t < beside side (length f) b → is_lower f s.last (beyond side b t) ≡ ltb (get_or f (beyond side b t) 0) l
  lower_at inside =
      lower_bits f s.last (beyond side b t) (pre.given.sound (beyond side b t) (beyond_inside side (length f) b t pre.inside inside))
      (pre.given.sound s.last s.inside)
      ∙ ap (ltb (get_or f (beyond side b t) 0)) (sym s.lowest)

  -- a turn
  turn_lower : (i : ℕ) → i ≡ beyond side b t → t < beside side (length f) b → get_or f i 0 < l → reaches side limit (get_or edges i 0) ≡ true
      → Sweep side f edges limit start b (t + 1) (get_or edges i 0) (get_or f i 0)
  turn_lower i at inside =
      subst (λ (x : ℕ). get_or f x 0 < l → reaches side limit (get_or edges x 0) ≡ true → Sweep side f edges limit start b (t + 1) (get_or edges x 0) (get_or f x 0))
      (sym at)
      (λ h w. sweep_lower side f edges limit start b few pre.inside t p l s inside (lower_at inside ∙ lt-ltb (get_or f (beyond side b t) 0) l h) w)

  turn_passes : (i : ℕ) → i ≡ beyond side b t → t < beside side (length f) b → l ≤ get_or f i 0 → Sweep side f edges limit start b (t + 1) p l
  turn_passes i at inside h =
      sweep_passes side f edges limit start b few pre.inside t p l s inside
      (lower_at inside ∙ le-ltb (get_or f (beyond side b t) 0) l (subst (λ (x : ℕ). l ≤ get_or f x 0) at h))

  -- the ends: a place that the limit stops, or no block left
  ends_stopped : (i : ℕ) → i ≡ beyond side b t → t < beside side (length f) b → reaches side limit (get_or edges i 0) ≡ false
      → p ≡ last_reached side f edges limit start b
  ends_stopped i at inside e =
      sweep_ends side f edges limit start b few pre.inside t p l s
      (λ d m n. stopped side edges (length f) limit b t d pre.rising pre.inside m n (subst (λ (x : ℕ). reaches side limit (get_or edges x 0) ≡ false) at e))

  ends_swept : beside side (length f) b ≤ t → p ≡ last_reached side f edges limit start b
  ends_swept h = sweep_ends side f edges limit start b few pre.inside t p l s (λ d m n. absurd (not-le_of_lt n (le_trans h m)))

pub loop-t-init : goal.loop-t-init
loop-t-init c =
    sweep_starts c.args.side c.args.freq.now c.args.edges.now c.args.limit.0 c.args.start.0 c.args.b.0
    c.requires.inside

pub returns-then-not-reaches : goal.returns-then-not-reaches
returns-then-not-reaches c =
    let i = c.beyond-i in
    ends_stopped c.args.side c.args.freq.now c.args.edges.now c.args.limit.0 c.args.start.0 c.args.b.0
    c.requires c.loop-t.t c.loop-t.split.0 c.loop-t.least c.loop-t.invariant
    i.result i.ensures (omega arith) (sym c.reaches.ensures ∙ c.if-not-reaches.true)

pub loop-t-preserved : goal.loop-t-preserved
loop-t-preserved c =
    let i = c.beyond-i in
    elim c.if-f-least.branch [
      | then-f-least w ↦ subst₂
          (λ (p : Inst) (q : ℕ). Sweep c.args.side c.args.freq.now c.args.edges.now c.args.limit.0 c.args.start.0
          c.args.b.0 (c.loop-t.t + 1) p.0 q) (sym w.split-is) (sym w.least-is)
          (turn_lower c.args.side c.args.freq.now c.args.edges.now c.args.limit.0 c.args.start.0 c.args.b.0
          c.requires c.loop-t.t c.loop-t.split.0 c.loop-t.least c.loop-t.invariant
          i.result i.ensures (omega arith) w.if-f-least.true (sym c.reaches.ensures ∙ c.if-not-reaches.false))
      | else-f-least w ↦ subst₂
          (λ (p : Inst) (q : ℕ). Sweep c.args.side c.args.freq.now c.args.edges.now c.args.limit.0 c.args.start.0
          c.args.b.0 (c.loop-t.t + 1) p.0 q) (sym w.split-is) (sym w.least-is)
          (turn_passes c.args.side c.args.freq.now c.args.edges.now c.args.limit.0 c.args.start.0 c.args.b.0
          c.requires c.loop-t.t c.loop-t.split.0 c.loop-t.least c.loop-t.invariant
          i.result i.ensures (omega arith) w.if-f-least.false)
    ]

pub returns : goal.returns
returns c =
    ends_swept c.args.side c.args.freq.now c.args.edges.now c.args.limit.0 c.args.start.0 c.args.b.0
    c.requires c.loop-t.t c.loop-t.split.0 c.loop-t.least c.loop-t.invariant
    (omega arith)

-- `lower_link` finds the link: every block between b and j is passed, and a block that is not lower is passed together with all that its own link passes
use mathlib.Core.Path.{◌≡◌, refl, sym, ap, ◌∙◌, subst}
use mathlib.Core.List.{List}
use Prim.Native.Nat.{ℕ, ◌+◌, ◌-◌, ◌≤◌, ◌<◌}
use native.Mathlib.Nat.{le_trans, not-le_of_lt, not-suc-le-zero}
use native.Mathlib.Omega.{arith}
use borrow.Author.Tests.{lt-ltb, le-ltb}
use lib.Dec.{ltb, lit≤}
use lib.ListN.{length, get_or}
use Rattle.columns.proofs.Tests.{cond_true, cond_false}
use Rattle.links.specs.Links.{beside, beyond, absent, is_lower, lower_link, LiesBeyond, IsLink, LinkedBeyond}
use Rattle.links.specs.declared.lower.Side.{Side}
use Rattle.links.specs.declared.lower.Side.TheVariants.{Previous, Next}
use Rattle.links.proofs.Linking.{link_nearest, link_is, link_jump, lower_bits, distance, beyond_inside, beyond_beyond, beyond_further}
use Rattle.links.proofs.Linking.{nearer, remaining, fewer}
use Rattle.links.proofs.lower.lower_link.Invariants.{side_from, Walk}
use Rattle.links.proofs.lower.lower_link.Goals as goal

side_from_lem : (side : Side) (n b : ℕ) → 0 < beside side n b → side_from b (beyond side b 0) ≡ side
unfolding side_from
side_from_lem Previous n b h = cond_true Previous Next (lt-ltb (b - (0 + 1)) b (omega arith))
side_from_lem Next n b h = cond_false Previous Next (le-ltb (b + 1 + 0) b (omega arith))

-- at the nearest block nothing is between
walk_starts : (side : Side) (f : List ℕ) (b : ℕ) → b < length f → 0 < beside side (length f) b → Walk side f b (beyond side b 0)
walk_starts side f b h s =
    record {
      onward = λ _. beyond_beyond side (length f) b 0 s;
      passed = λ k kn bk kj.
          let d = distance side (length f) b k h kn bk in
          let m = kj (beyond_inside side (length f) b 0 h s) in
          absurd (not-suc-le-zero (nearer side (length f) b d.between 0 d.inside s
          (subst (λ (x : ℕ). LiesBeyond side x (beyond side b 0)) (sym d.is) m)));
    }

module _ (side : Side) (f links : List ℕ) (b : ℕ) (pre : LinkedBeyond side f links b) where
  few : length f ≤ absent
  few = le_trans pre.given.few (lit≤ tt)

  -- the stored link of a block beyond b is its link
  stored : (j : ℕ) → j < length f → LiesBeyond side b j → IsLink side f j (get_or links j 0)
  stored j h p = subst (IsLink side f j) (sym (pre.done j h p)) (link_nearest side f j few h)

  lower_at : (j : ℕ) → j < length f → is_lower f b j ≡ ltb (get_or f j 0) (get_or f b 0)
  lower_at j h = lower_bits f b j (pre.given.sound j h) (pre.given.sound b pre.inside)

  -- no block lies on the side
  none_beside : beside side (length f) b ≡ 0 → absent ≡ lower_link side f b
  none_beside e =
      link_is side f b absent few pre.inside (record {
        passed =
            λ k kn bk _. let d = distance side (length f) b k pre.inside kn bk in absurd (not-suc-le-zero (subst (λ (x : ℕ). d.between < x) e d.inside));
        found = λ l. absurd (not-le_of_lt l few);
        gone = λ _. refl;
      })

  -- the walk stands at a lower block, or has left the list
  walk_finds : (j : ℕ) → Walk side f b j → j < length f → get_or f j 0 < get_or f b 0 → j ≡ lower_link side f b
  walk_finds j w h l =
      link_is side f b j few pre.inside (record {
        passed = w.passed;
        found = λ _. (w.onward h, lower_at j h ∙ lt-ltb (get_or f j 0) (get_or f b 0) l);
        gone = λ g. absurd (not-le_of_lt h g);
      })

  walk_leaves : (j : ℕ) → Walk side f b j → length f ≤ j → absent ≡ lower_link side f b
  walk_leaves j w h =
      link_is side f b absent few pre.inside (record {
        passed = λ k kn bk _. w.passed k kn bk (λ l. absurd (not-le_of_lt l h));
        found = λ l. absurd (not-le_of_lt l few);
        gone = λ _. refl;
      })

  -- a turn: the walk goes on at the link of a block that is not lower
  walk_goes_on : (j : ℕ) → Walk side f b j → j < length f → get_or f b 0 ≤ get_or f j 0 → Walk side f b (get_or links j 0)
  walk_goes_on j w h l =
      let q = stored j h (w.onward h) in
      record {
        onward = λ v. beyond_further side b j (get_or links j 0) (w.onward h) (q.found v).0;
        passed = link_jump side f b j (get_or links j 0) (lower_at j h ∙ le-ltb (get_or f j 0) (get_or f b 0) l) (λ k kn bk kj. w.passed k kn bk (λ _. kj)) q;
      }

  walk_nears : (j : ℕ) → Walk side f b j → j < length f → remaining side (length f) (get_or links j 0) < remaining side (length f) j
  walk_nears j w h = fewer side (length f) j (get_or links j 0) h (λ v. ((stored j h (w.onward h)).found v).0)

some : (n : ℕ) → (n ≡ 0 → ⊥) → 0 < n
some n h = omega arith

pub returns-then-beside-eq0 : goal.returns-then-beside-eq0
returns-then-beside-eq0 c = none_beside c.args.side c.args.freq.now c.args.links.now c.args.b c.requires (sym c.beside.ensures ∙ c.if-beside-eq0.true)

pub loop-j-init : goal.loop-j-init
loop-j-init c =
    let z = subst (λ (x : ℕ). 0 < x) c.beside.ensures (some _ c.if-beside-eq0.false) in
    subst (λ (j : ℕ). Walk (side_from c.args.b j) c.args.freq.now c.args.b j) (sym c.beyond-j.ensures)
    (subst (λ (x : Side). Walk x c.args.freq.now c.args.b (beyond c.args.side c.args.b 0))
    (sym (side_from_lem c.args.side (length c.args.freq.now) c.args.b z))
    (walk_starts c.args.side c.args.freq.now c.args.b c.requires.inside z))

pub returns-then-freq-j : goal.returns-then-freq-j
returns-then-freq-j c =
    let turned : side_from c.args.b c.beyond-j.result ≡ c.args.side = let s = c.args in
    ap (side_from s.b) c.beyond-j.ensures
    ∙ side_from_lem s.side (length s.freq.now) s.b
    (subst (λ (x : ℕ). 0 < x) c.beside.ensures (some _ c.if-beside-eq0.false)) in
    let walk : Walk c.args.side c.args.freq.now c.args.b c.loop-j.j = subst (λ (s : Side). Walk s c.args.freq.now c.args.b c.loop-j.j) turned c.loop-j.invariant in
    walk_finds c.args.side c.args.freq.now c.args.links.now c.args.b c.requires c.loop-j.j walk
    c.loop-j-test.true c.if-freq-j.true

pub loop-j-smaller : goal.loop-j-smaller
loop-j-smaller c =
    let turned : side_from c.args.b c.beyond-j.result ≡ c.args.side = let s = c.args in
    ap (side_from s.b) c.beyond-j.ensures
    ∙ side_from_lem s.side (length s.freq.now) s.b
    (subst (λ (x : ℕ). 0 < x) c.beside.ensures (some _ c.if-beside-eq0.false)) in
    let walk : Walk c.args.side c.args.freq.now c.args.b c.loop-j.j = subst (λ (s : Side). Walk s c.args.freq.now c.args.b c.loop-j.j) turned c.loop-j.invariant in
    subst
    (λ (x : Side). remaining x (length c.args.freq.now) (get_or c.args.links.now c.loop-j.j 0) < remaining x
    (length c.args.freq.now) c.loop-j.j) (sym turned)
    (walk_nears c.args.side c.args.freq.now c.args.links.now c.args.b c.requires c.loop-j.j walk
    c.loop-j-test.true)

pub loop-j-preserved : goal.loop-j-preserved
loop-j-preserved c =
    let turned : side_from c.args.b c.beyond-j.result ≡ c.args.side = let s = c.args in
    ap (side_from s.b) c.beyond-j.ensures
    ∙ side_from_lem s.side (length s.freq.now) s.b
    (subst (λ (x : ℕ). 0 < x) c.beside.ensures (some _ c.if-beside-eq0.false)) in
    let walk : Walk c.args.side c.args.freq.now c.args.b c.loop-j.j = subst (λ (s : Side). Walk s c.args.freq.now c.args.b c.loop-j.j) turned c.loop-j.invariant in
    subst (λ (x : Side). Walk x c.args.freq.now c.args.b (get_or c.args.links.now c.loop-j.j 0)) (sym turned)
    (walk_goes_on c.args.side c.args.freq.now c.args.links.now c.args.b c.requires c.loop-j.j walk
    c.loop-j-test.true c.if-freq-j.false)

pub returns : goal.returns
returns c =
    let turned : side_from c.args.b c.beyond-j.result ≡ c.args.side = let s = c.args in
    ap (side_from s.b) c.beyond-j.ensures
    ∙ side_from_lem s.side (length s.freq.now) s.b
    (subst (λ (x : ℕ). 0 < x) c.beside.ensures (some _ c.if-beside-eq0.false)) in
    let walk : Walk c.args.side c.args.freq.now c.args.b c.loop-j.j = subst (λ (s : Side). Walk s c.args.freq.now c.args.b c.loop-j.j) turned c.loop-j.invariant in
    walk_leaves c.args.side c.args.freq.now c.args.links.now c.args.b c.requires c.loop-j.j walk c.loop-j-test.false

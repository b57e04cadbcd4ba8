-- `lower_links` fills the column: after t blocks those that are done have their links, and rows past the blocks are as they were
use mathlib.Core.Path.{◌≡◌, refl, sym, ap, ◌∙◌, subst}
use mathlib.Core.Logic.{⊎_elim}
use mathlib.Core.List.{List}
use Prim.Native.Nat.{ℕ, ◌+◌, ◌≤◌, ◌<◌, zero-le}
use native.Mathlib.Nat.{le_trans, le_of_eq, lt_of_lt_of_le, not-le_of_lt}
use native.Mathlib.Omega.{arith}
use lib.ListN.{length, get_or, set, length-set}
use lib.Seq.{get_or-set_same, get_or-set_other}
use Rattle.links.specs.Links.{lower_link, LiesBeyond, nth, Frequencies, LinkedBeyond}
use Rattle.links.specs.declared.lower.Side.{Side}
use Rattle.links.proofs.Linking.{nth_inside, done_beyond, beyond_done, done_next, done_none, done_all, not_itself}
use Rattle.columns.proofs.Tables.{filled_is}
use Rattle.links.proofs.lower.lower_links.Invariants.{Linked}
use Rattle.links.proofs.lower.lower_links.Goals as goal

module _ (side : Side) (f lent links : List ℕ) (t : ℕ) (given : Frequencies f (length lent)) (l : Linked side f lent links t) (h : t < length f) where
  -- the next block can be linked: those beyond it are
  ready : LinkedBeyond side f links (nth side (length f) t)
  ready =
      record {
        inside = nth_inside side (length f) t h;
        given = record { few = given.few; long = le_trans given.long (le_of_eq (sym l.long)); sound = given.sound };
        done = λ k kn p. l.done k kn (done_beyond side (length f) t k h p);
      }

  room : nth side (length f) t < length links
  room = lt_of_lt_of_le (nth_inside side (length f) t h) (le_trans given.long (le_of_eq (sym l.long)))

  -- and with its link stored one more is done
  linked_next : (v : ℕ) → v ≡ lower_link side f (nth side (length f) t) → Linked side f lent (set links (nth side (length f) t) v) (t + 1)
  linked_next v e =
      let b = nth side (length f) t in
      record {
        counted = omega arith;
        long = length-set links b v ∙ l.long;
        done = λ k kn p. ⊎_elim
            (λ q. ap (λ (x : ℕ). get_or (set links b v) x 0) q ∙ get_or-set_same links b v 0 room ∙ e ∙ ap (lower_link side f) (sym q))
            (λ q. get_or-set_other links b k v 0 (λ same. not_itself side b (subst (LiesBeyond side b) same (beyond_done side (length f) t k h q)))
            ∙ l.done k kn q)
            (done_next side (length f) t k h p);
        rest =
            λ k kn. get_or-set_other links b k v 0 (λ same. not-le_of_lt (nth_inside side (length f) t h) (subst (λ (x : ℕ). length f ≤ x) same kn))
            ∙ l.rest k kn;
      }

pub loop-t-init : goal.loop-t-init
loop-t-init c = record { counted = zero-le; long = refl; done = λ k kn p. absurd (done_none _ _ k kn p); rest = λ k _. refl }

pub lower_link-requires : goal.lower_link-requires
lower_link-requires c =
    subst (LinkedBeyond c.args.side c.args.freq.now c.loop-t.links) (sym c.nth-b.ensures)
    (ready c.args.side c.args.freq.now c.args.links.now c.loop-t.links c.loop-t.t c.requires
    c.loop-t.invariant c.loop-t-test.true)

pub loop-t-preserved : goal.loop-t-preserved
loop-t-preserved c =
    let b = c.nth-b in
    subst
    (λ (x : ℕ). Linked c.args.side c.args.freq.now c.args.links.now
    (set c.loop-t.links x c.lower_link.result) (c.loop-t.t + 1)) (sym b.ensures)
    (linked_next c.args.side c.args.freq.now c.args.links.now c.loop-t.links c.loop-t.t
    c.requires c.loop-t.invariant c.loop-t-test.true
    c.lower_link.result (c.lower_link.ensures ∙ ap (lower_link c.args.side c.args.freq.now) b.ensures))

pub returns : goal.returns
returns c =
    let l = c.loop-t in
    filled_is (lower_link c.args.side c.args.freq.now) (length c.args.freq.now) c.args.links.now l.links 0 c.requires.long l.invariant.long
    (λ k kn. l.invariant.done k kn (done_all c.args.side (length c.args.freq.now) l.t k c.loop-t-test.false kn)) l.invariant.rest

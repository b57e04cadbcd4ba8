-- The ring and chain law: of every list of kept promises, and so of every list of proposals found
use mathlib.Core.Path.{◌≡◌, refl, sym, ap, ◌∙◌, subst, subst₂}
use mathlib.Core.Logic.{inl, inr}
use Prim.Native.Nat.{ℕ, zero, suc, ◌+◌, ◌*◌, ◌^◌, ◌≤◌, ◌<◌}
use native.Mathlib.Nat.{le_trans, le_of_eq, le_of_lt, lt_of_lt_of_le, lt_of_le_of_lt, lt_irrefl, not-suc-le-zero, le_of_suc-le-suc, eq-or-lt_of_le, mul_comm}
use native.Mathlib.Nat.{mul-pos, mul-le-mul_left, mul-le-mul_right}
use native.Mathlib.Omega.{arith}
use mathlib.Core.List.{List, [], ◌∷◌, map}
use lib.Dec.{T, lit<, lit≤}
use lib.Pow.{pow_pos}
use lib.Ieee.{Float, nan, binary32, mul, of_bits, to_bits}
use lib.ListN.{length, get_or}
use Rattle.columns.specs.Table.{Each}
use Rattle.numbers.specs.Weight.{Finite, Weight, finite, units_of, infinite_units, weight_limit, value_of, heaviest, Weights, Among}
use Rattle.numbers.specs.Normal.{fraction, exceeds}
use Rattle.numbers.specs.Chain.{Chain, ChainFrom, longest}
use Rattle.numbers.proofs.Units.{units_lt, lt_units, finite_of_units}
use Rattle.numbers.proofs.Rounding.{rounded, round_weight, round_monotone, round_at_most}
use Rattle.numbers.proofs.Operations.{product_round, product_weight, whole_number, whole_finite}
use Rattle.numbers.proofs.Normalised.{exceeds_rises, exceeds_above_zero, exceeds_lighter}
use Rattle.numbers.proofs.Heaviest.{heaviest_weight, heaviest_above, among_weight}
use Rattle.numbers.proofs.Bits.{weight_back, bits_back, value_is}
use Rattle.numbers.proofs.Chain.{chain_rises, chain_few}
use Rattle.growth.specs.Growth.{GapsSeen, own_span, passes, growth, weights_in}
use Rattle.growth.specs.Proposal.{proposal_with, proposal_of}
use Rattle.growth.specs.Demand.{SoundGaps}
use Rattle.growth.specs.Evictions.{Promise, Kept, MeetsCarrier, EvictsAfter, Evicts, EachAfter, member, EvictionsEnd, promise_of, Given, AfterTries}
use Rattle.growth.specs.Evictions.{IsFound, promised}
use Rattle.growth.specs.declared.proposal.SplitProposal.{SplitProposal}
use Rattle.growth.proofs.Proposals.{growth_met, early_demand3, found_own_passes, found_is_grown}

-- ---- a test that holds at a numerator holds at a higher one
-- numerator / 2048 is at most 1.0, so finite
fraction_finite : (n : ℕ) → n ≤ 2048 → Finite (fraction n)
unfolding fraction rounded
fraction_finite n h =
    finite_of_units (round_weight n 2048)
    (lt_of_le_of_lt (round_at_most (finite (whole_finite 1 (lit≤ tt))) n 2048 (lit< tt)
    (subst (λ (u : ℕ). n * 2 ^ 149 ≤ u * 2048) (sym (whole_number 1 (lit≤ tt))) (scaled n (2 ^ 149) h)))
    (subst (λ (u : ℕ). u < infinite_units) (sym (whole_number 1 (lit≤ tt))) (lit< tt)))
  where
    scaled : (n p : ℕ) → n ≤ 2048 → n * p ≤ 1 * p * 2048
    scaled n p h = le_trans (mul-le-mul_right p h) (le_of_eq (mul_comm 2048 p ∙ one p))
      where
        one : (p : ℕ) → p * 2048 ≡ 1 * p * 2048
        one p = omega arith

fraction_rises : (n m : ℕ) → n ≤ m → units_of (fraction n) ≤ units_of (fraction m)
unfolding fraction rounded
fraction_rises n m h = round_monotone n 2048 m 2048 (lit< tt) (lit< tt) (mul-le-mul_right 2048 h)

product_rises : {v : Float} (n m : ℕ) → n ≤ m → m ≤ 2048 → Finite v → units_of (mul binary32 v (fraction n)) ≤ units_of (mul binary32 v (fraction m))
unfolding rounded
product_rises {v} n m h k f =
    let c = 2 ^ 149 * 2 ^ 149 in
    let z : 0 < c = mul-pos (pow_pos 149) (pow_pos 149) in
    subst₂ (λ (x y : ℕ). x ≤ y) (sym (ap units_of (product_round f (fraction_finite n (le_trans h k)))))
    (sym (ap units_of (product_round f (fraction_finite m k))))
    (round_monotone (units_of v * units_of (fraction n)) c (units_of v * units_of (fraction m)) c z z
    (mul-le-mul_right c (mul-le-mul_left (units_of v) (fraction_rises n m h))))

exceeds_higher : {v w : Float} (n m : ℕ) → n ≤ m → m ≤ 2048 → Finite v → Weight w → T (exceeds n v w) → T (exceeds m v w)
unfolding exceeds
exceeds_higher n m h k f p t =
    lt_units p (product_weight f (fraction_finite m k)) (lt_of_lt_of_le (units_lt p (product_weight f (fraction_finite n (le_trans h k))) t)
    (product_rises n m h k f))

-- ---- what a kept promise meets is no heavier than its interference weight, which is lighter than its own weight
module _ (p : Promise) (kept : Kept p) where
  heaviest_is : Weight p.interference
  heaviest_is = subst Weight (sym kept.exact) (heaviest_weight p.met kept.weights)

  -- a weight carried by a reservation that is met is one of the weights met
  carried : (w : Float) → Weight w → MeetsCarrier p w → Among w p.met
  carried w q m = subst (λ (x : Float). Among x p.met) same m.1
    where
      same : m.0 ≡ w
      same = sym (weight_back (among_weight p.met kept.weights m.0 m.1)) ∙ ap (of_bits binary32) m.2 ∙ weight_back q

  carried_light : (w : Float) → Weight w → MeetsCarrier p w → units_of w ≤ units_of p.interference
  carried_light w q m = le_trans (heaviest_above p.met kept.weights w (carried w q m)) (le_of_eq (ap units_of (sym kept.exact)))

  -- so the promise's weight is heavier than every weight carried there
  carried_lighter : (w : Float) → Weight w → MeetsCarrier p w → units_of w < units_of p.weight
  carried_lighter w q m = lt_of_le_of_lt (carried_light w q m) (exceeds_rises p.numerator kept.fraction kept.finite heaviest_is kept.strict)

  -- and passes the weight test over it, at every higher numerator too
  carried_exceeded : (n : ℕ) → p.numerator ≤ n → n ≤ 2048 → (w : Float) → Weight w → MeetsCarrier p w → T (exceeds n p.weight w)
  carried_exceeded n h k w q m =
      exceeds_higher p.numerator n h k kept.finite q (exceeds_lighter p.numerator kept.fraction kept.finite heaviest_is q (carried_light w q m)
      kept.strict)

-- ---- the weights of such a list are a chain, at every numerator that is no lower than any of theirs
abbrev weights_of : List Promise → List Float
weights_of ps = map (λ (p : Promise). p.weight) ps

abbrev AtMost : ℕ → List Promise → Type 0
AtMost n ps = Each (λ (p : Promise). p.numerator ≤ n) ps

chain_after : (n : ℕ) → n ≤ 2048 → (p : Promise) (ps : List Promise) → Kept p → Each Kept ps → AtMost n ps → EvictsAfter p ps
    → ChainFrom n p.weight (weights_of ps)
chain_after n h p [] k ks ns e = tt
chain_after n h p (q ∷ qs) k ks ns e =
    (ks.0.finite, carried_exceeded q ks.0 n ns.0 h p.weight (finite k.finite) e.0, chain_after n h q qs ks.0 ks.1 ns.1 e.1)

-- nothing is asked of the first one's numerator
abbrev LaterAtMost : ℕ → List Promise → Type 0
LaterAtMost n ps = EachAfter (λ (p : Promise). p.numerator ≤ n) ps

chain_of : (n : ℕ) → n ≤ 2048 → (ps : List Promise) → Each Kept ps → LaterAtMost n ps → Evicts ps → Chain n (weights_of ps)
chain_of n h [] ks ns e = tt
chain_of n h (p ∷ ps) ks ns e = (ks.0.finite, chain_after n h p ps ks.0 ks.1 ns e)

-- ---- members by their place
each_at : (P : Promise → Type 0) (ps : List Promise) (i : ℕ) → Each P ps → i < length ps → P (member ps i)
each_at P [] i h l = absurd (not-suc-le-zero l)
each_at P (p ∷ ps) zero h l = h.0
each_at P (p ∷ ps) (suc i) h l = each_at P ps i h.1 (le_of_suc-le-suc l)

weight_at : (ps : List Promise) (i : ℕ) → i < length ps → get_or (weights_of ps) i nan ≡ (member ps i).weight
weight_at [] i l = absurd (not-suc-le-zero l)
weight_at (p ∷ ps) zero l = refl
weight_at (p ∷ ps) (suc i) l = weight_at ps i (le_of_suc-le-suc l)

weights_long : (ps : List Promise) → length (weights_of ps) ≡ length ps
weights_long [] = refl
weights_long (p ∷ ps) = ap suc (weights_long ps)

each_fraction : (ps : List Promise) → Each Kept ps → AtMost 2048 ps
each_fraction [] ks = tt
each_fraction (p ∷ ps) ks = (ks.0.fraction, each_fraction ps ks.1)

later_fraction : (ps : List Promise) → Each Kept ps → LaterAtMost 2048 ps
later_fraction [] ks = tt
later_fraction (p ∷ ps) ks = each_fraction ps ks.1

-- ---- the law
module _ (ps : List Promise) (kept : Each Kept ps) (evicts : Evicts ps) where
  rising : (i j : ℕ) → i ≤ j → j < length ps → units_of (member ps i).weight ≤ units_of (member ps j).weight
  rising i j h l =
      elim (eq-or-lt_of_le h) [
        | inl e ↦ le_of_eq (ap (λ (x : ℕ). units_of (member ps x).weight) e)
        | inr m ↦ le_of_lt (subst₂ (λ (x y : Float). units_of x < units_of y) (weight_at ps i (lt_of_le_of_lt h l)) (weight_at ps j l)
            (chain_rises 2048 (lit≤ tt) (weights_of ps) chain i j m (lt_of_lt_of_le l (le_of_eq (sym (weights_long ps))))))
      ]
    where
      chain : Chain 2048 (weights_of ps)
      chain = chain_of 2048 (lit≤ tt) ps kept (later_fraction ps kept) evicts

  no_ring_of : (i j : ℕ) → i ≤ j → j < length ps → MeetsCarrier (member ps i) (member ps j).weight → ⊥
  no_ring_of i j h l m =
      lt_irrefl (units_of (member ps i).weight)
      (lt_of_le_of_lt (rising i j h l)
      (carried_lighter (member ps i) (each_at Kept ps i kept (lt_of_le_of_lt h l)) (member ps j).weight (finite (each_at Kept ps j kept l).finite) m))

-- a kept promise's weight is above zero, as it passes over its interference weight
kept_above_zero : (p : Promise) → Kept p → 0 < units_of p.weight
kept_above_zero p kept = exceeds_above_zero p.numerator kept.fraction kept.finite (heaviest_is p kept) kept.strict

-- so, at numerators up to 2007 after the first, the estimate bounds every list
at_2007 : (ps : List Promise) → Each Kept ps → Evicts ps → LaterAtMost 2007 ps → length ps ≤ longest
at_2007 [] kept evicts ns = lit≤ tt
at_2007 (p ∷ ps) kept evicts ns =
    subst (λ (n : ℕ). n ≤ longest) (weights_long (p ∷ ps))
    (chain_few 2007 (lit≤ tt) p.weight (weights_of ps) (kept_above_zero p kept.0) (chain_of 2007 (lit≤ tt) (p ∷ ps) kept ns evicts))

-- the ring and chain law, of every list of kept promises
pub evictions_end : (ps : List Promise) → Each Kept ps → Evicts ps → EvictionsEnd ps
evictions_end ps kept evicts =
    record {
      no_ring = no_ring_of ps kept evicts;
      few = λ ns. le_trans (at_2007 ps kept evicts ns) (lit≤ tt);
      fewer = at_2007 ps kept evicts;
    }

-- ---- the promises of growth are kept: of each proposal before growth is finished, and of what is found
pub early_kept : (seen : GapsSeen) → SoundGaps seen → T (passes seen seen.own (own_span seen)) → (n : ℕ)
    → Kept (promise_of seen (proposal_of seen (growth seen n).region))
unfolding proposal_with
early_kept seen sound t n =
    let d = early_demand3 seen sound n t in
    let e = sym (ap (weights_in seen.met) d.covered) in
    record {
      finite = d.finite;
      weights = subst Weights e (growth_met seen sound n);
      exact = ap heaviest e;
      strict = d.strict;
      fraction = sound.fraction;
    }

pub proposed_kept : (g : Given) → AfterTries g → Kept (promised g)
proposed_kept g f = subst (λ (p : SplitProposal). Kept (promise_of g.seen p)) (sym f.proposed) (early_kept g.seen f.sound f.own_passes f.tries)

-- what is found is proposed
pub found_proposed : (g : Given) → IsFound g → AfterTries g
found_proposed g f =
    record {
      sound = f.sound;
      own_passes = found_own_passes g.seen g.proposal f.found;
      tries = g.seen.count + 1;
      proposed = found_is_grown g.seen g.proposal f.found;
    }

each_from : (P Q : Given → Type 0) → ((g : Given) → P g → Q g) → (gs : List Given) → Each P gs → Each Q gs
each_from P Q f [] ps = tt
each_from P Q f (g ∷ gs) ps = (f g ps.0, each_from P Q f gs ps.1)

each_kept : (gs : List Given) → Each AfterTries gs → Each Kept (map promised gs)
each_kept [] fs = tt
each_kept (g ∷ gs) fs = (proposed_kept g fs.0, each_kept gs fs.1)

-- the ring and chain law, of every list of jobs' gaps and proposals of their growth
pub proposed_evictions_end : (gs : List Given) → Each AfterTries gs → Evicts (map promised gs) → EvictionsEnd (map promised gs)
proposed_evictions_end gs fs e = evictions_end (map promised gs) (each_kept gs fs) e

-- and so of every list of jobs' gaps and the proposals found for them
pub found_evictions_end : (gs : List Given) → Each IsFound gs → Evicts (map promised gs) → EvictionsEnd (map promised gs)
found_evictions_end gs fs = proposed_evictions_end gs (each_from IsFound AfterTries found_proposed gs fs)

-- ---- the bits that a reservation carries are those of its weight
pub carried_bits : (bits : ℕ) → bits ≤ weight_limit → to_bits binary32 (value_of weight_limit bits) ≡ bits
carried_bits bits h = ap (to_bits binary32) (value_is weight_limit bits h) ∙ bits_back bits h

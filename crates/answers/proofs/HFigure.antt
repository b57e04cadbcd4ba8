-- The H figure of a job's answer tells the proposal's normalised weight, which is above zero
use mathlib.Core.Path.{◌≡◌, refl, sym, ap, ◌∙◌, subst}
use Prim.Native.Nat.{ℕ, zero, suc, ◌<◌}
use native.Mathlib.Omega.{arith}
use lib.Dec.{lit≤}
use lib.Ieee.{Float}
use Rattle.numbers.specs.Weight.{units_of}
use Rattle.numbers.specs.Normal.{normalised}
use Rattle.numbers.specs.Figure.{figure, Tells}
use Rattle.numbers.proofs.Bits.{weight_back}
use Rattle.numbers.proofs.Normalised.{exceeds_above_zero}
use Rattle.numbers.proofs.Figure.{figure_tells}
use Rattle.sheet.specs.declared.write.Figures.{Figures}
use Rattle.sheet.specs.declared.write.Answer as Shown
use Rattle.sheet.specs.declared.write.Answer.TheVariants as Shown·is
use Rattle.filling.specs.declared.lent.Rooms.{Rooms}
use Rattle.growth.specs.declared.proposal.SplitProposal.{SplitProposal}
use Rattle.refusals.specs.Job.{Job}
use Rattle.outcome.specs.declared.grow.Answer.{Answer}
use Rattle.outcome.specs.declared.grow.Answer.TheVariants as Answer·is
use Rattle.proposer.specs.Answer.{answer_of}
use Rattle.proposer.proofs.Answered.{answer_demand3}
use Rattle.figures.specs.Figures.{shown_of}
use Rattle.answers.specs.JobAnswer.{shown_of_job}
use Rattle.answers.specs.HFigure.{TellsFigure}

-- an answer that shows figures is a proposal, and shows its H figure
shows : (k : ℕ) (a : Answer) (f : Figures) → shown_of k a ≡ Shown·is.Proposal f
    → (p : SplitProposal) × (a ≡ Answer·is.Found p) × (shown_of k (Answer·is.Found p) ≡ Shown·is.Proposal f)
shows k (Answer·is.Found p) f e = (p, refl, e)
shows k Answer·is.NoBestUse f e = absurd (let z : ◌≡◌ {A = ℕ} 0 1 = cc in omega arith)
shows k Answer·is.NoRegion f e = absurd (let z : ◌≡◌ {A = ℕ} 0 1 = cc in omega arith)
shows k (Answer·is.Refused r) f e = absurd (let z : ◌≡◌ {A = ℕ} 0 1 = cc in omega arith)

-- two answers with the same figures have the same H
same : {f g : Figures} → ◌≡◌ {A = Shown.Answer} (Shown·is.Proposal f) (Shown·is.Proposal g) → f.thousandths ≡ g.thousandths
same {f} {g} e = cc

above_zero : (w H : ℕ) → 0 < w → Tells w H → 0 < H
above_zero w zero p t = absurd (let e = t.zero.0 refl in omega (arith, p, e))
above_zero w (suc H) p t = omega arith

pub figure_told : (job : Job) (rooms : Rooms) (f : Figures) → shown_of_job job rooms ≡ Shown·is.Proposal f → TellsFigure job rooms f
figure_told job rooms f e = go (shows job.k (answer_of job rooms) f e)
  where
    go : ((p : SplitProposal) × (answer_of job rooms ≡ Answer·is.Found p) × (shown_of job.k (Answer·is.Found p) ≡ Shown·is.Proposal f))
        → TellsFigure job rooms f
    go h =
        let p = h.0 in
        let d = answer_demand3 job rooms p h.1 in
        let w = normalised p.use_weight p.live_insts job.k in
        let back = ap (λ (v : Float). figure (normalised v p.live_insts job.k)) (weight_back d.of_gaps.weights.0) in
        let t = subst (Tells (units_of w)) (sym back ∙ same h.2) (figure_tells w) in
        record {
          proposal = p;
          answered = h.1;
          tells = t;
          above = above_zero (units_of w) f.thousandths (exceeds_above_zero 2007 (lit≤ tt) d.of_gaps.finite d.of_gaps.weights.1 d.strict) t;
        }

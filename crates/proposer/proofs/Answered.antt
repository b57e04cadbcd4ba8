-- What each of the four answers says, exactly; demand 3 and the ring and chain law of what is answered
use Rattle.std.specs.Prelude.{Ok}
use mathlib.Core.Path.{◌≡◌, refl, sym, ap, ap₂, ◌∙◌, subst}
use mathlib.Core.Logic.{◌⊎◌, inl, inr, ⊎_elim, ◌↔◌}
use mathlib.Core.List.{List, [], ◌∷◌, map}
use Prim.Native.Nat.{ℕ, suc, ◌≤◌, ◌<◌}
use native.Mathlib.Omega.{arith}
use lib.ListN.{length, get_or}
use Rattle.numbers.specs.Weight.{zero_weight}
use Rattle.links.specs.Blocks.{refusal, Checked, no_refusal}
use Rattle.links.specs.declared.blocks.Refusal.{Refusal}
use Rattle.use_rows.specs.Uses.{IsBest}
use Rattle.filling.specs.UseTables.{best_of}
use Rattle.filling.specs.SourceTables.{tables_of_best}
use Rattle.filling.specs.TableLaws.{TableLaws}
use Rattle.filling.proofs.TableLaws.{table_laws}
use Rattle.growth.specs.Proposal.{region_of}
use Rattle.columns.specs.Table.{Each}
use Rattle.growth.specs.declared.proposal.SplitProposal.{SplitProposal}
use Rattle.filling.specs.declared.lent.Rooms.{Rooms}
use Rattle.refusals.specs.Job.{Job, source_of_job}
use Rattle.refusals.specs.Refusals.{Reported}
use Rattle.rooms.specs.Rooms.{lines, refusal_of}
use Rattle.rooms.proofs.Refused.{job_accepted, job_refused_exactly}
use Rattle.tables.specs.JobTables.{no_tables, if_accepted, tables_of}
use Rattle.views.specs.View.{seen_of_job}
use Rattle.outcome.specs.Outcome.{of_region, refused, none, proposal, numbered}
use Rattle.proposer.specs.Answer.{of_best, of_checked, answer_of}
use Rattle.proposer.specs.Demand.{mains_of, number_of, best_number, OwnFails, AnswerDemand3}
use Rattle.proposer.specs.Evictions.{Entry, Evictions, JobEvictionsEnd, AnsweredJob, entry_of}
use Rattle.outcome.specs.declared.grow.Answer.{Answer}
use Rattle.outcome.specs.declared.grow.Answer.TheVariants as Answer·is
use Rattle.proposer.proofs.JobTheorems.{ProposalOf, job_mains, job_best, job_best_inside, job_best_exactly, job_no_best_exactly, job_around, job_ended}
use Rattle.proposer.proofs.JobTheorems.{job_ends_once, job_side_ends, job_demand3, job_use_weight, job_live_insts, job_strict, region_whole}
use Rattle.proposer.proofs.JobTheorems.{region_no_fixed, region_none_heavier, region_heaviest_met, job_evictions_end}
use Rattle.proposer.proofs.OwnFails.{job_nothing_exactly}
use Rattle.std.specs.Prelude.{Option, Err, Some, None}
use Rattle.numbers.specs.declared.Inst.{Inst}

-- ---- what an answer says of the verdict, the best use and the region
region_found : (r : Option SplitProposal) (p : SplitProposal) → of_region r ≡ Answer·is.Found p → r ≡ Some p
region_found (Some q) p e = let same : q ≡ p = cc in ap (λ (x : SplitProposal). Some x) same
region_found None p e = absurd (let z : ◌≡◌ {A = ℕ} 0 1 = cc in omega arith)

region_nothing : (r : Option SplitProposal) → of_region r ≡ Answer·is.NoRegion → r ≡ None
region_nothing (Some q) e = absurd (let z : ◌≡◌ {A = ℕ} 0 1 = cc in omega arith)
region_nothing None e = refl

region_best : (r : Option SplitProposal) → of_region r ≡ Answer·is.NoBestUse → ⊥
region_best (Some q) e = let z : ◌≡◌ {A = ℕ} 0 1 = cc in omega arith
region_best None e = let z : ◌≡◌ {A = ℕ} 0 1 = cc in omega arith

region_refused : (r : Option SplitProposal) (f : Refusal) → of_region r ≡ Answer·is.Refused f → ⊥
region_refused (Some q) f e = let z : ◌≡◌ {A = ℕ} 0 1 = cc in omega arith
region_refused None f e = let z : ◌≡◌ {A = ℕ} 0 1 = cc in omega arith

module _ (job : Job) where
  said_found : (c : Checked) (b : Option ℕ) (p : SplitProposal) → of_checked c (of_best job b) ≡ Answer·is.Found p
      → (c ≡ no_refusal) × (best : ℕ) × (b ≡ Some best) × (region_of (seen_of_job job best) ≡ Some p)
  said_found (Err r) b p e = absurd (let z : ◌≡◌ {A = ℕ} 0 1 = cc in omega arith)
  said_found (Ok u) None p e = absurd (let z : ◌≡◌ {A = ℕ} 0 1 = cc in omega arith)
  said_found (Ok u) (Some best) p e = (refl, best, refl, region_found (region_of (seen_of_job job best)) p e)

  said_region : (c : Checked) (b : Option ℕ) → of_checked c (of_best job b) ≡ Answer·is.NoRegion
      → (c ≡ no_refusal) × (best : ℕ) × (b ≡ Some best) × (region_of (seen_of_job job best) ≡ None)
  said_region (Err r) b e = absurd (let z : ◌≡◌ {A = ℕ} 0 1 = cc in omega arith)
  said_region (Ok u) None e = absurd (let z : ◌≡◌ {A = ℕ} 0 1 = cc in omega arith)
  said_region (Ok u) (Some best) e = (refl, best, refl, region_nothing (region_of (seen_of_job job best)) e)

  said_best : (c : Checked) (b : Option ℕ) → of_checked c (of_best job b) ≡ Answer·is.NoBestUse → (c ≡ no_refusal) × (b ≡ None)
  said_best (Err r) b e = absurd (let z : ◌≡◌ {A = ℕ} 0 1 = cc in omega arith)
  said_best (Ok u) None e = (refl, refl)
  said_best (Ok u) (Some best) e = absurd (region_best (region_of (seen_of_job job best)) e)

  said_refused : (c : Checked) (b : Option ℕ) (r : Refusal) → of_checked c (of_best job b) ≡ Answer·is.Refused r → c ≡ Err r
  said_refused (Err q) b r e = let same : q ≡ r = cc in ap (λ (x : Refusal). Err x) same
  said_refused (Ok u) None r e = absurd (let z : ◌≡◌ {A = ℕ} 0 1 = cc in omega arith)
  said_refused (Ok u) (Some best) r e = absurd (region_refused (region_of (seen_of_job job best)) r e)

  -- and back
  answer_by : (rooms : Rooms) (c : Checked) (b : Option ℕ) → refusal_of job rooms ≡ c → best_of (source_of_job job) ≡ b
      → answer_of job rooms ≡ of_checked c (of_best job b)
  answer_by rooms c b e f = ap₂ (λ (x : Checked) (y : Option ℕ). of_checked x (of_best job y)) e f

-- ---- the numbers of an answer tell which one it is
number_refused : (a : Answer) (n p : ℕ) → numbered a ≡ refused n p → a ≡ Answer·is.Refused (record { number = n; place = p })
number_refused (Answer·is.Refused r) n p e =
    let x : r.number ≡ n = cc in let y : r.place ≡ p = cc in ap₂ (λ (n p : ℕ). Answer·is.Refused (record { number = n; place = p })) x y
number_refused Answer·is.NoBestUse n p e = absurd (let z : ◌≡◌ {A = ℕ} 0 1 = cc in omega arith)
number_refused Answer·is.NoRegion n p e = absurd (let z : ◌≡◌ {A = ℕ} 0 1 = cc in omega arith)
number_refused (Answer·is.Found q) n p e = absurd (let z : ◌≡◌ {A = ℕ} 0 1 = cc in omega arith)

number_none : (a : Answer) (kind : ℕ) → numbered a ≡ none kind
    → ((a ≡ Answer·is.NoBestUse) × (kind ≡ 1)) ⊎ ((a ≡ Answer·is.NoRegion) × (kind ≡ 2))
number_none (Answer·is.Refused r) kind e = absurd (let z : ◌≡◌ {A = ℕ} 0 1 = cc in omega arith)
number_none Answer·is.NoBestUse kind e = inl (refl, let x : 1 ≡ kind = cc in sym x)
number_none Answer·is.NoRegion kind e = inr (refl, let x : 2 ≡ kind = cc in sym x)
number_none (Answer·is.Found q) kind e = absurd (let z : ◌≡◌ {A = ℕ} 0 1 = cc in omega arith)

number_none_1 : (a : Answer) → numbered a ≡ none 1 → a ≡ Answer·is.NoBestUse
number_none_1 a e = ⊎_elim (λ h. h.0) (λ h. let k = h.1 in absurd (omega (arith, k))) (number_none a 1 e)

number_none_2 : (a : Answer) → numbered a ≡ none 2 → a ≡ Answer·is.NoRegion
number_none_2 a e = ⊎_elim (λ h. let k = h.1 in absurd (omega (arith, k))) (λ h. h.0) (number_none a 2 e)

number_found : (a : Answer) (l r : Option Inst) (w n i c : ℕ) → numbered a ≡ proposal l r w n i c
    → (p : SplitProposal) × (a ≡ Answer·is.Found p) × (numbered (Answer·is.Found p) ≡ proposal l r w n i c)
number_found (Answer·is.Found p) l r w n i c e = (p, refl, e)
number_found (Answer·is.Refused x) l r w n i c e = absurd (let z : ◌≡◌ {A = ℕ} 0 1 = cc in omega arith)
number_found Answer·is.NoBestUse l r w n i c e = absurd (let z : ◌≡◌ {A = ℕ} 0 1 = cc in omega arith)
number_found Answer·is.NoRegion l r w n i c e = absurd (let z : ◌≡◌ {A = ℕ} 0 1 = cc in omega arith)

-- ---- each answer, exactly
module _ (job : Job) (rooms : Rooms) where
  pub refused_said : (n p : ℕ) → numbered (answer_of job rooms) ≡ refused n p → refusal_of job rooms ≡ refusal n p
  refused_said n p e =
      said_refused job (refusal_of job rooms) (best_of (source_of_job job)) (record { number = n; place = p }) (number_refused (answer_of job rooms) n p e)

  -- a job is refused by line n + 1 at place p exactly if that line of document 01's table is first broken there and the lines before it have passed
  pub refused_exactly : (n p : ℕ) → (numbered (answer_of job rooms) ≡ refused (suc n) p) ↔ Reported (lines job rooms) (suc n) p n
  refused_exactly n p =
      let table = job_refused_exactly job rooms n p in (
        (λ e. table.0 (refused_said (suc n) p e)),
        (λ h. ap numbered (answer_by job rooms (refusal (suc n) p) (best_of (source_of_job job)) (table.1 h) refl)),
      )

  -- none of kind 1 exactly if it is accepted and its use table has one row or no main weight other than zero
  pub none_1_exactly : (numbered (answer_of job rooms) ≡ none 1)
      ↔ ((refusal_of job rooms ≡ no_refusal) × ((length (mains_of job) ≤ 1)
      ⊎ ((k : ℕ) → k < length (mains_of job) → get_or (mains_of job) k zero_weight ≡ zero_weight)))
  none_1_exactly = (
    (λ e.
        let h = said_best job (refusal_of job rooms) (best_of (source_of_job job)) (number_none_1 (answer_of job rooms) e) in
        (h.0, (job_no_best_exactly job (job_accepted job rooms h.0)).0 h.1)),
    (λ h. ap numbered (answer_by job rooms no_refusal None h.0 ((job_no_best_exactly job (job_accepted job rooms h.0)).1 h.1))),
  )

  -- none of kind 2 exactly if it is accepted and has a best use whose own gap fails
  pub none_2_exactly : (numbered (answer_of job rooms) ≡ none 2)
      ↔ ((refusal_of job rooms ≡ no_refusal) × (best : ℕ) × IsBest (mains_of job) best × OwnFails job best)
  none_2_exactly = (
    (λ e.
        let h = said_region job (refusal_of job rooms) (best_of (source_of_job job)) (number_none_2 (answer_of job rooms) e) in
        let a = job_accepted job rooms h.0 in
        (h.0, h.1, job_best job a h.1 h.2, (job_nothing_exactly job a h.1 (job_best_inside job a h.1 h.2)).0 h.3)),
    (λ h.
        let a = job_accepted job rooms h.0 in
        let best = (job_best_exactly job a h.1).1 h.2 in
        ap numbered (answer_by job rooms no_refusal (Some h.1) h.0 best
        ∙ ap of_region ((job_nothing_exactly job a h.1 (job_best_inside job a h.1 best)).1 h.3))),
  )

  -- a proposal exactly if it is accepted, has a best use and growth from it finds that region
  pub found_exactly : (p : SplitProposal) → (answer_of job rooms ≡ Answer·is.Found p) ↔
      ((refusal_of job rooms ≡ no_refusal) × (best : ℕ) × ProposalOf job best p)
  found_exactly p = (
    (λ e.
        let h = said_found job (refusal_of job rooms) (best_of (source_of_job job)) p e in
        (h.0, h.1, record { accepted = job_accepted job rooms h.0; is_best = h.2; found = h.3 })),
    (λ h. answer_by job rooms no_refusal (Some h.1) h.0 h.2.is_best ∙ ap of_region h.2.found),
  )

  -- in six values exactly those of such a proposal
  pub proposal_exactly : (l r : Option Inst) (w n i c : ℕ) → (numbered (answer_of job rooms) ≡ proposal l r w n i c)
      ↔ ((p : SplitProposal) × (answer_of job rooms ≡ Answer·is.Found p) × (numbered (Answer·is.Found p) ≡ proposal l r w n i c))
  proposal_exactly l r w n i c = (number_found (answer_of job rooms) l r w n i c, λ h. ap numbered h.1 ∙ h.2)

  -- the laws of the tables that an accepted job with a best use fills, whatever it is answered
  pub answered_tables : refusal_of job rooms ≡ no_refusal → (best : ℕ) → IsBest (mains_of job) best → TableLaws (source_of_job job) best (tables_of job rooms)
  answered_tables e best is =
      let a = job_accepted job rooms e in
      let b = (job_best_exactly job a best).1 is in
      subst (TableLaws (source_of_job job) best)
      (sym (ap₂ (λ (c : Checked) (u : Option ℕ). if_accepted c (tables_of_best (source_of_job job) u) no_tables) e b))
      (table_laws (source_of_job job) a.uses a.blocks best (job_best_inside job a best b))

  -- around its best use
  pub found_proposed : (p : SplitProposal) → answer_of job rooms ≡ Answer·is.Found p → ProposalOf job (best_number job) p
  found_proposed p e =
      let h = (found_exactly p).0 e in
      let same : best_number job ≡ h.1 = ap number_of h.2.is_best in
      subst (λ (b : ℕ). ProposalOf job b p) (sym same) h.2

  -- demand 3 of every proposal that is answered
  pub answer_demand3 : (p : SplitProposal) → answer_of job rooms ≡ Answer·is.Found p → AnswerDemand3 job (best_number job) p
  answer_demand3 p e =
      let given = found_proposed p e in
      record {
        mains = job_mains job given.accepted;
        is_best = job_best job given.accepted (best_number job) given.is_best;
        around = job_around job (best_number job) p given;
        ended = job_ended job (best_number job) p given;
        ends_once = job_ends_once job (best_number job) p given;
        side_ends = job_side_ends job (best_number job) p given;
        of_gaps = job_demand3 job (best_number job) p given;
        use_weight = job_use_weight job (best_number job) p given;
        live_insts = job_live_insts job (best_number job) p given;
        whole = region_whole job (best_number job) p given;
        no_fixed = region_no_fixed job (best_number job) p given;
        none_heavier = region_none_heavier job (best_number job) p given;
        heaviest_met = region_heaviest_met job (best_number job) p given;
        strict = job_strict job (best_number job) p given;
      }

-- ---- the ring and chain law of what is answered
-- of every list of jobs and the proposals they are answered, in which the region of each after the first meets a reservation
-- that carries the normalised weight of the one before: there is no ring, and there are at most 10,000
pub evictions_end : (list : List AnsweredJob) → Evictions (map entry_of list) → JobEvictionsEnd (map entry_of list)
evictions_end list chain = job_evictions_end (map entry_of list) (each_answered list) chain
  where
    each_answered : (list : List AnsweredJob) → Each (λ (e : Entry). ProposalOf e.job e.best e.proposal) (map entry_of list)
    each_answered [] = tt
    each_answered (a ∷ rest) = (found_proposed a.job a.rooms a.proposal a.answered, each_answered rest)

-- The parts of the call joined: of tables that are filled growth gives what the definition says
use mathlib.Core.Path.{◌≡◌, sym, ap, ◌∙◌, subst}
use Prim.Native.Nat.{ℕ, ◌<◌}
use lib.ListN.{length}
use Rattle.links.specs.declared.blocks.Refusal.{Refusal}
use Rattle.uses.proofs.Best.{best_inside}
use Rattle.filling.specs.UseTables.{best_of}
use Rattle.filling.specs.SourceTables.{Tables, tables_of_best, WorkColumns, rooms_of, FilledBy}
use Rattle.growth.specs.Proposal.{region_of}
use Rattle.refusals.specs.Job.{Job, source_of_job, reserved_of_job, register_of}
use Rattle.refusals.proofs.Accepted.{Accepted}
use Rattle.rooms.specs.Rooms.{refusal_of}
use Rattle.rooms.proofs.Refused.{job_accepted, job_roomy}
use Rattle.tables.specs.JobTables.{uses_of_job, gaps_of_job, own_of_job, segments_of_job, no_tables, if_accepted, tables_of}
use Rattle.tables.specs.Filled.{IsFilled}
use Rattle.work.specs.declared.fill.ReadyTables.{ReadyTables}
use Rattle.work.specs.declared.fill.FilledTables.{FilledTables}
use Rattle.work.specs.declared.fill.FilledTables.TheVariants as FilledTables·is
use Rattle.tables.proofs.Answers.{filled_refused, filled_none, filled_ready}
use Rattle.views.specs.View.{seen_of_job}
use Rattle.views.proofs.FilledView.{seen_is, cut_walkable, cut_in_table, cut_rows}
use Rattle.outcome.specs.Outcome.{of_region}
use Rattle.proposer.specs.Answer.{of_best, of_checked, IsProposed}
use Rattle.outcome.specs.Growing.{GrowthColumns, growth_columns, seen_ready, Growable, GrowableIf, grown_from}
use Rattle.outcome.specs.declared.grow.Answer.TheVariants as Answer·is
use Rattle.links.specs.Blocks.{Checked, no_refusal}
use Rattle.std.specs.Prelude.{Some, None}

module _ (job : Job) (lent now : WorkColumns) where
  -- the columns that growth reads
  abbrev read : GrowthColumns
  read = growth_columns now.froms now.weights now.lives now.freqs now.segment_froms now.segment_tos now.segment_values now.segment_gaps

  -- ---- tables that are ready
  module _ (r : ReadyTables) (done : IsFilled job lent now (FilledTables·is.Ready r)) where
    said : (refusal_of job (rooms_of lent) ≡ no_refusal) × (best : ℕ) × (best_of (source_of_job job) ≡ Some best)
        × (r ≡ record {
          uses = length (uses_of_job job);
          gaps = length (gaps_of_job job best);
          gap_segments = length (segments_of_job job best);
          own =
              own_of_job job best;
        })
    said = filled_ready job (rooms_of lent) r (sym done.answer)

    best : ℕ
    best = said.1

    accepted : Accepted job
    accepted = job_accepted job (rooms_of lent) said.0

    is_best : best_of (source_of_job job) ≡ Some best
    unfolding best
    is_best = said.2

    rows_are : r ≡ record {
      uses = length (uses_of_job job);
      gaps = length (gaps_of_job job best);
      gap_segments = length (segments_of_job job best);
      own =
          own_of_job job best;
    }
    unfolding best
    rows_are = said.3

    inside : best < length (uses_of_job job)
    inside = best_inside (source_of_job job) accepted.scales best is_best

    -- all tables are those of the best use
    tables_are : tables_of job (rooms_of lent) ≡ tables_of_best (source_of_job job) (Some best)
    tables_are =
        ap (λ (c : Checked). if_accepted c (tables_of_best (source_of_job job) (best_of (source_of_job job))) no_tables) said.0
        ∙ ap (tables_of_best (source_of_job job)) is_best

    filled_by : FilledBy (tables_of_best (source_of_job job) (Some best)) lent now
    filled_by = subst (λ (t : Tables). FilledBy t lent now) tables_are done.tables

    gaps_are : r.gaps ≡ length (gaps_of_job job best)
    gaps_are = ap (λ (x : ReadyTables). x.gaps) rows_are

    segments_are : r.gap_segments ≡ length (segments_of_job job best)
    segments_are = ap (λ (x : ReadyTables). x.gap_segments) rows_are

    own_is : r.own ≡ own_of_job job best
    own_is = ap (λ (x : ReadyTables). x.own) rows_are

    ready_growable : Growable (register_of job) (reserved_of_job job) job.k read r
    ready_growable =
        let roomy = job_roomy job (rooms_of lent) said.0 in
        record {
          rows = cut_rows job accepted best inside lent now roomy filled_by r.gaps r.gap_segments r.own gaps_are segments_are own_is;
          known = accepted.register;
          walkable = cut_walkable job accepted best inside lent now roomy filled_by r.gaps r.gap_segments r.own gaps_are segments_are own_is;
          in_table = cut_in_table job accepted best inside lent now roomy filled_by r.gaps r.gap_segments r.own gaps_are segments_are own_is;
        }

    sees : seen_ready (register_of job) (reserved_of_job job) job.k read r ≡ seen_of_job job best
    sees =
        seen_is job accepted best inside lent now (job_roomy job (rooms_of lent) said.0) filled_by r.gaps r.gap_segments r.own gaps_are
        segments_are own_is

    ready_proposed : IsProposed job lent now (grown_from (register_of job) (reserved_of_job job) job.k read (FilledTables·is.Ready r))
    ready_proposed =
        record {
          answer =
              ap (λ s. of_region (region_of s)) sees ∙ ap (of_best job) (sym is_best)
              ∙ sym (ap (λ (c : Checked). of_checked c (of_best job (best_of (source_of_job job)))) said.0);
          uses = ap (λ (x : ReadyTables). x.uses) rows_are ∙ ap (λ (t : Tables). length t.uses) (sym tables_are);
          gaps = gaps_are ∙ ap (λ (t : Tables). length t.gaps) (sym tables_are);
          segments = segments_are ∙ ap (λ (t : Tables). length t.segments) (sym tables_are);
          tables = done.tables;
        }

  -- ---- no best use
  none_proposed : (n : ℕ) → IsFilled job lent now (FilledTables·is.NoBestUse n)
      → IsProposed job lent now (record { answer = Answer·is.NoBestUse; uses = n; gaps = 0; gap_segments = 0 })
  none_proposed n done =
      let s = filled_none job (rooms_of lent) n (sym done.answer) in
      let t : tables_of_best (source_of_job job) None ≡ tables_of job (rooms_of lent) = ap (tables_of_best (source_of_job job)) (sym s.1)
      ∙ sym (ap (λ (c : Checked). if_accepted c (tables_of_best (source_of_job job) (best_of (source_of_job job))) no_tables) s.0) in
      record {
        answer = ap (of_best job) (sym s.1) ∙ sym (ap (λ (c : Checked). of_checked c (of_best job (best_of (source_of_job job)))) s.0);
        uses = s.2 ∙ ap (λ (x : Tables). length x.uses) t;
        gaps = ap (λ (x : Tables). length x.gaps) t;
        segments = ap (λ (x : Tables). length x.segments) t;
        tables = done.tables;
      }

  -- ---- a refused job
  refused_proposed : (x : Refusal) → IsFilled job lent now (FilledTables·is.Refused x)
      → IsProposed job lent now (record { answer = Answer·is.Refused x; uses = 0; gaps = 0; gap_segments = 0 })
  refused_proposed x done =
      let e = filled_refused job (rooms_of lent) x (sym done.answer) in
      let t : no_tables ≡ tables_of job (rooms_of lent) = sym (ap
      (λ (c : Checked). if_accepted c (tables_of_best (source_of_job job) (best_of (source_of_job job))) no_tables) e) in
      record {
        answer = sym (ap (λ (c : Checked). of_checked c (of_best job (best_of (source_of_job job)))) e);
        uses = ap (λ (x : Tables). length x.uses) t;
        gaps = ap (λ (x : Tables). length x.gaps) t;
        segments = ap (λ (x : Tables). length x.segments) t;
        tables = done.tables;
      }

  -- ---- whatever came of filling: growth may rely on it, and its answer is the job's
  pub filled_growable : (t : FilledTables) → IsFilled job lent now t
      → GrowableIf (register_of job) (reserved_of_job job) job.k
      (growth_columns now.froms now.weights now.lives now.freqs now.segment_froms now.segment_tos now.segment_values now.segment_gaps) t
  filled_growable (FilledTables·is.Ready r) done = ready_growable r done
  filled_growable (FilledTables·is.NoBestUse n) done = tt
  filled_growable (FilledTables·is.Refused x) done = tt

  pub filled_proposed : (t : FilledTables) → IsFilled job lent now t
      → IsProposed job lent now (grown_from (register_of job) (reserved_of_job job) job.k
      (growth_columns now.froms now.weights now.lives now.freqs now.segment_froms now.segment_tos now.segment_values now.segment_gaps) t)
  filled_proposed (FilledTables·is.Ready r) done = ready_proposed r done
  filled_proposed (FilledTables·is.NoBestUse n) done = none_proposed n done
  filled_proposed (FilledTables·is.Refused x) done = refused_proposed x done

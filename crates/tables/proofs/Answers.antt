-- The answer of a job whose tables are filled: refused, or that of a checked job; and what each answer says
use Rattle.std.specs.Prelude.{Ok, List}
use mathlib.Core.Path.{◌≡◌, refl, sym, ap, ◌∙◌, subst}
use Prim.Native.Nat.{ℕ}
use native.Mathlib.Omega.{arith}
use lib.ListN.{length, take}
use Rattle.numbers.specs.Cost.{scales_of}
use Rattle.numbers.specs.declared.costs.RematScales.{RematScales}
use Rattle.links.specs.Blocks.{blocks_of, SoundBlocks, SoundColumns, Checked, no_refusal}
use Rattle.links.specs.declared.blocks.Refusal.{Refusal}
use Rattle.links.proofs.Columns.{part_list}
use Rattle.use_rows.specs.Uses.{Source, source_of}
use Rattle.uses.specs.CheckedUses.{CheckedUses}
use Rattle.filling.specs.UseTables.{FromBits, best_of}
use Rattle.filling.specs.SourceTables.{Tables, tables_of_best, WorkColumns, rooms_of, Roomy, FilledBy}
use Rattle.filling.specs.declared.lent.Rooms.{Rooms}
use Rattle.refusals.specs.Job.{Job, source_of_job}
use Rattle.refusals.proofs.Accepted.{Accepted, cut_columns}
use Rattle.rooms.specs.Rooms.{refusal_of}
use Rattle.rooms.proofs.Refused.{job_accepted, job_roomy}
use Rattle.tables.specs.JobTables.{uses_of_job, gaps_of_job, own_of_job, segments_of_job, no_tables, if_accepted}
use Rattle.work.specs.FilledFrom.{filled_of_best, IsFilledFrom}
use Rattle.tables.specs.Filled.{filled_if, filled_of, IsFilled}
use Rattle.work.specs.declared.fill.ReadyTables.{ReadyTables}
use Rattle.work.specs.declared.fill.FilledTables.{FilledTables}
use Rattle.work.specs.declared.fill.FilledTables.TheVariants as FilledTables·is
use Rattle.std.specs.Prelude.{Err, Option, Some, None}

-- ---- a refused job: each lent column is as it was
pub refused_filled : (job : Job) (lent : WorkColumns) (x : Refusal) → refusal_of job (rooms_of lent) ≡ Err x
    → IsFilled job lent lent (FilledTables·is.Refused x)
refused_filled job lent x e =
    record {
      answer = sym (ap (λ (c : Checked). filled_if c (filled_of_best (source_of_job job) (best_of (source_of_job job)))) e);
      tables =
          subst (λ (t : Tables). FilledBy t lent lent)
          (sym (ap (λ (c : Checked). if_accepted c (tables_of_best (source_of_job job) (best_of (source_of_job job))) no_tables) e))
          (record {
            prev = refl;
            next = refl;
            inst = refl;
            main = refl;
            left = refl;
            right = refl;
            from = refl;
            to = refl;
            weight = refl;
            live = refl;
            freq = refl;
            block = refl;
            segment_from = refl;
            segment_to = refl;
            segment_value = refl;
            segment_gap = refl;
          });
    }

-- ---- an accepted job, whose blocks are cut to as many as there are
module _ (job : Job) (freqs firsts ends : List ℕ) (blocked : job.blocks ≡ blocks_of freqs firsts ends) (lent : WorkColumns)
    (sound : refusal_of job (rooms_of lent) ≡ no_refusal) (n : ℕ) (long : n ≡ length (blocks_of freqs firsts ends))
    (scales : RematScales) (scaled : scales ≡ scales_of job.cheaper_than_move job.cheaper_than_load job.indirect) where
  abbrev pub cut : Source
  cut = source_of job.uses job.segments job.codes scales (blocks_of (take n freqs) (take n firsts) (take n ends))

  cut_source : cut ≡ source_of_job job
  cut_source =
      λ i. record {
        uses = job.uses;
        segments = job.segments;
        codes = job.codes;
        scales = scaled i;
        blocks = (part_list freqs firsts ends n long ∙ sym blocked) i;
      }

  accepted : Accepted job
  accepted = job_accepted job (rooms_of lent) sound

  pub cut_sound : SoundColumns (take n freqs) (take n firsts) (take n ends)
  cut_sound = cut_columns freqs firsts ends n long (subst SoundBlocks blocked accepted.blocks)

  pub cut_checked : CheckedUses cut
  cut_checked = subst CheckedUses (sym cut_source) accepted.uses

  pub cut_bits : FromBits scales
  cut_bits = record { move = job.cheaper_than_move; load = job.cheaper_than_load; indirectly = job.indirect; is = scaled }

  pub cut_roomy : Roomy (length cut.uses) (length cut.blocks) (length cut.segments) (rooms_of lent)
  cut_roomy =
      subst (λ (s : Source). Roomy (length s.uses) (length s.blocks) (length s.segments) (rooms_of lent)) (sym cut_source)
      (job_roomy job (rooms_of lent) sound)

  pub accepted_filled : (now : WorkColumns) (r : FilledTables) → IsFilledFrom cut lent now r → IsFilled job lent now r
  accepted_filled now r d =
      let e : IsFilledFrom (source_of_job job) lent now r = subst (λ (s : Source). IsFilledFrom s lent now r) cut_source d in
      record {
        answer = e.answer ∙ sym (ap (λ (x : Checked). filled_if x (filled_of_best (source_of_job job) (best_of (source_of_job job)))) sound);
        tables =
            subst (λ (t : Tables). FilledBy t lent now) (sym
            (ap (λ (x : Checked). if_accepted x (tables_of_best (source_of_job job) (best_of (source_of_job job))) no_tables) sound)) e.tables;
      }

-- ---- what each answer says
module _ (job : Job) where
  said_refused : (c : Checked) (b : Option ℕ) (x : Refusal) → filled_if c (filled_of_best (source_of_job job) b) ≡ FilledTables·is.Refused x
      → c ≡ Err x
  said_refused (Err r) b x e = let same : r ≡ x = cc in ap (λ (y : Refusal). Err y) same
  said_refused (Ok u) (Some best) x e = absurd (let z : ◌≡◌ {A = ℕ} 0 1 = cc in omega arith)
  said_refused (Ok u) None x e = absurd (let z : ◌≡◌ {A = ℕ} 0 1 = cc in omega arith)

  said_none : (c : Checked) (b : Option ℕ) (n : ℕ) → filled_if c (filled_of_best (source_of_job job) b) ≡ FilledTables·is.NoBestUse n
      → (c ≡ no_refusal) × (b ≡ None) × (n ≡ length (uses_of_job job))
  said_none (Err r) b n e = absurd (let z : ◌≡◌ {A = ℕ} 0 1 = cc in omega arith)
  said_none (Ok u) (Some best) n e = absurd (let z : ◌≡◌ {A = ℕ} 0 1 = cc in omega arith)
  said_none (Ok u) None n e = let same : length (uses_of_job job) ≡ n = cc in (refl, refl, sym same)

  said_ready : (c : Checked) (b : Option ℕ) (r : ReadyTables) → filled_if c (filled_of_best (source_of_job job) b) ≡ FilledTables·is.Ready r
      → (c ≡ no_refusal) × (best : ℕ) × (b ≡ Some best)
      × (r ≡ record {
        uses = length (uses_of_job job);
        gaps = length (gaps_of_job job best);
        gap_segments = length (segments_of_job job best);
        own =
            own_of_job job best;
      })
  said_ready (Err x) b r e = absurd (let z : ◌≡◌ {A = ℕ} 0 1 = cc in omega arith)
  said_ready (Ok u) None r e = absurd (let z : ◌≡◌ {A = ℕ} 0 1 = cc in omega arith)
  said_ready (Ok u) (Some best) r e = (refl, best, refl, inside e)
    where
      inside : {p q : ReadyTables} → FilledTables·is.Ready p ≡ FilledTables·is.Ready q → q ≡ p
      inside e = sym cc

-- tables are refused, without a best use or ready
module _ (job : Job) (rooms : Rooms) where
  pub filled_refused : (x : Refusal) → filled_of job rooms ≡ FilledTables·is.Refused x → refusal_of job rooms ≡ Err x
  filled_refused x e = said_refused job (refusal_of job rooms) (best_of (source_of_job job)) x e

  pub filled_none : (n : ℕ) → filled_of job rooms ≡ FilledTables·is.NoBestUse n
      → (refusal_of job rooms ≡ no_refusal) × (best_of (source_of_job job) ≡ None) × (n ≡ length (uses_of_job job))
  filled_none n e = said_none job (refusal_of job rooms) (best_of (source_of_job job)) n e

  pub filled_ready : (r : ReadyTables) → filled_of job rooms ≡ FilledTables·is.Ready r
      → (refusal_of job rooms ≡ no_refusal) × (best : ℕ) × (best_of (source_of_job job) ≡ Some best)
      × (r ≡ record {
        uses = length (uses_of_job job);
        gaps = length (gaps_of_job job best);
        gap_segments = length (segments_of_job job best);
        own =
            own_of_job job best;
      })
  filled_ready r e = said_ready job (refusal_of job rooms) (best_of (source_of_job job)) r e

-- What is answered, put together: a job from its proposal, a text from its reading and the answer to its job
use Prim.Native.Nat.{ℕ}
use mathlib.Core.Path.{◌≡◌, refl, sym, ap, ◌∙◌, subst}
use mathlib.Core.List.{List, []}
use native.Mathlib.Omega.{arith}
use lib.ListN.{length, length-map}
use borrow.Author.Tests.{le-ltb}
use Rattle.sheet.specs.Refusal.{Verdict, verdict, sheet_of}
use Rattle.sheet.specs.Answer.{answer_text, Wrote}
use Rattle.sheet.specs.declared.write.Answer.TheVariants as Shown·is
use Rattle.std.specs.Prelude.{Result, Ok, Err}
use Rattle.sheet.specs.declared.check.BadLine.{BadLine}
use Rattle.sheet.specs.declared.write.NoRoom.{NoRoom}
use Rattle.links.specs.Links.{lower_link}
use Rattle.links.specs.Blocks.{BlockRow, Checked}
use Rattle.links.specs.declared.lower.Side.TheVariants.{Previous}
use Rattle.columns.specs.Below.{joined}
use Rattle.columns.proofs.Tables.{table_length}
use Rattle.filling.specs.UseTables.{best_of}
use Rattle.growth.specs.Proposal.{region_of}
use Rattle.filling.specs.declared.lent.Rooms.{Rooms}
use Rattle.refusals.specs.Job.{Job, source_of_job}
use Rattle.rooms.specs.Rooms.{refusal_of}
use Rattle.views.specs.View.{seen_of_job}
use Rattle.outcome.specs.declared.grow.Answer.{Answer}
use Rattle.outcome.specs.declared.grow.Proposed.{Proposed}
use Rattle.outcome.specs.Outcome.{of_region}
use Rattle.proposer.specs.Answer.{of_best, of_checked, answer_of, IsProposed}
use Rattle.tables.specs.JobTables.{if_accepted, no_tables, tables_of}
use Rattle.filling.specs.SourceTables.{freqs_of, tables_of_best, WorkColumns, rooms_of}
use Rattle.figures.specs.Figures.{shown_of}
use Rattle.cells.specs.SheetJob.{job_of_sheet}
use Rattle.table_text.specs.TablesText.{columns_text, rows_of_tables, tables_text}
use Rattle.answers.specs.SheetRooms.{rooms_within}
use Rattle.answers.specs.JobAnswer.{shown_of_job, links_used, rows_of_proposed, IsAnsweredJob}
use Rattle.answers.specs.SheetAnswer.{of_verdict, if_read, IsAnswered}
use Rattle.answers.specs.declared.job.Answered.{Answered}
use Rattle.table_text.proofs.FilledText.{filled_begun, longer, longer_begun, begun_text}
use Rattle.answers.proofs.EvenTables.{tables_even}
use Rattle.std.specs.Prelude.{Option, Some, None}
use Rattle.growth.specs.declared.proposal.SplitProposal.{SplitProposal}

-- one link a block, none where the job is refused
module _ (job : Job) (n : ℕ) (counted : n ≡ length job.blocks) where
  links_long : n ≡ length (tables_of_best (source_of_job job) None).prevs
  links_long =
      counted
      ∙ sym (length-map job.blocks (λ (b : BlockRow). b.frequency))
      ∙ sym (table_length (lower_link Previous (freqs_of (source_of_job job))) (length (freqs_of (source_of_job job))))

  links_region : (r : Option SplitProposal) → links_used (of_region r) n ≡ n
  links_region (Some p) = refl
  links_region None = refl

  links_checked : (c : Checked) (b : Option ℕ) → links_used (of_checked c (of_best job b)) n
      ≡ length (if_accepted c (tables_of_best (source_of_job job) b) no_tables).prevs
  links_checked (Err r) b = refl
  links_checked (Ok u) (Some best) = links_region (region_of (seen_of_job job best)) ∙ links_long
  links_checked (Ok u) None = links_long

  pub links_filled : (rooms : Rooms) → links_used (answer_of job rooms) n ≡ length (tables_of job rooms).prevs
  links_filled rooms = links_checked (refusal_of job rooms) (best_of (source_of_job job))

-- a job that was proposed, with tables of the rows lent
module _ {job : Job} (asked : Rooms) {lent now : WorkColumns} {p : Proposed} (proposed : IsProposed job lent now p)
    (rooms : rooms_of lent ≡ rooms_within asked) where
  -- as many rows as the tables have
  rows_said : (blocks : ℕ) → blocks ≡ length job.blocks → rows_of_proposed p blocks ≡ rows_of_tables (tables_of job (rooms_of lent))
  rows_said blocks counted =
      let links = ap (λ (x : Answer). links_used x blocks) proposed.answer ∙ links_filled job blocks counted (rooms_of lent) in
      λ i. record { uses = proposed.uses i; gaps = proposed.gaps i; gap_segments = proposed.segments i; links = links i }

  -- the text of the columns, and of any longer ones, is that of the tables
  pub tables_said : (more : WorkColumns) (blocks : ℕ) → blocks ≡ length job.blocks
      → columns_text (longer now more) (rows_of_proposed p blocks) ≡ tables_text (tables_of job (rooms_within asked))
  tables_said more blocks counted =
      ap (columns_text (longer now more)) (rows_said blocks counted)
      ∙ begun_text (longer_begun more (filled_begun lent proposed.tables)) (tables_even job (rooms_of lent))
      ∙ ap (λ (r : Rooms). tables_text (tables_of job r)) rooms

  -- the answer is that of the job
  pub answer_said : shown_of job.k p.answer ≡ shown_of_job job (rooms_within asked)
  answer_said = ap (shown_of job.k) proposed.answer ∙ ap (λ (r : Rooms). shown_of job.k (answer_of job r)) rooms

-- no text at all
pub nothing_wrote : (out : List ℕ) → Wrote [] out out (Ok 0)
nothing_wrote out = let e = le-ltb (length out) 0 (omega arith) in record { answer = rw e; bytes = rw e }

-- no tables have no text
no_text : tables_text no_tables ≡ []
unfolding joined
no_text = refl

-- a text that is refused
pub refused_answered : (text : List ℕ) (asked : Rooms) (bad : BadLine) → verdict text ≡ Err bad
    → {out out-now : List ℕ} (tables : List ℕ) {w : Result ℕ NoRoom} → Wrote (answer_text (Shown·is.Refused bad.number bad.line)) out out-now w
    → IsAnswered text asked out out-now tables tables (record { answer = w; tables = Ok 0 })
refused_answered text asked bad e {out} {out-now} tables {w} wrote =
    let job = job_of_sheet (sheet_of text) in
    record {
      answer = subst (λ (v : Verdict). Wrote (answer_text (of_verdict v (shown_of_job job (rooms_within asked)))) out out-now w) (sym e) wrote;
      tables = subst (λ (v : Verdict). Wrote (tables_text (if_read v (tables_of job (rooms_within asked)))) tables tables (Ok 0)) (sym e)
          (subst (λ (x : List ℕ). Wrote x tables tables (Ok 0)) (sym no_text) (nothing_wrote tables));
    }

-- a sheet, by the answer to its job
pub sheet_answered : (text : List ℕ) (asked : Rooms) → verdict text ≡ Ok tt → {job : Job} → job ≡ job_of_sheet (sheet_of text)
    → {out out-now tables tables-now : List ℕ} {a : Answered} → IsAnsweredJob job asked out out-now tables tables-now a
    → IsAnswered text asked out out-now tables tables-now a
sheet_answered text asked e {job} same {out} {out-now} {tables} {tables-now} {a} said =
    let own : IsAnsweredJob (job_of_sheet (sheet_of text)) asked out out-now tables tables-now a =
    subst (λ (j : Job). IsAnsweredJob j asked out out-now tables tables-now a) same said in
    let j = job_of_sheet (sheet_of text) in
    record {
      answer = subst (λ (v : Verdict). Wrote (answer_text (of_verdict v (shown_of_job j (rooms_within asked)))) out out-now a.answer) (sym e) own.answer;
      tables = subst (λ (v : Verdict). Wrote (tables_text (if_read v (tables_of j (rooms_within asked)))) tables tables-now a.tables) (sym e) own.tables;
    }

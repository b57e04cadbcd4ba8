-- The longest sheet's bytes, and a line more, decide a text's answer and its tables: a sheet has no more, and the verdict of a longer text is that of its front
use Prim.Native.Nat.{ℕ, ◌+◌, ◌≤◌}
use mathlib.Core.Path.{◌≡◌, refl, sym, ap, ◌∙◌}
use mathlib.Core.List.{List}
use native.Mathlib.Omega.{arith}
use lib.ListN.{take}
use lib.Seq.{take_all}
use Rattle.sheet.specs.Refusal.{Verdict, verdict, sheet_of}
use Rattle.sheet.specs.Answer.{answer_text}
use Rattle.std.specs.Prelude.{Ok, Err}
use Rattle.sheet.specs.Kinds.{widest, longest_text}
use Rattle.sheet.proofs.Prefix.{sheet_short, front_decides}
use Rattle.filling.specs.declared.lent.Rooms.{Rooms}
use Rattle.filling.specs.SourceTables.{Tables}
use Rattle.tables.specs.JobTables.{tables_of}
use Rattle.cells.specs.SheetJob.{job_of_sheet}
use Rattle.table_text.specs.TablesText.{tables_text}
use Rattle.answers.specs.JobAnswer.{shown_of_job}
use Rattle.answers.specs.SheetAnswer.{of_verdict, answer_of_text, if_read, tables_of_text}

-- as much of a text as a sheet and a line more, or further
module _ (text : List ℕ) (n : ℕ) (long : longest_text + widest ≤ n) where
  -- a sheet lies in it whole
  pub sheet_whole : verdict text ≡ Ok tt → take n text ≡ text
  sheet_whole e = take_all n text (omega (arith, sheet_short text e))

  -- the answer is that of the whole text
  pub front_answers : (rooms : Rooms) → answer_of_text (take n text) rooms ≡ answer_of_text text rooms
  front_answers rooms = by (verdict text) refl
    where
      by : (v : Verdict) → verdict text ≡ v → answer_of_text (take n text) rooms ≡ answer_of_text text rooms
      by (Ok tt) e = ap (λ (x : List ℕ). answer_of_text x rooms) (sheet_whole e)
      by (Err bad) e =
          ap (λ (v : Verdict). answer_text (of_verdict v (shown_of_job (job_of_sheet (sheet_of (take n text))) rooms))) (front_decides text n long ∙ e)
          ∙ sym (ap (λ (v : Verdict). answer_text (of_verdict v (shown_of_job (job_of_sheet (sheet_of text)) rooms))) e)

  -- and so are the tables, and their text
  pub front_tables : (rooms : Rooms) → tables_of_text (take n text) rooms ≡ tables_of_text text rooms
  front_tables rooms = by (verdict text) refl
    where
      tables : List ℕ → Tables
      tables x = tables_of (job_of_sheet (sheet_of x)) rooms

      by : (v : Verdict) → verdict text ≡ v → tables_of_text (take n text) rooms ≡ tables_of_text text rooms
      by (Ok tt) e = ap (λ (x : List ℕ). tables_of_text x rooms) (sheet_whole e)
      by (Err bad) e =
          ap (λ (v : Verdict). if_read v (tables (take n text))) (front_decides text n long ∙ e) ∙ sym (ap (λ (v : Verdict). if_read v (tables text)) e)

  pub front_tables_text : (rooms : Rooms) → tables_text (tables_of_text (take n text) rooms) ≡ tables_text (tables_of_text text rooms)
  front_tables_text rooms = ap tables_text (front_tables rooms)

-- What a sheet's text is answered
use Rattle.std.specs.Prelude.{ℕ, List, Ok, Err}
use Rattle.sheet.specs.Refusal.{Verdict, verdict, sheet_of}
use Rattle.sheet.specs.Answer.{answer_text, Wrote}
use Rattle.sheet.specs.declared.write.Answer as Shown
use Rattle.sheet.specs.declared.write.Answer.TheVariants as Shown·is
use Rattle.filling.specs.declared.lent.Rooms.{Rooms}
use Rattle.filling.specs.SourceTables.{Tables}
use Rattle.tables.specs.JobTables.{no_tables, tables_of}
use Rattle.cells.specs.SheetJob.{job_of_sheet}
use Rattle.table_text.specs.TablesText.{tables_text}
use Rattle.answers.specs.SheetRooms.{rooms_within}
use Rattle.answers.specs.JobAnswer.{shown_of_job}
use Rattle.answers.specs.declared.job.Answered.{Answered}

-- a text that is refused has that answer, and a sheet that of its job
abbrev pub of_verdict : Verdict → Shown.Answer → Shown.Answer
of_verdict (Err bad) answer = Shown·is.Refused bad.number bad.line
of_verdict (Ok u) answer = answer

-- what a text is answered, as text, where the work tables have so many rows
abbrev pub answer_of_text : List ℕ → Rooms → List ℕ
answer_of_text text rooms = answer_text (of_verdict (verdict text) (shown_of_job (job_of_sheet (sheet_of text)) rooms))

-- a text that is refused has no tables
abbrev pub if_read : Verdict → Tables → Tables
if_read (Err bad) tables = no_tables
if_read (Ok u) tables = tables

-- the tables of a text's job
abbrev pub tables_of_text : List ℕ → Rooms → Tables
tables_of_text text rooms = if_read (verdict text) (tables_of (job_of_sheet (sheet_of text)) rooms)

-- what the call leaves where so many rows are asked for: the answer's text, and that of the tables
pub record IsAnswered (text : List ℕ) (asked : Rooms) (out out-now lines lines_now : List ℕ) (r : Answered) : Type 0 where
  pub answer : Wrote (answer_of_text text (rooms_within asked)) out out-now r.answer
  pub tables : Wrote (tables_text (tables_of_text text (rooms_within asked))) lines lines_now r.tables

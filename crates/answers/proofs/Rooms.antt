-- Work tables of `sheet_rooms` rows are never too short for a sheet: refusal 12 is not given
use Rattle.std.specs.Prelude.{Ok}
use Prim.Native.Nat.{ℕ, zero, suc, ◌≤◌}
use mathlib.Core.Path.{◌≡◌, refl, sym, ◌∙◌}
use mathlib.Core.List.{List, [], ◌∷◌, ◌++◌}
use native.Mathlib.Nat.{le_trans, le_of_eq}
use native.Mathlib.Omega.{arith}
use lib.ListN.{length, get_or, length-map}
use borrow.Author.Tests.{le-ltb}
use Rattle.sheet.specs.Kinds.{kind_b, kind_s, kind_u, kind_at, limit_of, limit}
use Rattle.sheet.specs.Sheet.{Sheet, Within}
use Rattle.sheet.specs.Refusal.{verdict, sheet_of}
use Rattle.sheet.specs.Cells.{column}
use Rattle.sheet.specs.Answer.{answer_text}
use Rattle.sheet.specs.declared.write.Answer as Shown
use Rattle.sheet.specs.declared.write.Answer.TheVariants as Shown·is
use Rattle.sheet.proofs.SoundLaws.{sound_sheet}
use Rattle.sheet.proofs.WriteLaws.{figures_length, line_length_one, line_length_two}
use Rattle.columns.specs.Table.{table, shortest}
use Rattle.columns.proofs.Tables.{table_length, shortest_at_most}
use Rattle.filling.specs.declared.lent.Rooms.{Rooms}
use Rattle.refusals.specs.Job.{sizes_of}
use Rattle.refusals.specs.Refusals.{Line, first_broken, Passed, job_lines, table_refusal_of}
use Rattle.rooms.specs.Rooms.{rooms_needed, line12, refusal_of}
use Rattle.refusals.proofs.FirstBroken.{answer_passed, empty_sound, refused_stays, sound_goes_on}
use Rattle.cells.specs.SheetJob.{job_of_sheet}
use Rattle.answers.specs.SheetRooms.{sheet_rooms}
use Rattle.links.specs.Blocks.{Checked}
use Rattle.std.specs.Prelude.{Err}

-- tables with room for every sheet
pub record Enough (r : Rooms) : Type 0 where
  pub uses : sheet_rooms.uses ≤ r.uses
  pub gaps : sheet_rooms.gaps ≤ r.gaps
  pub segments : sheet_rooms.gap_segments ≤ r.gap_segments
  pub links : sheet_rooms.links ≤ r.links

-- no answer has more than 81 bytes
pub answer_short : (a : Shown.Answer) → length (answer_text a) ≤ 81
unfolding answer_text
answer_short (Shown·is.Proposal f) = le_of_eq (figures_length f)
answer_short (Shown·is.NoneOf n) = omega (arith, line_length_one 78 n)
answer_short (Shown·is.Refused n p) = omega (arith, line_length_two 82 n p)

-- a line that has passed at the end of the table changes nothing
last_passed : (ls : List Line) (l : Line) → Passed l → first_broken (ls ++ (l ∷ [])) ≡ first_broken ls
last_passed ls l p = by (first_broken ls) refl
  where
    by : (c : Checked) → first_broken ls ≡ c → first_broken (ls ++ (l ∷ [])) ≡ first_broken ls
    by (Err r) e = refused_stays ls (l ∷ []) r e ∙ sym e
    by (Ok u) e = sound_goes_on ls (l ∷ []) e ∙ answer_passed l [] p ∙ empty_sound ∙ sym e

-- a table has no more rows than its first column
first_most : {A : Type 0} (row : ℕ → A) (n m : ℕ) (ns : List ℕ) → length (table row (shortest (n ∷ m ∷ ns))) ≤ n
first_most row n m ns = le_trans (le_of_eq (table_length row (shortest (n ∷ m ∷ ns)))) (shortest_at_most (n ∷ m ∷ ns) 0 (omega arith))

column_rows : (c : ℕ) (rows : List (List ℕ)) → length (column c rows) ≡ length rows
unfolding column
column_rows c rows = length-map rows (λ (row : List ℕ). get_or row c 0)

module _ (s : Sheet) (within : Within s) where
  abbrev size : ℕ → ℕ → ℕ
  size k c = length (column c (s k))

  few_blocks : length (job_of_sheet s).blocks ≤ limit_of kind_b
  unfolding limit kind_at
  few_blocks = le_trans (first_most _ (size kind_b 0) (size kind_b 1) (size kind_b 2 ∷ [])) (omega (arith, column_rows 0 (s kind_b), within kind_b (omega arith)))

  few_segments : length (job_of_sheet s).segments ≤ limit_of kind_s
  unfolding limit kind_at
  few_segments =
      le_trans (first_most _ (size kind_s 0) (size kind_s 1) (size kind_s 2 ∷ size kind_s 3 ∷ size kind_s 4 ∷ size kind_s 5 ∷ []))
      (omega (arith, column_rows 0 (s kind_s), within kind_s (omega arith)))

  few_uses : length (job_of_sheet s).uses ≤ limit_of kind_u
  unfolding limit kind_at
  few_uses = le_trans (first_most _ (size kind_u 0) (size kind_u 1) (size kind_u 2 ∷ [])) (omega (arith, column_rows 0 (s kind_u), within kind_u (omega arith)))

  abbrev needed : ℕ → ℕ
  needed i = get_or (rooms_needed (sizes_of (job_of_sheet s))) i 0

  -- line 12 of the table passes
  enough_passed : (r : Rooms) → Enough r → Passed (line12 (sizes_of (job_of_sheet s)) r)
  enough_passed r h zero l = le-ltb r.uses (needed 0) (omega (arith, few_uses, h.uses))
  enough_passed r h (suc zero) l = le-ltb r.gaps (needed 1) (omega (arith, few_uses, few_blocks, h.gaps))
  enough_passed r h (suc (suc zero)) l = le-ltb r.gap_segments (needed 2) (omega (arith, few_uses, few_blocks, few_segments, h.segments))
  enough_passed r h (suc (suc (suc zero))) l = le-ltb r.links (needed 3) (omega (arith, few_blocks, h.links))
  enough_passed r h (suc (suc (suc (suc p)))) l = absurd (omega arith)

-- a sheet's job is refused only by lines 1 to 11
pub rooms_enough : (text : List ℕ) → verdict text ≡ Ok tt → (r : Rooms) → Enough r
    → refusal_of (job_of_sheet (sheet_of text)) r ≡ table_refusal_of (job_of_sheet (sheet_of text))
rooms_enough text e r h =
    let s = sheet_of text in
    last_passed (job_lines (job_of_sheet s)) (line12 (sizes_of (job_of_sheet s)) r) (enough_passed s (sound_sheet text e).within r h)

-- with tables of just these rows
pub sheet_rooms_enough : (text : List ℕ) → verdict text ≡ Ok tt
    → refusal_of (job_of_sheet (sheet_of text)) sheet_rooms ≡ table_refusal_of (job_of_sheet (sheet_of text))
sheet_rooms_enough text e =
    rooms_enough text e sheet_rooms (record { uses = omega arith; gaps = omega arith; segments = omega arith; links = omega arith })

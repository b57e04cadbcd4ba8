-- Laws of a reading: its parts by what the check answers.
-- Assumes nothing.
use Prim.Native.Nat.{ℕ, ◌≤◌, ◌<◌}
use mathlib.Core.Path.{◌≡◌, refl, ap, ◌∙◌}
use mathlib.Core.List.{List}
use lib.ListN.{length}
use borrow.Author.Tests.{lt-ltb, le-ltb}
use Rattle.std.specs.Prelude.{Result, Ok, Err, IsErrAnd}
use Rattle.sheet.specs.Kinds.{cell_count}
use Rattle.sheet.specs.Refusal.{sheet_of, Checked}
use Rattle.sheet.specs.Cells.{stored, cells_after, as_read, Read}
use Rattle.sheet.specs.declared.check.BadLine.{BadLine}
use Rattle.sheet.specs.declared.fill.ReadError.{ReadError}
use Rattle.sheet.specs.declared.fill.ReadError.TheVariants.{Refused, NoRoom}

pub read_short : (text cells : List ℕ) → length cells < cell_count → Read text cells cells (Err NoRoom)
unfolding cells_after
read_short text cells h = record { answer = rw (lt-ltb (length cells) cell_count h); cells = refl; counted = tt }

module _ (text before : List ℕ) (room : cell_count ≤ length before) where
  pub read_stored : (counts after : List ℕ) → Checked text (Ok counts) → after ≡ stored (sheet_of text) before → Read text before after (Ok counts)
  unfolding cells_after
  read_stored counts after c e =
      record { answer = rw (le-ltb (length before) cell_count room) (ap as_read c.answer); cells = e; counted = c.counted }

  pub read_refused : (r : Result (List ℕ) ReadError) (b : BadLine) → IsErrAnd r (λ e. e ≡ Refused b) → Checked text (Err b) → Read text before before r
  unfolding cells_after
  read_refused (Ok counts) b h c = absurd h
  read_refused (Err e) b h c = record { answer = rw (le-ltb (length before) cell_count room) (ap Err h ∙ ap as_read c.answer); cells = refl; counted = tt }

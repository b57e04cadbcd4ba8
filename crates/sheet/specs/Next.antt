-- What the check looks at: the line that stands at a place of the text. For contracts of private functions.
-- Assumes nothing.
use Rattle.std.specs.Prelude.{ℕ, ◌+◌, List, get_or, take, drop, Option, Some, None}
use Rattle.sheet.specs.Kinds.{pick, width, kind_of}
use Rattle.sheet.specs.Refusal.{is_line, is_in_order}
use Rattle.sheet.specs.declared.check.Line.{Line}

-- a line of a kind that ends at a place
abbrev pub line_to : ℕ → ℕ → Line
line_to k e = record { kind = k; end = e }

-- a line in order and where it ends, or that there is none; n lines stand above, the latest of kind m
unfoldable pub next_at : List ℕ → ℕ → ℕ → ℕ → Option Line
next_at text at n m =
    pick (is_line (kind_of (get_or text at 0)) (take (width (kind_of (get_or text at 0))) (drop at text)))
    (pick (is_in_order n m (kind_of (get_or text at 0))) (Some (line_to (kind_of (get_or text at 0)) (at + width (kind_of (get_or text at 0))))) None)
    None

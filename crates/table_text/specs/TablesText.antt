-- The tables of a job as text: a line a row, one table behind the other
use Rattle.std.specs.Prelude.{ℕ, ◌+◌, ◌*◌, List, [], ◌∷◌, ◌++◌, map, Float, length, get_or}
use Rattle.std.specs.Float.{binary32}
use Rattle.std.specs.Float.Ieee.{to_bits}
use Rattle.columns.specs.Below.{joined}
use Rattle.table_text.specs.declared.write.Column.{Column}
use Rattle.table_text.specs.declared.write.Column.TheVariants.{Numbers, Weights}
use Rattle.sheet.specs.Sheet.{line_text}
use Rattle.numbers.specs.Weight.{zero_weight}
use Rattle.use_rows.specs.declared.row.SplitUse.{SplitUse}
use Rattle.overlaps.specs.GapSegments.{Overlap}
use Rattle.gaps.specs.Gaps.{gap_weight}
use Rattle.gaps.specs.GapColumns.{froms_of, tos_of, min_freqs_of, gap_blocks_of}
use Rattle.filling.specs.SourceTables.{Tables, WorkColumns}
use Rattle.filling.specs.declared.lent.Rooms.{Rooms}

-- a number of a column; 0 past its end
abbrev pub number_in : List ℕ → ℕ → ℕ
number_in column i = get_or column i 0

-- the bits of a weight of a column; 0 past its end
abbrev pub bits_in : List Float → ℕ → ℕ
bits_in column i = to_bits binary32 (get_or column i zero_weight)

-- for contracts of private functions: the field of row i of a column of either kind
abbrev pub field_in : Column → ℕ → ℕ
field_in (Numbers column) i = number_in column.now i
field_in (Weights column) i = bits_in column.now i

-- the line of row i of a table of such columns
abbrev pub row_line : ℕ → List Column → ℕ → List ℕ
row_line letter columns i = line_text letter (map (λ (c : Column). field_in c i) columns)

-- l, block i's links: previous, next
abbrev pub link_line : List ℕ → List ℕ → ℕ → List ℕ
link_line prevs nexts i = line_text 108 (number_in prevs i ∷ number_in nexts i ∷ [])

-- u, row i of the use table: instruction, the bits of its main, left and right weight
abbrev pub use_line : List ℕ → List Float → List Float → List Float → ℕ → List ℕ
use_line insts mains lefts rights i = line_text 117 (number_in insts i ∷ bits_in mains i ∷ bits_in lefts i ∷ bits_in rights i ∷ [])

-- g, gap i: from, to, weight bits, live instructions, frequency bits, the block that carries it
abbrev pub gap_line : List ℕ → List ℕ → List Float → List ℕ → List Float → List ℕ → ℕ → List ℕ
gap_line froms tos weights lives freqs blocks i =
    line_text 103 (number_in froms i ∷ number_in tos i ∷ bits_in weights i ∷ number_in lives i ∷ bits_in freqs i ∷ number_in blocks i ∷ [])

-- o, gap segment i: from, to, value, gap
abbrev pub gap_segment_line : List ℕ → List ℕ → List ℕ → List ℕ → ℕ → List ℕ
gap_segment_line froms tos values gaps i = line_text 111 (number_in froms i ∷ number_in tos i ∷ number_in values i ∷ number_in gaps i ∷ [])

-- the text of the first so many rows of each table
abbrev pub columns_text : WorkColumns → Rooms → List ℕ
columns_text c rows =
    joined (link_line c.prevs c.nexts) 0 rows.links
    ++ joined (use_line c.insts c.mains c.lefts c.rights) 0 rows.uses
    ++ joined (gap_line c.froms c.tos c.weights c.lives c.freqs c.blocks) 0 rows.gaps
    ++ joined (gap_segment_line c.segment_froms c.segment_tos c.segment_values c.segment_gaps) 0 rows.gap_segments

-- the columns of tables, and how many rows they have
abbrev pub columns_of_tables : Tables → WorkColumns
columns_of_tables t =
    record {
      prevs = t.prevs;
      nexts = t.nexts;
      insts = map (λ (u : SplitUse). u.inst.0) t.uses;
      mains = map (λ (u : SplitUse). u.weight) t.uses;
      lefts = map (λ (u : SplitUse). u.left_weight) t.uses;
      rights = map (λ (u : SplitUse). u.right_weight) t.uses;
      froms = froms_of t.gaps;
      tos = tos_of t.gaps;
      weights = map gap_weight t.gaps;
      lives = t.lives;
      freqs = min_freqs_of t.gaps;
      blocks = gap_blocks_of t.gaps;
      segment_froms = map (λ (s : Overlap). s.from) t.segments;
      segment_tos = map (λ (s : Overlap). s.to) t.segments;
      segment_values = map (λ (s : Overlap). s.value) t.segments;
      segment_gaps = map (λ (s : Overlap). s.gap) t.segments;
    }

abbrev pub rows_of_tables : Tables → Rooms
rows_of_tables t = record { uses = length t.uses; gaps = length t.gaps; gap_segments = length t.segments; links = length t.prevs }

-- the text of tables
abbrev pub tables_text : Tables → List ℕ
tables_text t = columns_text (columns_of_tables t) (rows_of_tables t)

-- how many bytes so many rows take: 2 for a line, and 11 for each field
abbrev pub bytes_of_rows : Rooms → ℕ
bytes_of_rows rows = 24 * rows.links + 46 * rows.uses + 68 * rows.gaps + 46 * rows.gap_segments

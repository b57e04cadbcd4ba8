-- What the table of kinds comes to: pinned, and the only place where these numbers stand.
-- Assumes nothing.
use Prim.Native.Nat.{◌+◌, ◌≤◌}
use mathlib.Core.Path.{◌≡◌, refl}
use borrow.Author.Tests.{leb-true}
use Rattle.sheet.specs.Kinds.{kind_p, kind_b, kind_v, kind_s, kind_u, kind_w, kind_e, kind_f, kinds, kind_at, fields, limit, width, widest_to, widest}
use Rattle.sheet.specs.Kinds.{kind_of, base, cell_count, lines_to, most_lines, bytes, longest_text}

-- each name is the place of its letter: P B V S U W E F
pub names_are : (kind_of 80 ≡ kind_p) × (kind_of 66 ≡ kind_b) × (kind_of 86 ≡ kind_v) × (kind_of 83 ≡ kind_s)
    × (kind_of 85 ≡ kind_u) × (kind_of 87 ≡ kind_w) × (kind_of 69 ≡ kind_e) × (kind_of 70 ≡ kind_f)
unfolding kind_of
names_are = (refl, refl, refl, refl, refl, refl, refl, refl)

-- kinds, cells, lines, and the bytes of the longest sheet and of the longest line
pub sizes_are : (kinds ≡ 8) × (cell_count ≡ 4101) × (most_lines ≡ 1153) × (longest_text ≡ 47417) × (widest ≡ 68)
unfolding cell_count base most_lines lines_to longest_text bytes widest widest_to width fields limit kind_at
sizes_are = (refl, refl, refl, refl, refl)

-- what a program reads of a text, 65,536 bytes, decides it: a sheet and a line more
pub front_read : longest_text + widest ≤ 65536
unfolding longest_text bytes widest widest_to width fields limit kind_at
front_read = leb-true (longest_text + widest) 65536 refl

-- The rows that refusal 12 asks of a sheet at most
use Rattle.std.specs.Prelude.{ℕ, ◌+◌, min}
use Rattle.sheet.specs.Kinds.{kind_b, kind_s, kind_u, limit_of}
use Rattle.filling.specs.declared.lent.Rooms.{Rooms}
use Rattle.table_text.specs.TablesText.{bytes_of_rows}

-- uses U + 2, gaps U + B + 2, gap segments U + B + S + 2, links B, with as many uses, blocks and segments as a sheet may have
abbrev pub sheet_rooms : Rooms
sheet_rooms =
    record {
      uses = limit_of kind_u + 2;
      gaps = limit_of kind_u + limit_of kind_b + 2;
      gap_segments = limit_of kind_u + limit_of kind_b + limit_of kind_s + 2;
      links = limit_of kind_b;
    }

-- the rows that are lent where so many are asked for: no more than that
abbrev pub rooms_within : Rooms → Rooms
rooms_within asked =
    record {
      uses = min asked.uses sheet_rooms.uses;
      gaps = min asked.gaps sheet_rooms.gaps;
      gap_segments = min asked.gap_segments sheet_rooms.gap_segments;
      links = min asked.links sheet_rooms.links;
    }

-- the bytes of the tables' text where every row is used: no sheet's is longer (`tables_short`)
abbrev pub table_bytes : ℕ
table_bytes = bytes_of_rows sheet_rooms

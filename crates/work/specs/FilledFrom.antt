-- What filling the work tables of a checked job leaves
use Rattle.std.specs.Prelude.{ℕ}
use Rattle.std.specs.Prelude.{◌≡◌, length, Option, Some, None}
use Rattle.use_rows.specs.Uses.{Source, use_table_of}
use Rattle.gaps.specs.Gaps.{initial_gap}
use Rattle.filling.specs.UseTables.{best_of}
use Rattle.filling.specs.SourceTables.{gaps_from, segments_from, tables_of_best, WorkColumns, FilledBy}
use Rattle.work.specs.declared.fill.FilledTables.{FilledTables}
use Rattle.work.specs.declared.fill.FilledTables.TheVariants as FilledTables·is

-- ready with a best use: the rows used, and the best use's own gap; without one, only uses
abbrev pub filled_of_best : Source → Option ℕ → FilledTables
filled_of_best source (Some best) =
    FilledTables·is.Ready (record {
      uses = length (use_table_of source);
      gaps = length (gaps_from source best);
      gap_segments = length (segments_from source best);
      own = initial_gap source.blocks (use_table_of source) best;
    })
filled_of_best source None = FilledTables·is.NoBestUse (length (use_table_of source))

-- what the call leaves: the answer, and each lent column
pub record IsFilledFrom (source : Source) (lent now : WorkColumns) (r : FilledTables) : Type 0 where
  pub answer : r ≡ filled_of_best source (best_of source)
  pub tables : FilledBy (tables_of_best source (best_of source)) lent now

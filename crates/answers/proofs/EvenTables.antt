-- The columns of a job's tables are as long as each other
use Rattle.std.specs.Prelude.{ℕ}
use Rattle.std.specs.Prelude.{Ok}
use mathlib.Core.Path.{◌≡◌, refl, sym, ◌∙◌}
use lib.ListN.{length, length-map}
use Rattle.columns.proofs.Tables.{table_length}
use Rattle.links.specs.Links.{lower_link}
use Rattle.links.specs.declared.lower.Side.TheVariants.{Previous, Next}
use Rattle.use_rows.specs.Uses.{Source}
use Rattle.gaps.specs.Gaps.{Gap}
use Rattle.gaps.specs.GapColumns.{froms_of}
use Rattle.filling.specs.UseTables.{best_of}
use Rattle.filling.specs.SourceTables.{freqs_of, gaps_from, tables_of_best}
use Rattle.filling.specs.declared.lent.Rooms.{Rooms}
use Rattle.refusals.specs.Job.{Job, source_of_job}
use Rattle.rooms.specs.Rooms.{refusal_of}
use Rattle.tables.specs.JobTables.{if_accepted, no_tables, tables_of}
use Rattle.table_text.proofs.FilledText.{Even}
use Rattle.links.specs.Blocks.{Checked}
use Rattle.std.specs.Prelude.{Err, Option, Some, None}

module _ (source : Source) where
  links_even : length (tables_of_best source None).nexts ≡ length (tables_of_best source None).prevs
  links_even =
      table_length (lower_link Next (freqs_of source)) (length (freqs_of source))
      ∙ sym (table_length (lower_link Previous (freqs_of source)) (length (freqs_of source)))

  best_even : (c : Checked) (b : Option ℕ) → Even (if_accepted c (tables_of_best source b) no_tables)
  best_even (Err r) b = record { links = refl; lives = refl }
  best_even (Ok u) (Some best) =
      record {
        links = links_even;
        lives = table_length _ (length (froms_of (gaps_from source best))) ∙ length-map (gaps_from source best) (λ (g : Gap). g.from);
      }
  best_even (Ok u) None = record { links = links_even; lives = refl }

pub tables_even : (job : Job) (rooms : Rooms) → Even (tables_of job rooms)
tables_even job rooms = best_even (source_of_job job) (refusal_of job rooms) (best_of (source_of_job job))

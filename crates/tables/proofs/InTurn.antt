-- Document 02's E10, of every job: the gap table that a call leaves is the one that is built and then counted in
use Rattle.std.specs.Prelude.{ℕ}
use Rattle.std.specs.Prelude.{Ok}
use mathlib.Core.Path.{◌≡◌, refl}
use lib.ListN.{length}
use Rattle.columns.specs.Table.{table}
use Rattle.use_rows.specs.Uses.{Source}
use Rattle.gaps.specs.GapColumns.{GapsHeld}
use Rattle.gaps.specs.InTurn.{gaps_built, lives_counted}
use Rattle.gaps.proofs.InTurn.{built_then_counted}
use Rattle.filling.specs.UseTables.{best_of}
use Rattle.filling.specs.SourceTables.{starts_of, stops_of, tables_of_best, WorkColumns, gap_table, FilledBy}
use Rattle.filling.specs.declared.lent.Rooms.{Rooms}
use Rattle.refusals.specs.Job.{Job, source_of_job}
use Rattle.rooms.specs.Rooms.{refusal_of}
use Rattle.tables.specs.JobTables.{no_tables, if_accepted, tables_of}
use Rattle.links.specs.Blocks.{Checked}
use Rattle.std.specs.Prelude.{Err, Option, Some, None}

-- the gap table of a job's tables holds their gaps with their live instructions; of a refused job, or without a best use, there are none
gaps_held : (source : Source) (c : Checked) (b : Option ℕ) (lent now : WorkColumns) →
    let t = if_accepted c (tables_of_best source b) no_tables in
    FilledBy t lent now → GapsHeld t.gaps (starts_of source) (stops_of source) (gap_table lent) (gap_table now) (length t.gaps)
unfolding table
gaps_held source (Ok u) (Some best) lent now f =
    record { count = refl; from = f.from; to = f.to; weight = f.weight; live = f.live; freq = f.freq; block = f.block }
gaps_held source (Ok u) None lent now f =
    record { count = refl; from = f.from; to = f.to; weight = f.weight; live = f.live; freq = f.freq; block = f.block }
gaps_held source (Err r) b lent now f =
    record { count = refl; from = f.from; to = f.to; weight = f.weight; live = f.live; freq = f.freq; block = f.block }

-- gaps first, then counts
pub gaps_in_turn : (job : Job) (rooms : Rooms) (lent now : WorkColumns) → FilledBy (tables_of job rooms) lent now →
    let gaps = (tables_of job rooms).gaps in
    gap_table now ≡ lives_counted (starts_of (source_of_job job)) (stops_of (source_of_job job)) (length gaps) (gaps_built gaps (gap_table lent))
gaps_in_turn job rooms lent now f =
    built_then_counted (tables_of job rooms).gaps (starts_of (source_of_job job)) (stops_of (source_of_job job)) (gap_table lent) (gap_table now)
    (length (tables_of job rooms).gaps) (gaps_held (source_of_job job) (refusal_of job rooms) (best_of (source_of_job job)) lent now f)

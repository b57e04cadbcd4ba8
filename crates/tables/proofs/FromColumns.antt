-- A job's tables are made of thirteen of the 23 columns that are lent with it
use mathlib.Core.Path.{◌≡◌, refl}
use Rattle.numbers.specs.Cost.{scales_of}
use Rattle.use_rows.specs.Uses.{Source}
use Rattle.filling.specs.UseTables.{best_of}
use Rattle.filling.specs.SourceTables.{SourceColumns, source_columns, source_in, tables_of_best}
use Rattle.filling.specs.declared.lent.Rooms.{Rooms}
use Rattle.refusals.specs.declared.job.Parameters.{Parameters}
use Rattle.refusals.specs.Job.{JobColumns, job_of, source_of_job}
use Rattle.rooms.specs.Rooms.{refusal_of}
use Rattle.tables.specs.JobTables.{no_tables, if_accepted, tables_of}

-- the thirteen
abbrev pub source_columns_of : JobColumns → SourceColumns
source_columns_of c =
    source_columns c.freqs c.firsts c.ends c.codes c.starts c.stops c.values c.first_uses c.end_uses c.flags c.positions c.kinds c.costs

-- what they hold, with the job's scales
abbrev pub source_of_columns : Parameters → JobColumns → Source
source_of_columns p c = source_in (source_columns_of c) (scales_of p.cheaper_than_move p.cheaper_than_load p.indirect)

pub columns_source : (p : Parameters) (c : JobColumns) → source_of_job (job_of p c) ≡ source_of_columns p c
columns_source p c = refl

pub tables_from_columns : (p : Parameters) (c : JobColumns) (rooms : Rooms) → tables_of (job_of p c) rooms
    ≡ if_accepted (refusal_of (job_of p c) rooms) (tables_of_best (source_of_columns p c) (best_of (source_of_columns p c))) no_tables
tables_from_columns p c rooms = refl

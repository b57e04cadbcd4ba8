-- A job's tables have no more rows than the work tables, so the programs' buffer holds their text
use Rattle.std.specs.Prelude.{ℕ}
use Rattle.std.specs.Prelude.{Ok}
use Prim.Native.Nat.{◌≤◌}
use mathlib.Core.Path.{◌≡◌, refl}
use native.Mathlib.Nat.{le_trans, min-le_right}
use native.Mathlib.Omega.{arith}
use lib.ListN.{length, length-map}
use Rattle.columns.proofs.Tables.{table_length}
use Rattle.links.specs.Blocks.{BlockRow, Checked, no_refusal}
use Rattle.links.specs.Links.{lower_link, link_column}
use Rattle.links.specs.declared.lower.Side.TheVariants.{Previous}
use Rattle.use_rows.specs.Uses.{Source, use_table_of}
use Rattle.uses.proofs.UseTable.{use_table_few}
use Rattle.filling.specs.UseTables.{best_of}
use Rattle.filling.specs.SourceTables.{freqs_of, tables_of_best}
use Rattle.filling.specs.declared.lent.Rooms.{Rooms}
use Rattle.filling.proofs.SourceTables.{source_gaps_few, source_segments_few}
use Rattle.refusals.specs.Job.{Job, source_of_job}
use Rattle.rooms.specs.Rooms.{refusal_of}
use Rattle.rooms.proofs.Refused.{job_accepted, job_roomy}
use Rattle.tables.specs.JobTables.{if_accepted, no_tables, tables_of}
use Rattle.proposer.proofs.JobTheorems.{job_best_inside}
use Rattle.table_text.specs.TablesText.{tables_text, columns_of_tables, rows_of_tables, bytes_of_rows}
use Rattle.table_text.proofs.TextLaws.{text_bytes}
use Rattle.answers.specs.SheetRooms.{sheet_rooms, rooms_within}
use Rattle.std.specs.Prelude.{Err, Option, Some, None}

-- tables that have no more rows than these
pub record Fits (rows rooms : Rooms) : Type 0 where
  pub uses : rows.uses ≤ rooms.uses
  pub gaps : rows.gaps ≤ rooms.gaps
  pub segments : rows.gap_segments ≤ rooms.gap_segments
  pub links : rows.links ≤ rooms.links

-- the tables of an accepted job
module _ (job : Job) (rooms : Rooms) (sound : refusal_of job rooms ≡ no_refusal) where
  abbrev source : Source
  source = source_of_job job

  links_few : length (link_column Previous (freqs_of source)) ≤ rooms.links
  links_few =
      omega (
        arith,
        table_length (lower_link Previous (freqs_of source)) (length (freqs_of source)),
        length-map job.blocks (λ (b : BlockRow). b.frequency),
        (job_roomy job rooms sound).links,
      )

  uses_few : length (use_table_of source) ≤ rooms.uses
  uses_few = omega (arith, use_table_few source, (job_roomy job rooms sound).uses)

  best_fit : (b : Option ℕ) → best_of source ≡ b → Fits (rows_of_tables (tables_of_best source b)) rooms
  best_fit None e = record { uses = uses_few; gaps = omega arith; segments = omega arith; links = links_few }
  best_fit (Some best) e =
      let a = job_accepted job rooms sound in
      let h = job_best_inside job a best e in
      let r = job_roomy job rooms sound in
      record {
        uses = uses_few;
        gaps = le_trans (source_gaps_few source a.uses a.blocks best h) r.gaps;
        segments = le_trans (source_segments_few source a.uses a.blocks best h) r.gap_segments;
        links = links_few;
      }

-- the tables of a job, whatever rows are lent: where they are too few it is refused, and has none
pub tables_fit : (job : Job) (rooms : Rooms) → Fits (rows_of_tables (tables_of job rooms)) rooms
tables_fit job rooms = by (refusal_of job rooms) refl
  where
    by : (c : Checked) → refusal_of job rooms ≡ c → Fits (rows_of_tables (if_accepted c (tables_of_best (source_of_job job) (best_of (source_of_job job))) no_tables)) rooms
    by (Err r) e = record { uses = omega arith; gaps = omega arith; segments = omega arith; links = omega arith }
    by (Ok u) e = best_fit job rooms e (best_of (source_of_job job)) refl

-- so their text is no longer than that of all rows
pub tables_short : (job : Job) (asked : Rooms) → length (tables_text (tables_of job (rooms_within asked))) ≤ bytes_of_rows sheet_rooms
tables_short job asked =
    let t = tables_of job (rooms_within asked) in
    let f = tables_fit job (rooms_within asked) in
    omega (
      arith,
      text_bytes (columns_of_tables t) (rows_of_tables t),
      f.uses,
      f.gaps,
      f.segments,
      f.links,
      min-le_right asked.uses sheet_rooms.uses,
      min-le_right asked.gaps sheet_rooms.gaps,
      min-le_right asked.gap_segments sheet_rooms.gap_segments,
      min-le_right asked.links sheet_rooms.links,
    )

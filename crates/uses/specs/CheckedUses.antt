-- What the use table of a job relies on: its segments and uses have passed lines 5 to 8
use Rattle.std.specs.Prelude.{◌≡◌, false, ℕ, ◌*◌, ◌<◌, length}
use Rattle.links.specs.Blocks.{start_of}
use Rattle.jobs.specs.Lines.{bad_segment, bad_def_at, bad_use_at, bad_end_at}
use Rattle.jobs.specs.declared.rows.Limits.{Limits}
use Rattle.use_rows.specs.Uses.{Source}

-- a job with a segment that has passed lines 5 to 8; `limits` is what its rows were held to
pub record CheckedUses (job : Source) : Type 0 where
  pub some : 0 < length job.segments
  pub limits : Limits
  pub end : limits.end ≡ 4 * start_of job.blocks (length job.blocks)
  pub uses : limits.uses ≡ length job.uses
  pub values : limits.values ≡ length job.codes
  pub line5 : (i : ℕ) → i < length job.segments → bad_segment limits job.segments i ≡ false
  pub line6 : (i : ℕ) → i < length job.segments → bad_def_at job.uses job.segments i ≡ false
  pub line7 : (u : ℕ) → u < length job.uses → bad_use_at limits job.uses job.segments u ≡ false
  pub line8 : (i : ℕ) → i < length job.segments → bad_end_at job.uses job.segments i ≡ false

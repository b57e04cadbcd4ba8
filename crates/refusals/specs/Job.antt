-- What a job is
use Rattle.std.specs.Prelude.{ℕ, ◌*◌, List, [], length, get_or}
use Rattle.numbers.specs.Cost.{scales_of}
use Rattle.numbers.specs.declared.costs.RematScales.{RematScales}
use Rattle.links.specs.Blocks.{BlockRow, blocks_of, start_of}
use Rattle.jobs.specs.declared.rows.Segment.{Segment}
use Rattle.jobs.specs.declared.rows.Use.{Use}
use Rattle.jobs.specs.declared.rows.Reservation.{Reservation}
use Rattle.jobs.specs.declared.rows.FixedUse.{FixedUse}
use Rattle.jobs.specs.declared.rows.Limits.{Limits}
use Rattle.jobs.specs.Rows.{segments_of, uses_of, reservations_of, fixed_uses_of}
use Rattle.use_rows.specs.Uses.{Source}
use Rattle.walks.specs.Meeting.{Reserved}
use Rattle.walks.specs.declared.meeting.Register.{Register}
use Rattle.refusals.specs.declared.job.Parameters.{Parameters}
use Rattle.refusals.specs.declared.job.Sizes.{Sizes}

-- a job: the adjustment k, the bits of its three scales, the number of units, and its seven tables; codes are those of the
-- values, weights are bits
pub record Job : Type 0 where
  pub k : ℕ
  pub cheaper_than_move : ℕ
  pub cheaper_than_load : ℕ
  pub indirect : ℕ
  pub units : ℕ
  pub blocks : List BlockRow
  pub codes : List ℕ
  pub segments : List Segment
  pub uses : List Use
  pub weights : List ℕ
  pub reservations : List Reservation
  pub fixed_uses : List FixedUse

-- the 23 lent columns of a job, table by table: B (3), V (1), S (6), U (3), W (1), E (6), F (3)
pub record JobColumns : Type 0 where
  pub freqs : List ℕ
  pub firsts : List ℕ
  pub ends : List ℕ
  pub codes : List ℕ
  pub starts : List ℕ
  pub stops : List ℕ
  pub values : List ℕ
  pub first_uses : List ℕ
  pub end_uses : List ℕ
  pub flags : List ℕ
  pub positions : List ℕ
  pub kinds : List ℕ
  pub costs : List ℕ
  pub weights : List ℕ
  pub units : List ℕ
  pub froms : List ℕ
  pub tos : List ℕ
  pub reserved_kinds : List ℕ
  pub indices : List ℕ
  pub fixed : List ℕ
  pub use_units : List ℕ
  pub points : List ℕ
  pub use_values : List ℕ

-- the 23 as one
abbrev pub job_columns : List ℕ → List ℕ → List ℕ → List ℕ → List ℕ → List ℕ → List ℕ → List ℕ → List ℕ → List ℕ → List ℕ → List ℕ
    → List ℕ → List ℕ → List ℕ → List ℕ → List ℕ → List ℕ → List ℕ → List ℕ → List ℕ → List ℕ → List ℕ → JobColumns
job_columns freqs firsts ends codes starts stops values first_uses end_uses flags positions kinds costs
    weights units froms tos reserved_kinds indices fixed use_units points use_values =
    record {
      freqs = freqs;
      firsts = firsts;
      ends = ends;
      codes = codes;
      starts = starts;
      stops = stops;
      values = values;
      first_uses = first_uses;
      end_uses = end_uses;
      flags = flags;
      positions = positions;
      kinds = kinds;
      costs = costs;
      weights = weights;
      units = units;
      froms = froms;
      tos = tos;
      reserved_kinds = reserved_kinds;
      indices = indices;
      fixed = fixed;
      use_units = use_units;
      points = points;
      use_values = use_values;
    }

-- the 23 in their order: blocks, values, segments, uses, spill weights, reservations, fixed uses
abbrev pub job_columns_in : List (List ℕ) → JobColumns
job_columns_in cs =
    job_columns
    (get_or cs 0 []) (get_or cs 1 []) (get_or cs 2 [])
    (get_or cs 3 [])
    (get_or cs 4 []) (get_or cs 5 []) (get_or cs 6 []) (get_or cs 7 []) (get_or cs 8 []) (get_or cs 9 [])
    (get_or cs 10 []) (get_or cs 11 []) (get_or cs 12 [])
    (get_or cs 13 [])
    (get_or cs 14 []) (get_or cs 15 []) (get_or cs 16 []) (get_or cs 17 []) (get_or cs 18 []) (get_or cs 19 [])
    (get_or cs 20 []) (get_or cs 21 []) (get_or cs 22 [])

-- the job of the parameters and the lent columns
abbrev pub job_of : Parameters → JobColumns → Job
job_of p c =
    record {
      k = p.k;
      cheaper_than_move = p.cheaper_than_move;
      cheaper_than_load = p.cheaper_than_load;
      indirect = p.indirect;
      units = p.units;
      blocks = blocks_of c.freqs c.firsts c.ends;
      codes = c.codes;
      segments = segments_of c.starts c.stops c.values c.first_uses c.end_uses c.flags;
      uses = uses_of c.positions c.kinds c.costs;
      weights = c.weights;
      reservations = reservations_of c.units c.froms c.tos c.reserved_kinds c.indices c.fixed;
      fixed_uses = fixed_uses_of c.use_units c.points c.use_values;
    }

-- how many items each table has
abbrev pub sizes_of : Job → Sizes
sizes_of job =
    record {
      blocks = length job.blocks;
      values = length job.codes;
      segments = length job.segments;
      uses = length job.uses;
      weights = length job.weights;
      reservations = length job.reservations;
      fixed_uses = length job.fixed_uses;
    }

-- the last block's end
abbrev pub last_end : Job → ℕ
last_end job = start_of job.blocks (length job.blocks)

-- what rows are held to: known values, uses, spill weights and units, and 4 times the last block's end
abbrev pub limits_of : Job → Limits
limits_of job =
    record { values = length job.codes; uses = length job.uses; weights = length job.weights; units = job.units; end = 4 * last_end job }

-- the scales as weights
abbrev pub scales_of_job : Job → RematScales
scales_of_job job = scales_of job.cheaper_than_move job.cheaper_than_load job.indirect

-- what the job's use table is made of
abbrev pub source_of_job : Job → Source
source_of_job job =
    record { uses = job.uses; segments = job.segments; codes = job.codes; scales = scales_of_job job; blocks = job.blocks }

-- what is reserved in the job, and its register: units from 0 on
abbrev pub reserved_of_job : Job → Reserved
reserved_of_job job = record { rows = job.reservations; fixed_uses = job.fixed_uses; weights = job.weights }

abbrev pub register_of : Job → Register
register_of job = record { first = record { 0 = 0 }; units = job.units }

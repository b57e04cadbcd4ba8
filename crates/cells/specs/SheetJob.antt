-- The job that a sheet's rows make
use Rattle.std.specs.Prelude.{ℕ, ◌≤◌, ◌<◌, ◌≡◌, List, length, get_or, take, drop}
use Rattle.sheet.specs.Kinds.{kind_p, kind_b, kind_v, kind_s, kind_u, kind_w, kind_e, kind_f, kinds, fields, limit, cell_count}
use Rattle.sheet.specs.Sheet.{Sheet}
use Rattle.sheet.specs.Cells.{place, column}
use Rattle.refusals.specs.declared.job.Parameters.{Parameters}
use Rattle.refusals.specs.Job.{Job, job_of, job_columns}

-- numbers by kind and column
abbrev pub ByKind : Type 0
ByKind = ℕ → ℕ → List ℕ

-- the number in column c of the one line P
abbrev pub parameter_of : ByKind → ℕ → ℕ
parameter_of at c = get_or (at kind_p c) 0 0

-- the line P: k, three scales, units
abbrev pub parameters_of : ByKind → Parameters
parameters_of at =
    record {
      k = parameter_of at 0;
      cheaper_than_move = parameter_of at 1;
      cheaper_than_load = parameter_of at 2;
      indirect = parameter_of at 3;
      units = parameter_of at 4;
    }

-- the job of the line P and the columns of B, V, S, U, W, E and F
abbrev pub job_of_columns : ByKind → Job
job_of_columns at =
    job_of (parameters_of at)
    (job_columns (at kind_b 0) (at kind_b 1) (at kind_b 2)
    (at kind_v 0)
    (at kind_s 0) (at kind_s 1) (at kind_s 2) (at kind_s 3) (at kind_s 4) (at kind_s 5)
    (at kind_u 0) (at kind_u 1) (at kind_u 2)
    (at kind_w 0)
    (at kind_e 0) (at kind_e 1) (at kind_e 2) (at kind_e 3) (at kind_e 4) (at kind_e 5)
    (at kind_f 0) (at kind_f 1) (at kind_f 2))

-- the columns of a sheet's rows
abbrev pub columns_of : Sheet → ByKind
columns_of s k c = column c (s k)

-- a sheet as a job
abbrev pub job_of_sheet : Sheet → Job
job_of_sheet s = job_of_columns (columns_of s)

-- ---- cells that a sheet was read into
-- the columns that cells hold, with so many rows of each kind
abbrev pub cells_column : List ℕ → List ℕ → ByKind
cells_column cells counts k c = take (get_or counts k 0) (drop (place k c) cells)

-- kind k has a column c
pub record IsColumn (k c : ℕ) : Type 0 where
  pub kind : k < kinds
  pub field : c < fields k

-- cells that a sheet was read into, with so many rows of each kind: one P, and the others within their limits
pub record InCells (cells counts : List ℕ) : Type 0 where
  pub room : cell_count ≤ length cells
  pub one : get_or counts kind_p 0 ≡ 1
  pub within : (k : ℕ) → k < kinds → get_or counts k 0 ≤ limit k

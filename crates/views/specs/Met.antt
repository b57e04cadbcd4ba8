-- What a job's gap segments meet, in the job's own rows
use Rattle.std.specs.Prelude.{◌≡◌, map, ℕ, ◌<◌, T, Float, length, get_or}
use Rattle.numbers.specs.Point.{inst_of}
use Rattle.jobs.specs.Rows.{no_reservation}
use Rattle.jobs.specs.declared.rows.Reservation.{Reservation}
use Rattle.overlaps.specs.GapSegments.{Overlap}
use Rattle.use_rows.specs.declared.row.SplitUse.{SplitUse}
use Rattle.gaps.specs.Gaps.{use_of}
use Rattle.walks.specs.declared.meeting.GapSegment.{GapSegment}
use Rattle.walks.specs.Meeting.{meets, counts_as_fixed, spill_weight}
use Rattle.walks.specs.Gaps.{segment_in}
use Rattle.refusals.specs.Job.{Job}
use Rattle.tables.specs.JobTables.{uses_of_job, segments_of_job}
use Rattle.views.specs.View.{in_columns}

-- a gap segment of a job, as the walkers see it
abbrev pub segment_of_job : Job → ℕ → ℕ → GapSegment
segment_of_job job best k = segment_in (in_columns (segments_of_job job best)) k

-- the gap that it lies in
abbrev pub gap_of_segment : Job → ℕ → ℕ → ℕ
gap_of_segment job best k = get_or (map (λ (s : Overlap). s.gap) (segments_of_job job best)) k 0

-- a reservation of a job
abbrev pub reservation_of : Job → ℕ → Reservation
reservation_of job i = get_or job.reservations i no_reservation

-- gap segment k meets reservation i of a job: they overlap
pub record RowMeets (job : Job) (best k i : ℕ) : Type 0 where
  pub segment : k < length (segments_of_job job best)
  pub row : i < length job.reservations
  pub overlap : T (meets (segment_of_job job best k) (reservation_of job i))

-- they meet, and the reservation is kind 0: its weight counts
pub record Weighs (job : Job) (best k i : ℕ) : Type 0 where
  pub meet : RowMeets job best k i
  pub kind : (reservation_of job i).kind ≡ 0

-- they meet, and the reservation counts as fixed
pub record CountsAsFixed (job : Job) (best k i : ℕ) : Type 0 where
  pub meet : RowMeets job best k i
  pub fixed : T (counts_as_fixed job.fixed_uses (segment_of_job job best k) (reservation_of job i))

-- of some gap segments one meets a reservation that counts as fixed
pub record FixedMet (job : Job) (best : ℕ) (among : ℕ → Type 0) : Type 0 where
  pub segment : ℕ
  pub row : ℕ
  pub is_among : among segment
  pub counts : CountsAsFixed job best segment row

-- of some gap segments one meets a kind 0 reservation of a weight
pub record WeightMet (job : Job) (best : ℕ) (among : ℕ → Type 0) (w : Float) : Type 0 where
  pub segment : ℕ
  pub row : ℕ
  pub is_among : among segment
  pub weighs : Weighs job best segment row
  pub has : spill_weight job.weights (reservation_of job row) ≡ w

-- the gap segments of a gap
abbrev pub OfGap : Job → ℕ → ℕ → ℕ → Type 0
OfGap job best g k = gap_of_segment job best k ≡ g

-- the best use's row of the use table
abbrev pub best_row : Job → ℕ → SplitUse
best_row job best = use_of (uses_of_job job) best

-- the gap segments in the best use's instruction
abbrev pub AtBest : Job → ℕ → ℕ → Type 0
AtBest job best k = inst_of (segment_of_job job best k).from.0 ≡ (best_row job best).inst.0

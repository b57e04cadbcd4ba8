-- What growth sees of a job: its gaps, and what their gap segments meet
use Rattle.std.specs.Prelude.{ℕ, List, map, length}
use Rattle.overlaps.specs.GapSegments.{Overlap, SegmentColumns, segment_columns}
use Rattle.gaps.specs.Gaps.{gap_weight}
use Rattle.gaps.specs.GapColumns.{froms_of, min_freqs_of}
use Rattle.growth.specs.Growth.{GapsSeen}
use Rattle.region.specs.Find.{seen_by}
use Rattle.refusals.specs.Job.{Job, reserved_of_job, register_of}
use Rattle.tables.specs.JobTables.{gaps_of_job, own_of_job, lives_of_job, segments_of_job}

-- rows of gap segments in columns
abbrev pub in_columns : List Overlap → SegmentColumns
in_columns rows =
    segment_columns (map (λ (s : Overlap). s.from) rows) (map (λ (s : Overlap). s.to) rows)
    (map (λ (s : Overlap). s.value) rows) (map (λ (s : Overlap). s.gap) rows)
    (length (map (λ (s : Overlap). s.from) rows))

-- what growth sees of the job
abbrev pub seen_of_job : Job → ℕ → GapsSeen
seen_of_job job best =
    seen_by (register_of job) (reserved_of_job job) (in_columns (segments_of_job job best))
    (froms_of (gaps_of_job job best)) (map gap_weight (gaps_of_job job best)) (lives_of_job job best) (min_freqs_of (gaps_of_job job best))
    (own_of_job job best) job.k

-- A job's columns taken one by one from the list in which they are lent
use mathlib.Core.Path.{◌≡◌}
use mathlib.Core.List.{List, map}
use Prim.Native.Nat.{ℕ}
use denote.Ref.{Bor}
use lib.ListN.{get_or}
use Rattle.columns.proofs.Taken.{no_column, taken_at}
use Rattle.refusals.specs.Job.{JobColumns, job_columns, job_columns_in}

-- the columns as code takes them: the reference at a place, and what it shows
abbrev pub taken_columns : List (Bor (List ℕ)) → JobColumns
taken_columns cs =
    job_columns
    (get_or cs 0 no_column).now (get_or cs 1 no_column).now (get_or cs 2 no_column).now
    (get_or cs 3 no_column).now
    (get_or cs 4 no_column).now (get_or cs 5 no_column).now (get_or cs 6 no_column).now (get_or cs 7 no_column).now (get_or cs 8 no_column).now
    (get_or cs 9 no_column).now
    (get_or cs 10 no_column).now (get_or cs 11 no_column).now (get_or cs 12 no_column).now
    (get_or cs 13 no_column).now
    (get_or cs 14 no_column).now (get_or cs 15 no_column).now (get_or cs 16 no_column).now (get_or cs 17 no_column).now (get_or cs 18 no_column).now
    (get_or cs 19 no_column).now
    (get_or cs 20 no_column).now (get_or cs 21 no_column).now (get_or cs 22 no_column).now

-- the columns taken are those of the list
pub columns_taken : (cs : List (Bor (List ℕ))) → taken_columns cs ≡ job_columns_in (map (λ x. x.now) cs)
columns_taken cs =
    λ i. job_columns
    (taken_at cs 0 i) (taken_at cs 1 i) (taken_at cs 2 i)
    (taken_at cs 3 i)
    (taken_at cs 4 i) (taken_at cs 5 i) (taken_at cs 6 i) (taken_at cs 7 i) (taken_at cs 8 i) (taken_at cs 9 i)
    (taken_at cs 10 i) (taken_at cs 11 i) (taken_at cs 12 i)
    (taken_at cs 13 i)
    (taken_at cs 14 i) (taken_at cs 15 i) (taken_at cs 16 i) (taken_at cs 17 i) (taken_at cs 18 i) (taken_at cs 19 i)
    (taken_at cs 20 i) (taken_at cs 21 i) (taken_at cs 22 i)

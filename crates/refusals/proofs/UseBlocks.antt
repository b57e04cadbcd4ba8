-- From block to block, from use to use, of every accepted job; and a job that reaches the bound
use mathlib.Core.Path.{◌≡◌, refl}
use mathlib.Core.Bool.{true}
use mathlib.Core.List.{[], ◌∷◌, map}
use Prim.Native.Nat.{ℕ, ◌+◌, ◌*◌}
use lib.ListN.{length}
use Rattle.columns.specs.First.{first_below}
use Rattle.columns.specs.Below.{sum_below, count_below, any_below}
use Rattle.numbers.specs.Figure.{apart}
use Rattle.links.specs.Blocks.{is_bad, block_of, no_refusal}
use Rattle.jobs.specs.Lines.{bad_bounds, bad_list, bad_def, bad_use, bad_end, bad_span, bad_kind, bad_fixed_use}
use Rattle.use_lists.specs.Steps.{number_before}
use Rattle.uses.specs.UseSteps.{is_fixed_def, block_of_use, distances, UseSteps}
use Rattle.uses.proofs.UseSteps.{use_steps}
use Rattle.refusals.specs.Job.{Job, source_of_job}
use Rattle.refusals.specs.Refusals.{first_broken, bad_parameters, some_long, bad_sizes, table_refusal_of}
use Rattle.refusals.proofs.Accepted.{tables_accepted}

pub uses_step : (job : Job) → table_refusal_of job ≡ no_refusal → UseSteps job.blocks job.uses job.segments
uses_step job e = let a = tables_accepted job e in use_steps (source_of_job job) a.uses a.blocks

-- two blocks of one instruction each, two segments; the uses are at 1, which is the first segment's end, at 0, a fixed def, and at 1
unfoldable pub back_and_forth : Job
back_and_forth =
    record {
      k = 0;
      cheaper_than_move = 1065353216;
      cheaper_than_load = 1065353216;
      indirect = 1065353216;
      units = 1;
      blocks = record { frequency = 1065353216; first = 0; end = 1 } ∷ record { frequency = 1065353216; first = 1; end = 2 } ∷ [];
      codes = 0 ∷ [];
      segments =
          record { start = 0; end = 4; value = 0; first_use = 0; end_use = 1; flags = 0 } ∷ record
          { start = 4; end = 8; value = 0; first_use = 1; end_use = 3; flags = 8 } ∷ [];
      uses =
          record { position = 1; kind = 4; cost = 1065353216 } ∷ record { position = 0; kind = 0; cost = 0 } ∷ record
          { position = 1; kind = 4; cost = 1065353216 } ∷ [];
      weights = [];
      reservations = [];
      fixed_uses = [];
    }

-- the block of its use u
abbrev block_there : ℕ → ℕ
block_there = block_of_use back_and_forth.blocks back_and_forth.uses

-- it is accepted, steps back by one block for its fixed def, and reaches the bound: each distance is 1
pub bound_reached : (table_refusal_of back_and_forth ≡ no_refusal) × (map block_there (0 ∷ 1 ∷ 2 ∷ []) ≡ 1 ∷ 0 ∷ 1 ∷ []) × (is_fixed_def back_and_forth.segments 1 ≡ true)
    × (map (λ (u : ℕ). apart (number_before block_there u) (block_there u)) (0 ∷ 1 ∷ 2 ∷ []) ≡ 1 ∷ 1 ∷ 1 ∷ [])
    × (distances block_there (length back_and_forth.uses) + 3 ≡ length back_and_forth.blocks + 2 * length back_and_forth.segments)
unfolding back_and_forth block_of first_below first_broken bad_parameters some_long bad_sizes is_bad bad_bounds bad_list bad_def bad_use bad_end bad_span bad_kind bad_fixed_use
    count_below any_below sum_below
bound_reached = (refl, refl, refl, refl, refl)

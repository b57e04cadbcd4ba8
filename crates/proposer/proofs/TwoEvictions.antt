-- The premise of the ring and chain law can be met: a list of two jobs and their proposals, by computation
use mathlib.Core.Path.{◌≡◌, refl}
use mathlib.Core.List.{[], ◌∷◌, map}
use Prim.Native.Nat.{ℕ}
use lib.Dec.{lit<}
use lib.Ieee.{binary32, of_bits, to_bits, add, sub, mul, div, round, lt, eq, of_int}
use Rattle.numbers.specs.Weight.{value_of}
use Rattle.numbers.specs.Normal.{normalised, fraction, exceeds}
use Rattle.numbers.specs.Cost.{spill_cost, scaled}
use Rattle.columns.specs.First.{first_below}
use Rattle.columns.specs.Table.{table, any_of}
use Rattle.columns.specs.Below.{count_below, any_below, sum_below, joined, picked}
use Rattle.links.specs.Blocks.{is_bad, block_of}
use Rattle.links.specs.Links.{is_lower, lower_link}
use Rattle.links.specs.Split.{follow}
use Rattle.jobs.specs.Lines.{bad_bounds, bad_list, bad_def, bad_use, bad_end, bad_span, bad_kind, bad_fixed_use, no_fixed}
use Rattle.use_rows.specs.Uses.{use_table, rows_from, carries, split_use, added_to_row, part_of, cost_of, frequency_at, first_inst, last_inst, best_use}
use Rattle.overlaps.specs.GapSegments.{overlap_with, overlaps_of}
use Rattle.walks.specs.Meeting.{meets, counts_as_fixed, spill_weight, of_register, fixed_against, weighs_against, fixed_met, weights_where, weights_met, fixed_met_any}
use Rattle.walks.specs.Meeting.{weights_met_all}
use Rattle.numbers.specs.Sum.{plus}
use Rattle.gaps.specs.Gaps.{cut_gaps, cuts, gaps_between, gaps_of}
use Rattle.growth.specs.Growth.{numbers_from, weights_in, weight_test, passes, side_open, left_first, side_tried, came, try_on, try, growth, grown}
use Rattle.growth.specs.Proposal.{split_cost, end_of, proposal_with, region_of}
use Rattle.growth.specs.declared.proposal.SplitProposal.{SplitProposal}
use Rattle.refusals.specs.Job.{Job}
use Rattle.refusals.specs.Refusals.{first_broken, bad_parameters, some_long, bad_sizes}
use Rattle.outcome.specs.declared.grow.Answer.TheVariants.{Found}
use Rattle.proposer.specs.Answer.{answer_of}
use Rattle.proposer.specs.Evictions.{Evictions, AnsweredJob, entry_of}
use Rattle.proposer.proofs.CaseJobs.{blocks_of_a, segment_of_a, uses_of_a, reserved_row, job_like_a, reserving, enough}
use Rattle.std.specs.Prelude.{None}

-- a proposal without ends, of four instructions and without a split cost: the bits of its use weight and of its interference weight
abbrev boundless : ℕ → ℕ → SplitProposal
boundless weight met =
    record {
      left = None;
      right = None;
      use_weight = of_bits binary32 weight;
      live_insts = 4;
      interference_weight = of_bits binary32 met;
      split_cost = of_bits binary32 0;
    }

-- case A, whose proposal's normalised weight is 0.5
abbrev plain : Job
plain = reserving [] []

-- case A at twice the frequency, with a reservation of that weight on 8 to 12
abbrev evicting : Job
evicting = job_like_a 0 (blocks_of_a 1073741824) segment_of_a uses_of_a (1056964608 ∷ []) (reserved_row 0 8 12 0 0 no_fixed ∷ [])

pub both_answered : (answer_of plain (enough plain) ≡ Found (boundless 1073741824 0))
    × (answer_of evicting (enough evicting) ≡ Found (boundless 1082130432 1056964608))
unfolding to_bits first_broken bad_parameters some_long bad_sizes is_bad bad_bounds bad_list bad_def bad_use bad_end bad_span bad_kind bad_fixed_use count_below any_below
    best_use use_table rows_from carries split_use added_to_row part_of cost_of frequency_at first_inst last_inst value_of of_bits spill_cost scaled first_below block_of add
    sub mul round eq lt table gaps_of gaps_between cuts cut_gaps plus joined follow lower_link is_lower sum_below overlap_with overlaps_of any_of meets counts_as_fixed
    spill_weight of_register fixed_against weighs_against fixed_met weights_where weights_met fixed_met_any weights_met_all picked numbers_from weight_test passes side_open
    left_first side_tried came try_on try growth grown split_cost end_of proposal_with region_of normalised fraction exceeds div of_int weights_in
both_answered = (refl, refl)

abbrev pub first_answered : AnsweredJob
first_answered = record { job = plain; rooms = enough plain; proposal = boundless 1073741824 0; answered = both_answered.0 }

abbrev pub second_answered : AnsweredJob
second_answered = record { job = evicting; rooms = enough evicting; proposal = boundless 1082130432 1056964608; answered = both_answered.1 }

-- the second meets a reservation that carries the first one's normalised weight: the only row, by its second gap segment
pub two_evictions : Evictions (map entry_of (first_answered ∷ second_answered ∷ []))
unfolding to_bits best_use use_table rows_from carries split_use added_to_row part_of cost_of frequency_at first_inst last_inst value_of of_bits spill_cost scaled first_below
    block_of add sub mul round eq lt table gaps_of gaps_between cuts cut_gaps plus joined follow lower_link is_lower sum_below overlap_with overlaps_of meets picked
    normalised div of_int
two_evictions = (
  record {
    segment = 1;
    row = 0;
    in_region = tt;
    weighs = record { meet = record { segment = lit< tt; row = lit< tt; overlap = tt }; kind = refl };
    carries = refl;
  },
  tt,
)

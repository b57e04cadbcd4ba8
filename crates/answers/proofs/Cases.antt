-- Document 01's cases A to G and I to M, which it marks with ●: one table, proved by one computed check on the definitions
use Prim.Native.Nat.{ℕ}
use Prim.Native.Char.{code}
use Prim.Native.String.{String, [] as []ᵗ, ◌∷◌ as ◌∷ᵗ◌}
use mathlib.Core.Path.{◌≡◌, refl}
use mathlib.Core.List.{List, [], ◌∷◌, ◌++◌, map}
use lib.Ieee.{of_bits, to_bits, add, sub, mul, div, round, lt, eq, of_int}
use Rattle.sheet.specs.Kinds.{kind_at, letter, fields, limit, once, needed, width, kind_of}
use Rattle.sheet.specs.Field.{digit_or_blank, digits, field, value_behind, value, is_field}
use Rattle.sheet.specs.Sheet.{fields_text, line_text, line, lines_text, text_from, render}
use Rattle.sheet.specs.Refusal.{lines_of, are_fields, is_line, kind_of_line, latest, of_kind, fault, verdict_below, verdict, numbers, row_of, sheet_of}
use Rattle.sheet.specs.Refusal.{open_kind, none_needed, is_in_order, is_complete}
use Rattle.sheet.specs.Cells.{column}
use Rattle.std.specs.Prelude.{Option, Some, None}
use Rattle.sheet.specs.declared.write.Answer as Printed
use Rattle.sheet.specs.declared.write.Answer.TheVariants as Printed·is
use Rattle.sheet.specs.Answer.{end_text, ends_text, weights_text, figures_text, answer_text}
use Rattle.numbers.specs.Weight.{units_of, value_of}
use Rattle.numbers.specs.Normal.{normalised, fraction, exceeds}
use Rattle.numbers.specs.Cost.{spill_cost, scaled}
use Rattle.columns.specs.First.{first_below}
use Rattle.columns.specs.Table.{table, any_of}
use Rattle.links.specs.Blocks.{is_bad, block_of}
use Rattle.links.specs.Links.{absent, is_lower, lower_link}
use Rattle.links.specs.Split.{follow}
use Rattle.jobs.specs.Lines.{bad_bounds, bad_list, bad_def, bad_use, bad_end, bad_span, bad_kind, bad_fixed_use, no_fixed}
use Rattle.columns.specs.Below.{count_below, any_below, sum_below, joined, picked}
use Rattle.use_rows.specs.Uses.{use_table, rows_from, carries, split_use, added_to_row, part_of, cost_of, frequency_at, first_inst, last_inst, best_use}
use Rattle.overlaps.specs.GapSegments.{overlap_with, overlaps_of}
use Rattle.walks.specs.Meeting.{meets, counts_as_fixed, spill_weight, of_register, fixed_against, weighs_against, fixed_met, weights_where, weights_met, fixed_met_any}
use Rattle.walks.specs.Meeting.{weights_met_all}
use Rattle.numbers.specs.Sum.{plus}
use Rattle.gaps.specs.Gaps.{cut_gaps, cuts, gaps_between, gaps_of}
use Rattle.growth.specs.Growth.{numbers_from, weights_in, weight_test, passes, side_open, left_first, side_tried, came, try_on, try, growth, grown}
use Rattle.growth.specs.Proposal.{split_cost, end_of, proposal_with, region_of}
use Rattle.refusals.specs.Refusals.{first_broken, bad_parameters, some_long, bad_sizes}
use Rattle.numbers.specs.Figure.{figure_of, figure}
use Rattle.refusals.specs.Job.{Job}
use Rattle.tables.specs.JobTables.{tables_of}
use Rattle.proposer.proofs.CaseJobs.{block_row, segment_row, use_row, reserved_row, job_like_a, blocks_of_a, segment_of_a, reserving, scaled_by, over, enough}
use Rattle.answers.specs.JobAnswer.{shown_of_job}
use Rattle.answers.specs.SheetAnswer.{answer_of_text}
use Rattle.answers.specs.SheetRooms.{sheet_rooms}

-- the bytes of a line of document 01, and of its lines one after the other
pub bytes : String → List ℕ
bytes []ᵗ = []
bytes (c ∷ᵗ s) = code c ∷ bytes s

pub bytes_of : List String → List ℕ
bytes_of [] = []
bytes_of (l ∷ ls) = bytes l ++ bytes_of ls

-- case A's sheet as document 01 prints it
pub sheet_of_a : List String
sheet_of_a =
    "P          0 1065353216 1065353216 1065353216          1\n"
    ∷ "B 1065353216          0          4\n"
    ∷ "V          0\n"
    ∷ "S          2         14          0          0          2          0\n"
    ∷ "U          0          5 1065353216\n"
    ∷ "U          3          4 1065353216\n"
    ∷ []

-- and its answer
pub answer_of_a : List String
answer_of_a = "Q          -          - 1073741824          4          0          0\n" ∷ "H        500\n" ∷ []

-- the same two, byte by byte
pub text_of_a : List ℕ
text_of_a =
    80 ∷ 32 ∷ 32 ∷ 32 ∷ 32 ∷ 32 ∷ 32 ∷ 32 ∷ 32 ∷ 32 ∷ 32 ∷ 48 ∷ 32 ∷ 49 ∷ 48 ∷ 54 ∷ 53 ∷ 51 ∷ 53 ∷ 51 ∷ 50 ∷ 49 ∷ 54 ∷ 32 ∷ 49 ∷ 48 ∷ 54 ∷ 53 ∷ 51 ∷ 53 ∷
    51 ∷ 50 ∷ 49 ∷ 54 ∷ 32 ∷ 49 ∷ 48 ∷ 54 ∷ 53 ∷ 51 ∷ 53 ∷ 51 ∷ 50 ∷ 49 ∷ 54 ∷ 32 ∷ 32 ∷ 32 ∷ 32 ∷ 32 ∷ 32 ∷ 32 ∷ 32 ∷ 32 ∷ 32 ∷ 49 ∷ 10 ∷ 66 ∷ 32 ∷ 49 ∷
    48 ∷ 54 ∷ 53 ∷ 51 ∷ 53 ∷ 51 ∷ 50 ∷ 49 ∷ 54 ∷ 32 ∷ 32 ∷ 32 ∷ 32 ∷ 32 ∷ 32 ∷ 32 ∷ 32 ∷ 32 ∷ 32 ∷ 48 ∷ 32 ∷ 32 ∷ 32 ∷ 32 ∷ 32 ∷ 32 ∷ 32 ∷ 32 ∷ 32 ∷ 32 ∷
    52 ∷ 10 ∷ 86 ∷ 32 ∷ 32 ∷ 32 ∷ 32 ∷ 32 ∷ 32 ∷ 32 ∷ 32 ∷ 32 ∷ 32 ∷ 48 ∷ 10 ∷ 83 ∷ 32 ∷ 32 ∷ 32 ∷ 32 ∷ 32 ∷ 32 ∷ 32 ∷ 32 ∷ 32 ∷ 32 ∷ 50 ∷ 32 ∷ 32 ∷ 32 ∷
    32 ∷ 32 ∷ 32 ∷ 32 ∷ 32 ∷ 32 ∷ 49 ∷ 52 ∷ 32 ∷ 32 ∷ 32 ∷ 32 ∷ 32 ∷ 32 ∷ 32 ∷ 32 ∷ 32 ∷ 32 ∷ 48 ∷ 32 ∷ 32 ∷ 32 ∷ 32 ∷ 32 ∷ 32 ∷ 32 ∷ 32 ∷ 32 ∷ 32 ∷ 48 ∷
    32 ∷ 32 ∷ 32 ∷ 32 ∷ 32 ∷ 32 ∷ 32 ∷ 32 ∷ 32 ∷ 32 ∷ 50 ∷ 32 ∷ 32 ∷ 32 ∷ 32 ∷ 32 ∷ 32 ∷ 32 ∷ 32 ∷ 32 ∷ 32 ∷ 48 ∷ 10 ∷ 85 ∷ 32 ∷ 32 ∷ 32 ∷ 32 ∷ 32 ∷ 32 ∷
    32 ∷ 32 ∷ 32 ∷ 32 ∷ 48 ∷ 32 ∷ 32 ∷ 32 ∷ 32 ∷ 32 ∷ 32 ∷ 32 ∷ 32 ∷ 32 ∷ 32 ∷ 53 ∷ 32 ∷ 49 ∷ 48 ∷ 54 ∷ 53 ∷ 51 ∷ 53 ∷ 51 ∷ 50 ∷ 49 ∷ 54 ∷ 10 ∷ 85 ∷ 32 ∷
    32 ∷ 32 ∷ 32 ∷ 32 ∷ 32 ∷ 32 ∷ 32 ∷ 32 ∷ 32 ∷ 51 ∷ 32 ∷ 32 ∷ 32 ∷ 32 ∷ 32 ∷ 32 ∷ 32 ∷ 32 ∷ 32 ∷ 32 ∷ 52 ∷ 32 ∷ 49 ∷ 48 ∷ 54 ∷ 53 ∷ 51 ∷ 53 ∷ 51 ∷ 50 ∷
    49 ∷ 54 ∷ 10 ∷ []

pub printed_of_a : List ℕ
printed_of_a =
    81 ∷ 32 ∷ 32 ∷ 32 ∷ 32 ∷ 32 ∷ 32 ∷ 32 ∷ 32 ∷ 32 ∷ 32 ∷ 45 ∷ 32 ∷ 32 ∷ 32 ∷ 32 ∷ 32 ∷ 32 ∷ 32 ∷ 32 ∷ 32 ∷ 32 ∷ 45 ∷ 32 ∷ 49 ∷ 48 ∷ 55 ∷ 51 ∷ 55 ∷ 52 ∷
    49 ∷ 56 ∷ 50 ∷ 52 ∷ 32 ∷ 32 ∷ 32 ∷ 32 ∷ 32 ∷ 32 ∷ 32 ∷ 32 ∷ 32 ∷ 32 ∷ 52 ∷ 32 ∷ 32 ∷ 32 ∷ 32 ∷ 32 ∷ 32 ∷ 32 ∷ 32 ∷ 32 ∷ 32 ∷ 48 ∷ 32 ∷ 32 ∷ 32 ∷ 32 ∷
    32 ∷ 32 ∷ 32 ∷ 32 ∷ 32 ∷ 32 ∷ 48 ∷ 10 ∷ 72 ∷ 32 ∷ 32 ∷ 32 ∷ 32 ∷ 32 ∷ 32 ∷ 32 ∷ 32 ∷ 53 ∷ 48 ∷ 48 ∷ 10 ∷ []

-- what is shown of a case: the bytes printed, an answer in the figures that are printed, or the previous links and the next ones
pub data Shown : Type 0 where
  Text : List ℕ → Shown
  Figures : Printed.Answer → Shown
  Links : List ℕ → List ℕ → Shown

abbrev answered : Job → Shown
answered job = Figures (shown_of_job job (enough job))

abbrev linked : Job → Shown
linked job = Links (tables_of job (enough job)).prevs (tables_of job (enough job)).nexts

-- a case: what the definitions give, and what document 01 says
pub record Case : Type 0 where
  pub given : Shown
  pub said : Shown

abbrev case : Shown → Shown → Case
case given said = record { given = given; said = said }

-- document 01's Q with its H, N and R, and its sign for an absent end
abbrev Q : Option ℕ → Option ℕ → ℕ → ℕ → ℕ → ℕ → ℕ → Shown
Q left right weight insts met cost H =
    Figures
    (Printed·is.Proposal
    (record {
      left = left;
      right = right;
      use_weight = weight;
      live_insts = insts;
      interference_weight = met;
      split_cost = cost;
      thousandths = H;
    }))

abbrev N : ℕ → Shown
N kind = Figures (Printed·is.NoneOf kind)

abbrev R : ℕ → ℕ → Shown
R number place = Figures (Printed·is.Refused number place)

abbrev no : Option ℕ
no = None

abbrev inst : ℕ → Option ℕ
inst n = Some n

-- A, from its sheet's bytes to its answer's, which are those that document 01 prints
abbrev case_a : List Case
case_a =
    case (Text (answer_of_text text_of_a sheet_rooms)) (Text printed_of_a)
    ∷ case (Text text_of_a) (Text (bytes_of sheet_of_a))
    ∷ case (Text printed_of_a) (Text (bytes_of answer_of_a))
    ∷ []

-- the others
abbrev others : List Case
others =
    -- B: weight 1048576000 on 8 to 12
    case (answered (reserving (1048576000 ∷ []) (reserved_row 0 8 12 0 0 no_fixed ∷ [])))
    (Q no no 1073741824 4 1048576000 0 500)
    -- C: 1056628736 there, equality
    ∷ case (answered (reserving (1056628736 ∷ []) (reserved_row 0 8 12 0 0 no_fixed ∷ [])))
    (Q no (inst 1) 1065353216 1 0 1065353216 1000)
    -- D: 1056628735 there
    ∷ case (answered (reserving (1056628735 ∷ []) (reserved_row 0 8 12 0 0 no_fixed ∷ [])))
    (Q no no 1073741824 4 1056628735 0 500)
    -- E: kind 1 on 8 to 12
    ∷ case (answered (reserving [] (reserved_row 0 8 12 1 0 0 ∷ [])))
    (Q no (inst 1) 1065353216 1 0 1065353216 1000)
    -- F: kind 2 there, value 0
    ∷ case (answered (reserving [] (reserved_row 0 8 12 2 0 0 ∷ []))) (Q no no 1073741824 4 0 0 500)
    -- G: kind 1 on 2 to 4
    ∷ case (answered (reserving [] (reserved_row 0 2 4 1 0 0 ∷ []))) (N 2)
    -- G: kind 1 on 0 to 2
    ∷ case (answered (reserving [] (reserved_row 0 0 2 1 0 0 ∷ []))) (Q no no 1073741824 4 0 0 500)
    -- I: frequency 0
    ∷ case (answered (scaled_by 0 0)) (N 1)
    -- J: frequency bits 1, k = 1
    ∷ case (answered (scaled_by 1 1)) (N 2)
    -- J: frequency bits 1, k = 0
    ∷ case (answered (scaled_by 0 1)) (Q no (inst 1) 1 1 0 1 1)
    -- K: frequencies 4, 2, 2, 1
    ∷ case (linked (over (block_row 1082130432 0 1 ∷ block_row 1073741824 1 2 ∷ block_row 1073741824 2 3 ∷ block_row 1065353216 3 4 ∷ []) segment_of_a))
    (Links (absent ∷ absent ∷ absent ∷ absent ∷ []) (1 ∷ 3 ∷ 3 ∷ absent ∷ []))
    -- L: segment 0 to 2, both uses at 0
    ∷ case (answered (job_like_a 0 (blocks_of_a 1065353216) (segment_row 0 2 0 0 2 0) (use_row 0 5 1065353216 ∷ use_row 0 4 1065353216 ∷ []) [] []))
    (N 1)
    -- M: five instructions, end 16
    ∷ case (answered (over (block_row 1065353216 0 5 ∷ []) (segment_row 2 16 0 0 2 0))) (Q no no 1073741824 4 0 0 500)
    -- M: five instructions, end 17
    ∷ case (answered (over (block_row 1065353216 0 5 ∷ []) (segment_row 2 17 0 0 2 0))) (R 8 0)
    -- M: k 65,536
    ∷ case (answered (scaled_by 65536 1065353216)) (Q no no 1073741824 4 0 0 1)
    -- M: k 65,537
    ∷ case (answered (scaled_by 65537 1065353216)) (R 1 0)
    ∷ []

-- the table
abbrev pub cases : List Case
cases = case_a ++ others

-- every case holds; the text is computed by itself, as it takes most steps
sheet_read : answer_of_text text_of_a sheet_rooms ≡ printed_of_a
unfolding text_of_a printed_of_a kind_at letter fields limit once needed width kind_of digit_or_blank digits field value_behind value is_field
    fields_text line_text line lines_text text_from render lines_of are_fields is_line kind_of_line latest of_kind open_kind none_needed is_in_order is_complete fault
    verdict_below verdict numbers row_of sheet_of column end_text ends_text weights_text figures_text answer_text figure_of figure units_of to_bits first_broken
    bad_parameters some_long bad_sizes is_bad bad_bounds bad_list bad_def bad_use bad_end bad_span bad_kind bad_fixed_use count_below any_below best_use use_table rows_from
    carries split_use added_to_row part_of cost_of frequency_at first_inst last_inst value_of of_bits spill_cost scaled first_below block_of add sub mul round eq lt
    table gaps_of gaps_between cuts cut_gaps plus joined follow lower_link is_lower sum_below overlap_with overlaps_of any_of meets counts_as_fixed spill_weight
    of_register fixed_against weighs_against fixed_met weights_where weights_met fixed_met_any weights_met_all picked numbers_from weight_test passes side_open
    left_first side_tried came try_on try growth grown split_cost end_of proposal_with region_of normalised fraction exceeds div of_int weights_in
sheet_read = refl

as_printed : (text_of_a ≡ bytes_of sheet_of_a) × (printed_of_a ≡ bytes_of answer_of_a)
unfolding text_of_a printed_of_a sheet_of_a answer_of_a bytes bytes_of
as_printed = (refl, refl)

others_hold : map (λ (c : Case). c.given) others ≡ map (λ (c : Case). c.said) others
unfolding figure_of figure units_of to_bits first_broken bad_parameters some_long bad_sizes is_bad bad_bounds bad_list bad_def bad_use bad_end bad_span bad_kind
    bad_fixed_use count_below any_below best_use use_table rows_from carries split_use added_to_row part_of cost_of frequency_at first_inst last_inst value_of of_bits
    spill_cost scaled first_below block_of add sub mul round eq lt table gaps_of gaps_between cuts cut_gaps plus joined follow lower_link is_lower sum_below
    overlap_with overlaps_of any_of meets counts_as_fixed spill_weight of_register fixed_against weighs_against fixed_met weights_where weights_met fixed_met_any
    weights_met_all picked numbers_from weight_test passes side_open left_first side_tried came try_on try growth grown split_cost end_of proposal_with region_of
    normalised fraction exceeds div of_int weights_in
others_hold = refl

pub cases_hold : map (λ (c : Case). c.given) cases ≡ map (λ (c : Case). c.said) cases
cases_hold = λ i. Text (sheet_read i) ∷ Text (as_printed.0 i) ∷ Text (as_printed.1 i) ∷ others_hold i

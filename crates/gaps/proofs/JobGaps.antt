-- The gaps of a checked job: what they rely on, and that they hold all its counted weights and live instructions
use mathlib.Core.Path.{◌≡◌, refl, sym, ap, ◌∙◌, subst}
use mathlib.Core.List.{List, [], ◌∷◌, map}
use Prim.Native.Nat.{ℕ, zero, suc, ◌+◌, ◌-◌, ◌≤◌, ◌<◌, max}
use native.Mathlib.Omega.{arith}
use lib.Ieee.{Float}
use lib.ListN.{length, get_or, length-map}
use Rattle.numbers.specs.Weight.{zero_weight}
use Rattle.numbers.specs.Point.{inst_of, round_up}
use Rattle.columns.specs.Table.{table, row_before, Each}
use Rattle.links.specs.Blocks.{BlockRow, blocks_of, start_of, SoundBlocks, SoundColumns}
use Rattle.links.specs.Links.{link_column}
use Rattle.links.specs.declared.lower.Side.TheVariants.{Previous, Next}
use Rattle.columns.proofs.Tables.{table_of, table_same}
use Rattle.jobs.specs.Rows.{no_segment}
use Rattle.use_rows.specs.Uses.{Source, no_weights, first_inst, last_inst, use_table_of}
use Rattle.use_rows.specs.UseColumns.{UseColumns, use_columns, use_in}
use Rattle.uses.specs.CheckedUses.{CheckedUses}
use Rattle.columns.specs.Below.{sum_below}
use Rattle.overlaps.specs.Live.{live_in_gap, live_insts, Gaps, Reach}
use Rattle.use_rows.specs.declared.row.SplitUse.{SplitUse}
use Rattle.uses.proofs.UseTable.{insts_of, use_table_first, use_table_last, use_table_rises, use_table_inside, use_table_few}
use Rattle.uses.proofs.CheckedJob.{first_covers, last_covers}
use Rattle.uses.proofs.EdgeWeights.{first_no_left, last_no_right}
use Rattle.overlaps.proofs.LiveTotal.{live_total}
use Rattle.gaps.specs.Gaps.{Gap, use_of, gaps_of, uses_in, Cuttable}
use Rattle.gaps.specs.GapColumns.{froms_of, tos_of}
use Rattle.gaps.specs.Laws.{Run, Least, nearest_block, placed, row_measure}
use Rattle.gaps.proofs.Placed.{all_weights_once}
use Rattle.gaps.proofs.Runs.{run_first, run_last}
use Rattle.gaps.proofs.GapTable.{Rising, gaps_run, gaps_least, gaps_nearest, gaps_few, gaps_some, gaps_tile}

-- ---- the columns of a use table
-- its rows in columns
abbrev pub table_columns : List SplitUse → UseColumns
table_columns rows =
    use_columns (map (λ (u : SplitUse). u.inst.0) rows) (map (λ (u : SplitUse). u.weight) rows) (map (λ (u : SplitUse). u.left_weight) rows)
    (map (λ (u : SplitUse). u.right_weight) rows)

row_of : (rows : List SplitUse) (k : ℕ) → use_in (table_columns rows) k ≡ use_of rows k
row_of [] k = refl
row_of (u ∷ rows) zero = refl
row_of (u ∷ rows) (suc k) = row_of rows k

-- the table that they hold is that table
pub uses_in_lem : (rows : List SplitUse) → uses_in (table_columns rows) ≡ rows
uses_in_lem rows =
    ap (table (use_in (table_columns rows))) (length-map rows (λ (u : SplitUse). u.inst.0))
    ∙ table_same (use_in (table_columns rows)) (use_of rows) (length rows) (λ k _. row_of rows k) ∙ table_of rows (no_weights 0)

inst_of_lem : (rows : List SplitUse) (k : ℕ) → get_or (insts_of rows) k 0 ≡ (use_of rows k).inst.0
inst_of_lem rows k = ap (λ (u : SplitUse). u.inst.0) (row_of rows k)

-- ---- a checked job
module _ (job : Source) (checked : CheckedUses job) (sound : SoundBlocks job.blocks) where
  abbrev uses : List SplitUse
  uses = use_table_of job

  pub job_rising : Rising job.blocks (use_table_of job)
  job_rising =
      record {
        sound = sound;
        rises =
            λ k h. let r = use_table_rises job checked k (k + 1) (omega arith) h in let a = inst_of_lem uses k in let b = inst_of_lem uses (k + 1) in
            omega (arith, r, a, b);
        inside = λ k h. let r = use_table_inside job checked k h in let a = inst_of_lem uses k in omega (arith, r, a);
      }

  -- its gaps can be cut from its columns
  pub job_cuttable : (fs ss es prevs nexts : List ℕ) → SoundColumns fs ss es → job.blocks ≡ blocks_of fs ss es → prevs ≡ link_column Previous fs
      → nexts ≡ link_column Next fs
      → (best : ℕ) → best < length (use_table_of job) → Cuttable fs ss es prevs nexts (table_columns (use_table_of job)) best
  job_cuttable fs ss es prevs nexts w e p n best h =
      let long = length-map uses (λ (u : SplitUse). u.inst.0) in
      record {
        blocks = w;
        left_links = p;
        right_links = n;
        mains_long = length-map uses (λ (u : SplitUse). u.weight) ∙ sym long;
        lefts_long = length-map uses (λ (u : SplitUse). u.left_weight) ∙ sym long;
        rights_long = length-map uses (λ (u : SplitUse). u.right_weight) ∙ sym long;
        best_inside = omega (arith, h, long);
        rises = λ k l. use_table_rises job checked k (k + 1) (omega arith) (omega (arith, l, long));
        inside =
            λ k l. subst (λ (b : List BlockRow). get_or (insts_of uses) k 0 < start_of b (length b)) e (use_table_inside job checked k (omega (arith, l, long)));
      }

  module _ (best : ℕ) (h : best < length (use_table_of job)) where
    abbrev gaps : List Gap
    gaps = gaps_of job.blocks (use_table_of job) best

    -- room for them
    pub job_gaps_few : length (gaps_of job.blocks (use_table_of job) best) ≤ length job.uses + length job.blocks + 2
    job_gaps_few = let a = gaps_few job.blocks uses job_rising best h in let b = use_table_few job in omega (arith, a, b)

    -- they leave no hole and do not overlap
    pub job_gaps_tile : Gaps (froms_of (gaps_of job.blocks (use_table_of job) best)) (tos_of (gaps_of job.blocks (use_table_of job) best))
    job_gaps_tile = gaps_tile job.blocks uses job_rising best h

    -- from the first instruction to the last
    pub job_gaps_run : Run (first_inst job.segments) (last_inst job.uses job.segments + 1) (gaps_of job.blocks (use_table_of job) best)
    job_gaps_run =
        subst (λ (x : ℕ). Run (first_inst job.segments) (x + 1) gaps) (sym (inst_of_lem uses (length uses - 1)) ∙ use_table_last job checked)
        (subst (λ (x : ℕ). Run x ((use_of uses (length uses - 1)).inst.0 + 1) gaps) (sym (inst_of_lem uses 0) ∙ use_table_first job checked)
        (gaps_run job.blocks uses job_rising best h))

    pub job_gaps_first : get_or (froms_of (gaps_of job.blocks (use_table_of job) best)) 0 0 ≡ first_inst job.segments
    job_gaps_first =
        run_first (first_inst job.segments) (last_inst job.uses job.segments + 1) gaps (gaps_some job.blocks uses job_rising best h) job_gaps_run

    pub job_gaps_last : get_or (tos_of (gaps_of job.blocks (use_table_of job) best)) (length (gaps_of job.blocks (use_table_of job) best) - 1) 0
        ≡ last_inst job.uses job.segments + 1
    job_gaps_last =
        run_last (first_inst job.segments) (last_inst job.uses job.segments + 1) gaps (gaps_some job.blocks uses job_rising best h) job_gaps_run

    -- each has the least frequency among the blocks it meets
    pub job_gaps_least : Each (Least job.blocks) (gaps_of job.blocks (use_table_of job) best)
    job_gaps_least = gaps_least job.blocks uses job_rising best h

    -- that of its last block left of the best use, of its first one right of it
    pub job_gaps_nearest : Each (λ (g : Gap). g.block ≡ nearest_block job.blocks (use_of (use_table_of job) best).inst.0 g)
        (gaps_of job.blocks (use_table_of job) best)
    job_gaps_nearest = gaps_nearest job.blocks uses job_rising best h

    -- each counted weight stands in exactly one of them: whatever measures weights, with nothing for zero, measures as much in the gaps as in
    -- all rows of the use table
    pub job_weights_once : (f : Float → ℕ) → f zero_weight ≡ 0
        → placed f (gaps_of job.blocks (use_table_of job) best) ≡ sum_below (λ (k : ℕ). row_measure f (use_of (use_table_of job) k)) (length (use_table_of job))
    job_weights_once f none =
        all_weights_once f none job.blocks uses best h (ap f (first_no_left job checked) ∙ none) (ap f (last_no_right job checked) ∙ none)

    -- they hold all live instructions
    module _ (starts ends : List ℕ) (long : length starts ≡ length job.segments)
        (start_at : (i : ℕ) → i < length job.segments → (get_or job.segments i no_segment).start ≡ get_or starts i 0)
        (end_at : (i : ℕ) → i < length job.segments → (get_or job.segments i no_segment).end ≡ get_or ends i 0) where
      pub job_reach : Reach starts ends (froms_of (gaps_of job.blocks (use_table_of job) best)) (tos_of (gaps_of job.blocks (use_table_of job) best))
      job_reach =
          let froms_long = length-map gaps (λ (g : Gap). g.from) in
          record {
            some = let s = gaps_some job.blocks uses job_rising best h in omega (arith, s, froms_long);
            first = λ i l.
                let j : i < length job.segments = omega (arith, l, long) in
                let a = first_covers job checked i j in
                let b = ap inst_of (start_at i j) in
                let c = job_gaps_first in
                higher (round_up (row_before ends 0 i)) (inst_of (get_or starts i 0)) (omega (arith, a, b, c));
            last = λ i l.
                let j : i < length job.segments = omega (arith, l, long) in
                let a = last_covers job checked i j in
                let b = ap round_up (end_at i j) in
                let c = job_gaps_last in
                let d = ap (λ (n : ℕ). get_or (tos_of gaps) (n - 1) 0) froms_long in
                omega (arith, a, b, c, d);
          }
        where
          higher : {f : ℕ} (a b : ℕ) → f ≤ b → f ≤ max a b
          higher a b p = omega (arith, p)

      -- over all gaps they sum to those of the segments alone
      pub job_live_total : sum_below (λ (g : ℕ). live_in_gap starts ends (get_or (froms_of (gaps_of job.blocks (use_table_of job) best)) g 0)
          (get_or (tos_of (gaps_of job.blocks (use_table_of job) best)) g 0)) (length (froms_of (gaps_of job.blocks (use_table_of job) best)))
          ≡ live_insts starts ends
      job_live_total = live_total starts ends (froms_of gaps) (tos_of gaps) job_gaps_tile job_reach

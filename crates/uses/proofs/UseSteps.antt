-- From block to block, from use to use: of a checked job the block of a use is at most one before that of the use before it, before it only for a
-- fixed def, and the distances sum to at most 3 below B + 2S
use mathlib.Core.Path.{◌≡◌, refl, sym, ap, ◌∙◌, subst, fun_ext}
use mathlib.Core.Bool.{Bool, true, false, cond}
use mathlib.Core.List.{List}
use Prim.Native.Nat.{ℕ, zero, suc, ◌+◌, ◌-◌, ◌≤◌, ◌<◌, zero-le, min}
use native.Mathlib.Nat.{le_refl, not-suc-le-zero}
use native.Mathlib.Omega.{arith}
use lib.Dec.{eqb}
use lib.ListN.{length, get_or}
use borrow.Author.Tests.{ltb-true, eqb-true}
use Rattle.columns.specs.Below.{count_below}
use Rattle.columns.specs.Table.{row_before}
use Rattle.columns.proofs.Tests.{and_parts}
use Rattle.links.specs.Blocks.{BlockRow, blocks_of, start_of, SoundBlocks, SoundColumns}
use Rattle.links.proofs.Columns.{ends_of_sound, last_of_sound, block_of_sound}
use Rattle.links.proofs.Homes.{home_of, blocks_near}
use Rattle.jobs.specs.Rows.{no_segment, no_use, fixed_def}
use Rattle.jobs.specs.Lines.{list_of}
use Rattle.jobs.specs.declared.rows.Segment.{Segment}
use Rattle.jobs.specs.declared.rows.Use.{Use}
use Rattle.jobs.proofs.UseLists.{list_of_lem, listed}
use Rattle.use_rows.specs.Uses.{Source}
use Rattle.use_lists.specs.Steps.{number_before, block_in_use}
use Rattle.use_lists.specs.Collecting.{Listings}
use Rattle.uses.specs.CheckedUses.{CheckedUses}
use Rattle.uses.specs.UseSteps.{is_def_of, is_fixed_def, block_of_use, Step, UseSteps}
use Rattle.uses.proofs.UseOrder.{use_order}
use Rattle.uses.proofs.Distances.{falls, distances_falls, count_first}
use Rattle.uses.proofs.CheckedJob.{job_lists, job_bounded, job_defined, job_fitting, use_in_blocks}

module _ (job : Source) (checked : CheckedUses job) (sound : SoundBlocks job.blocks) where
  abbrev at : ℕ → ℕ
  at u = (get_or job.uses u no_use).position

  abbrev block : ℕ → ℕ
  block = block_of_use job.blocks job.uses

  abbrev seg : ℕ → Segment
  seg i = get_or job.segments i no_segment

  -- positions
  order : (i u : ℕ) → i < u → u < length job.uses → at i ≤ at u + cond (is_fixed_def job.segments u) 1 0
  order i u l h =
      let k = listed (length job.uses) job.segments (job_lists job checked) u h in
      use_order checked.limits job.uses job.segments (job_lists job checked) (job_bounded job checked) (job_defined job checked)
      (job_fitting job checked) (list_of job.segments u) i u k.inside k.from k.to l

  -- blocks
  pub job_steps : (u : ℕ) → u < length job.uses → Step (block_of_use job.blocks job.uses) u (is_fixed_def job.segments u)
  job_steps zero h = record { near = zero-le; back = λ l. absurd (not-suc-le-zero l) }
  job_steps (suc i) h =
      by (is_fixed_def job.segments (suc i)) (blocks_near job.blocks sound (is_fixed_def job.segments (suc i)) (at i) (at (suc i))
      (order i (suc i) (le_refl (suc i)) h) (use_in_blocks job checked i (omega (arith, h))) (use_in_blocks job checked (suc i) h))
    where
      by : (t : Bool) → block i ≤ block (suc i) + cond t 1 0 → Step block (suc i) t
      by true l = record { near = l; back = λ _. refl }
      by false l = record { near = omega (arith, l); back = λ m. absurd (omega (arith, l, m)) }

  -- ---- the falls: at most one in each list, and none in the first that has a use
  -- a use that falls is the first of its list, and not the first of all
  fall_first : (i u : ℕ) → i < length job.segments → (seg i).first_use ≤ u → u < (seg i).end_use → falls block u ≡ true
      → (u ≡ (seg i).first_use) × (0 < u)
  fall_first i zero h p q e = absurd (not-suc-le-zero (ltb-true (block 0) 0 e))
  fall_first i (suc u) h p q e =
      let inside : suc u < length job.uses = let l = (job_lists job checked).inside i h in omega (arith, l, q) in
      let def = (job_steps (suc u) inside).back (ltb-true (block (suc u)) (block u) e) in
      let own = subst (λ (k : ℕ). is_def_of (seg k) (suc u) ≡ true)
      (sym (list_of_lem (length job.uses) job.segments (job_lists job checked) i (suc u) h p q)) def in (
        eqb-true (suc u) (seg i).first_use (and_parts (eqb (suc u) (seg i).first_use) (fixed_def (seg i).flags) own).0,
        omega arith,
      )

  falls_few : (i : ℕ) → i ≤ length job.segments → count_below (falls block) (row_before job.segments no_segment i).end_use ≤ i - 1
  unfolding count_below
  falls_few zero h = zero-le
  falls_few (suc i) h =
      let o = (job_lists job checked).forward i h in
      let first = (job_lists job checked).follows i h in
      let whole : (seg i).first_use + ((seg i).end_use - (seg i).first_use) ≡ (seg i).end_use = omega (arith, o) in
      let more = subst (λ (n : ℕ). count_below (falls block) n ≤ count_below (falls block) (seg i).first_use + min (seg i).first_use 1) whole
      (count_first (falls block) (seg i).first_use (seg i).end_use (λ u. fall_first i u h) ((seg i).end_use - (seg i).first_use) (omega (arith, o))) in
      let same = ap (count_below (falls block)) first in
      one_more i (falls_few i (omega (arith, h))) same first more
    where
      one_more : (i : ℕ) {c d x : ℕ} → count_below (falls block) (row_before job.segments no_segment i).end_use ≤ i - 1
          → d ≡ count_below (falls block) (row_before job.segments no_segment i).end_use → x ≡ (row_before job.segments no_segment i).end_use
          → c ≤ d + min x 1 → c ≤ suc i - 1
      one_more zero a e f m = omega (arith, a, e, f, m)
      one_more (suc i) a e f m = omega (arith, a, e, f, m)

  last_block : (n : ℕ) → n ≤ length job.uses → number_before block n + 1 ≤ length job.blocks
  last_block zero h = sound.some
  last_block (suc n) h = let l = (home_of job.blocks sound (at n) (use_in_blocks job checked n h)).inside in omega (arith, l)

  -- ---- all of it
  pub use_steps : UseSteps job.blocks job.uses job.segments
  use_steps =
      record {
        order = order;
        steps = job_steps;
        few =
            let d = distances_falls block (length job.uses) (λ u h. (job_steps u h).near) in
            let c = subst (λ (n : ℕ). count_below (falls block) n ≤ length job.segments - 1) (job_lists job checked).all
            (falls_few (length job.segments) (le_refl (length job.segments))) in
            let l = last_block (length job.uses) (le_refl (length job.uses)) in
            let s = checked.some in
            omega (arith, d, c, l, s);
      }

-- ---- what the code relies on
-- in the column of ends the uses have the same blocks
pub blocks_alike : (fs ss es : List ℕ) → SoundColumns fs ss es → (uses : List Use) → block_of_use (blocks_of fs ss es) uses ≡ block_in_use es (length fs) uses
blocks_alike fs ss es w uses = fun_ext (λ u. sym (block_of_sound fs ss es w (get_or uses u no_use).position))

pub job_listings : (job : Source) → CheckedUses job → (fs ss es : List ℕ) → SoundColumns fs ss es → job.blocks ≡ blocks_of fs ss es
    → Listings job.uses es (length fs) (length job.codes) job.segments
job_listings job checked fs ss es w e =
    record {
      lists = job_lists job checked;
      blocked =
          λ u h. ends_of_sound fs ss es w (at u) (subst (λ (x : ℕ). at u < x) (last_of_sound fs ss es w)
          (subst (λ b. at u < start_of b (length b)) e (use_in_blocks job checked u h)));
      near =
          λ u h. subst (λ (block : ℕ → ℕ). number_before block u ≤ block u + 1)
          (ap (λ (blocks : List BlockRow). block_of_use blocks job.uses) e ∙ blocks_alike fs ss es w job.uses)
          (job_steps job checked (subst SoundBlocks (sym e) w.sound) u h).near;
      known = λ i h. subst (λ (n : ℕ). (get_or job.segments i no_segment).value < n) checked.values (job_bounded job checked i h).known;
    }
  where
    at : ℕ → ℕ
    at u = (get_or job.uses u no_use).position

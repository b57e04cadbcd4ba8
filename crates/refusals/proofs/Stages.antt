-- The groups of lines that the code checks one after another: what each leaves for the next, and the whole answer
use mathlib.Core.Path.{◌≡◌, refl, sym, ap, ◌∙◌, subst}
use mathlib.Core.Logic.{inl, inr}
use mathlib.Core.List.{List, [], ◌∷◌, ◌++◌}
use Prim.Native.Nat.{ℕ, ◌-◌, ◌*◌, ◌≤◌, ◌<◌}
use native.Mathlib.Omega.{arith}
use lib.ListN.{length, get_or}
use lib.Dec.{lit≤}
use Rattle.columns.specs.First.{first_below}
use Rattle.links.specs.Blocks.{BlockRow, blocks_of, start_of, bad_block, check_of, item_limit, end_limit, SoundBlocks, no_refusal}
use Rattle.links.specs.declared.blocks.Refusal.{Refusal}
use Rattle.columns.proofs.Firsts.{split}
use Rattle.links.proofs.Checks.{check_refuses, check_accepts, check_sound}
use Rattle.links.proofs.Answers.{in_ends, last_column}
use Rattle.links.proofs.Columns.{last_limited}
use Rattle.jobs.specs.declared.rows.Limits.{Limits}
use Rattle.refusals.specs.declared.job.Sizes.{Sizes}
use Rattle.refusals.specs.Job.{Job, sizes_of, limits_of}
use Rattle.refusals.specs.Refusals.{Line, first_broken, line1, line2, line3, line4, line5, line6, line7, line8, line9, line10, line11, job_lines, LastEnd}
use Rattle.refusals.specs.Refusals.{FewSegments, Few, limits_by}
use Rattle.refusals.proofs.FirstBroken.{answer_here, answer_on, refused_stays, sound_goes_on, accepted_passed}
use Rattle.refusals.proofs.Sizes.{Sized, sized}
use Rattle.std.specs.Prelude.{Err}

-- line 3 of a block list that line 2 has passed is what the check of block lists answers
pub blocks_answer : (blocks : List BlockRow) → 0 < length blocks → length blocks ≤ item_limit → check_of blocks ≡ first_broken (line3 blocks ∷ [])
unfolding first_broken
blocks_answer blocks some few =
    elim (split bad (length blocks)) [
      | inl h ↦ sym (check_refuses blocks (length blocks) bad refl refl none few h) ∙ sym (answer_here (line3 blocks) [] h)
      | inr h ↦ sym (check_accepts blocks (length blocks) bad refl refl none few h) ∙ sym (answer_on (line3 blocks) [] h)
    ]
  where
    bad : ℕ
    bad = first_below (bad_block blocks) (length blocks)

    none : length blocks ≡ 0 → ⊥
    none e = zero_not (length blocks) some e
      where
        zero_not : (n : ℕ) → 0 < n → n ≡ 0 → ⊥
        zero_not n h e = omega arith

module _ (job : Job) where
  abbrev pub size_lines : List Line
  size_lines = line1 job.k job.cheaper_than_move job.cheaper_than_load job.indirect ∷ line2 job.units (sizes_of job) ∷ []

  abbrev pub segment_lines : List Line
  segment_lines =
      line5 (limits_of job) job.segments ∷ line6 job.uses job.segments ∷ line7 (limits_of job) job.uses job.segments ∷ line8 job.uses
      job.segments ∷ []

  abbrev pub reservation_lines : List Line
  reservation_lines = line9 job.weights ∷ line10 (limits_of job) job.fixed_uses job.reservations ∷ line11 (limits_of job) job.fixed_uses ∷ []

  abbrev after_values : List Line
  after_values = segment_lines ++ reservation_lines

  abbrev after_blocks : List Line
  after_blocks = line4 job.codes ∷ after_values

  abbrev after_sizes : List Line
  after_sizes = line3 job.blocks ∷ after_blocks

  -- lines 1 and 2
  pub sizes_refused : (r : Refusal) → first_broken size_lines ≡ Err r → Err r ≡ first_broken (job_lines job)
  sizes_refused r e = sym (refused_stays size_lines after_sizes r e)

  module _ (sizes : first_broken size_lines ≡ no_refusal) where
    pub job_sized : Sized job.units (sizes_of job)
    job_sized = sized job.units (sizes_of job) (accepted_passed size_lines sizes 1 (lit≤ tt) 0 (lit≤ tt))

    same_blocks : check_of job.blocks ≡ first_broken (line3 job.blocks ∷ [])
    same_blocks = blocks_answer job.blocks job_sized.some_blocks job_sized.items.blocks

    on_1 : first_broken (job_lines job) ≡ first_broken after_sizes
    on_1 = sound_goes_on size_lines after_sizes sizes

    -- line 3
    pub blocks_refused : (r : Refusal) → check_of job.blocks ≡ Err r → Err r ≡ first_broken (job_lines job)
    blocks_refused r e = sym (on_1 ∙ refused_stays (line3 job.blocks ∷ []) after_blocks r (sym same_blocks ∙ e))

    module _ (blocks : check_of job.blocks ≡ no_refusal) where
      pub job_blocks : SoundBlocks job.blocks
      job_blocks = check_sound job.blocks blocks

      on_3 : first_broken (job_lines job) ≡ first_broken after_blocks
      on_3 = on_1 ∙ sound_goes_on (line3 job.blocks ∷ []) after_blocks (sym same_blocks ∙ blocks)

      -- line 4
      pub values_refused : (r : Refusal) → first_broken (line4 job.codes ∷ []) ≡ Err r → Err r ≡ first_broken (job_lines job)
      values_refused r e = sym (on_3 ∙ refused_stays (line4 job.codes ∷ []) after_values r e)

      module _ (values : first_broken (line4 job.codes ∷ []) ≡ no_refusal) where
        on_4 : first_broken (job_lines job) ≡ first_broken after_values
        on_4 = on_3 ∙ sound_goes_on (line4 job.codes ∷ []) after_values values

        -- lines 5 to 8
        pub segments_refused : (r : Refusal) → first_broken segment_lines ≡ Err r → Err r ≡ first_broken (job_lines job)
        segments_refused r e = sym (on_4 ∙ refused_stays segment_lines reservation_lines r e)

        -- lines 9 to 11
        pub reservations_answer : first_broken segment_lines ≡ no_refusal → first_broken reservation_lines ≡ first_broken (job_lines job)
        reservations_answer e = sym (on_4 ∙ sound_goes_on segment_lines reservation_lines e)

  -- what later groups rely on
  pub segments_held : Sized job.units (sizes_of job) → FewSegments (limits_of job) job.uses job.segments
  segments_held s = record { some = s.some_segments; few_segments = s.items.segments; few_uses = s.items.uses; counted = refl }

  pub reservations_few : Sized job.units (sizes_of job) → Few (length job.weights) (length job.reservations) (length job.fixed_uses)
  reservations_few s = record { weights = s.items.weights; reservations = s.items.reservations; fixed_uses = s.items.fixed_uses }

-- the end of the last block, in its column, and the limits that it gives
abbrev limits_to : Job → ℕ → Limits
limits_to job x = record { values = length job.codes; uses = length job.uses; weights = length job.weights; units = job.units; end = 4 * x }

module _ (freqs firsts ends : List ℕ) where
  pub last_end_held : (n : ℕ) → n ≡ length (blocks_of freqs firsts ends) → SoundBlocks (blocks_of freqs firsts ends) → LastEnd ends n
  last_end_held n e sound =
      let blocks = blocks_of freqs firsts ends in
      record {
        some = subst (λ (m : ℕ). 0 < m) (sym e) sound.some;
        inside = in_ends freqs firsts ends n e;
        limited = subst (λ (x : ℕ). x ≤ end_limit) (sym (last_column freqs firsts ends n e sound.some)) (last_limited blocks sound);
      }

  pub limits_by_lem : (job : Job) (t : Sizes) → job.blocks ≡ blocks_of freqs firsts ends → SoundBlocks job.blocks → t ≡ sizes_of job
      → limits_by ends job.units t ≡ limits_of job
  limits_by_lem job t same sound e =
      ap (limits_by ends job.units) e
      ∙ ap (limits_to job) last
    where
      last : get_or ends (length job.blocks - 1) 0 ≡ start_of job.blocks (length job.blocks)
      last =
          subst (λ (b : List BlockRow). 0 < length b → get_or ends (length b - 1) 0 ≡ start_of b (length b)) (sym same)
          (last_column freqs firsts ends (length (blocks_of freqs firsts ends)) refl) sound.some

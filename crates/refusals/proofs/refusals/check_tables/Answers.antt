-- `check_tables` answers the first of lines 1 to 11 that is broken, group by group
use mathlib.Core.Path.{◌≡◌, refl, sym, ap, ◌∙◌, subst}
use mathlib.Core.List.{List, [], ◌∷◌}
use Prim.Native.Nat.{ℕ, ◌≤◌}
use lib.ListN.{length}
use Rattle.std.specs.Prelude.{Err}
use Rattle.std.proofs.lemmas.Result.{err_from_is_err_and}
use Rattle.links.specs.Blocks.{blocks_of, check_of, item_limit, SoundBlocks, Checked, no_refusal}
use Rattle.links.specs.declared.blocks.Refusal.{Refusal}
use Rattle.jobs.specs.declared.rows.Limits.{Limits}
use Rattle.refusals.specs.declared.job.Sizes.{Sizes}
use Rattle.refusals.specs.Job.{Job, sizes_of, limits_of}
use Rattle.refusals.specs.Refusals.{first_broken, line1, line2, line4, line5, line6, line7, line8, line9, line10, line11}
use Rattle.refusals.specs.Refusals.{FewSegments, Few, LastEnd, limits_by, table_refusal_of}
use Rattle.refusals.proofs.Stages.{size_lines, segment_lines, sizes_refused, job_sized, blocks_refused, job_blocks, values_refused, segments_refused}
use Rattle.refusals.proofs.Stages.{reservations_answer, segments_held, reservations_few, last_end_held, limits_by_lem}
use Rattle.refusals.proofs.refusals.check_tables.Goals as goal

-- a job as its fields are read, and its sizes: what the groups answer of it, one after another
module _ {j job : Job} (read : j ≡ job) {t : Sizes} (counted : t ≡ sizes_of job) {sizes : Checked}
    (sized : sizes ≡ first_broken (line1 j.k j.cheaper_than_move j.cheaper_than_load j.indirect ∷ line2 j.units t ∷ [])) where
  own_sizes : t ≡ sizes_of j
  own_sizes = counted ∙ ap sizes_of (sym read)

  answered : {x : Checked} → x ≡ table_refusal_of j → x ≡ table_refusal_of job
  answered e = e ∙ ap table_refusal_of read

  own_answer : sizes ≡ first_broken (size_lines j)
  own_answer = sized ∙ ap (λ (t : Sizes). first_broken (line1 j.k j.cheaper_than_move j.cheaper_than_load j.indirect ∷ line2 j.units t ∷ [])) own_sizes

  by_sizes : {r : Refusal} → sizes ≡ Err r → Err r ≡ table_refusal_of job
  by_sizes e = answered (sizes_refused j _ (sym own_answer ∙ e))

  module _ (few : sizes ≡ no_refusal) where
    passed : first_broken (size_lines j) ≡ no_refusal
    passed = sym own_answer ∙ few

    few_codes : length j.codes ≤ item_limit
    few_codes = (job_sized j passed).items.values

    few_rows : Few (length j.weights) (length j.reservations) (length j.fixed_uses)
    few_rows = reservations_few j (job_sized j passed)

    by_blocks : {r : Refusal} → check_of j.blocks ≡ Err r → Err r ≡ table_refusal_of job
    by_blocks e = answered (blocks_refused j passed _ e)

    module _ (sound : check_of j.blocks ≡ no_refusal) where
      by_values : {r : Refusal} → first_broken (line4 j.codes ∷ []) ≡ Err r → Err r ≡ table_refusal_of job
      by_values e = answered (values_refused j passed sound _ e)

      module _ (freqs firsts ends : List ℕ) (columns : j.blocks ≡ blocks_of freqs firsts ends) where
        last_end : LastEnd ends t.blocks
        last_end =
            last_end_held freqs firsts ends t.blocks (ap (λ (t : Sizes). t.blocks) own_sizes ∙ ap length columns)
            (subst SoundBlocks columns (job_blocks j passed sound))

        module _ {l : Limits} (limited : l ≡ limits_by ends j.units t) where
          own_limits : l ≡ limits_of j
          own_limits = limited ∙ limits_by_lem freqs firsts ends j t columns (job_blocks j passed sound) own_sizes

          few_segments : FewSegments l j.uses j.segments
          few_segments = subst (λ (l : Limits). FewSegments l j.uses j.segments) (sym own_limits) (segments_held j (job_sized j passed))

          module _ (values : first_broken (line4 j.codes ∷ []) ≡ no_refusal) {segments : Checked}
              (listed : segments ≡ first_broken (line5 l j.segments ∷ line6 j.uses j.segments ∷ line7 l j.uses j.segments ∷ line8 j.uses j.segments ∷ [])) where
            own_segments : segments ≡ first_broken (segment_lines j)
            own_segments =
                listed
                ∙ ap (λ (l : Limits). first_broken (line5 l j.segments ∷ line6 j.uses j.segments ∷ line7 l j.uses j.segments ∷ line8 j.uses j.segments ∷ []))
                own_limits

            by_segments : {r : Refusal} → segments ≡ Err r → Err r ≡ table_refusal_of job
            by_segments e = answered (segments_refused j passed sound values _ (sym own_segments ∙ e))

            by_reservations : segments ≡ no_refusal → {x : Checked}
                → x ≡ first_broken (line9 j.weights ∷ line10 l j.fixed_uses j.reservations ∷ line11 l j.fixed_uses ∷ []) → x ≡ table_refusal_of job
            by_reservations e x =
                answered
                (x ∙ ap (λ (l : Limits). first_broken (line9 j.weights ∷ line10 l j.fixed_uses j.reservations ∷ line11 l j.fixed_uses ∷ [])) own_limits
                ∙ reservations_answer j passed sound values (sym own_segments ∙ e))

pub returns-in_err-check_sizes : goal.returns-in_err-check_sizes
returns-in_err-check_sizes c =
    let p = err_from_is_err_and c.from_residual.result c.from_residual.ensures.1 in
    rw (p.1, p.2) (by_sizes c.job.view_is c.sizes-t.ensures c.check_sizes.ensures c.in_err-check_sizes.was)

pub returns-in_err-check_blocks : goal.returns-in_err-check_blocks
returns-in_err-check_blocks c =
    let p = err_from_is_err_and c.from_residual-in_err-check_blocks.result c.from_residual-in_err-check_blocks.ensures.1 in
    rw (p.1, p.2)
    (by_blocks c.job.view_is c.sizes-t.ensures c.check_sizes.ensures c.in_ok-check_sizes.was (sym c.check_blocks.ensures ∙ c.in_err-check_blocks.was))

pub check_values-requires : goal.check_values-requires
check_values-requires c = few_codes c.job.view_is c.sizes-t.ensures c.check_sizes.ensures c.in_ok-check_sizes.was

pub returns-in_err-check_values : goal.returns-in_err-check_values
returns-in_err-check_values c =
    let p = err_from_is_err_and c.from_residual-in_err-check_values.result c.from_residual-in_err-check_values.ensures.1 in
    rw (p.1, p.2)
    (by_values c.job.view_is c.sizes-t.ensures c.check_sizes.ensures c.in_ok-check_sizes.was (sym c.check_blocks.ensures ∙ c.in_ok-check_blocks.was)
    (sym c.check_values.ensures ∙ c.in_err-check_values.was))

pub limits_of-limits-requires : goal.limits_of-limits-requires
limits_of-limits-requires c =
    last_end c.job.view_is c.sizes-t.ensures c.check_sizes.ensures c.in_ok-check_sizes.was (sym c.check_blocks.ensures ∙ c.in_ok-check_blocks.was) _ _ _ refl

pub check_segments-requires : goal.check_segments-requires
check_segments-requires c =
    few_segments c.job.view_is c.sizes-t.ensures c.check_sizes.ensures c.in_ok-check_sizes.was (sym c.check_blocks.ensures ∙ c.in_ok-check_blocks.was) _ _ _
    refl c.limits_of-limits.ensures

pub returns-in_err-check_segments : goal.returns-in_err-check_segments
returns-in_err-check_segments c =
    let p = err_from_is_err_and c.from_residual-in_err-check_segments.result c.from_residual-in_err-check_segments.ensures.1 in
    rw (p.1, p.2)
    (by_segments c.job.view_is c.sizes-t.ensures c.check_sizes.ensures c.in_ok-check_sizes.was (sym c.check_blocks.ensures ∙ c.in_ok-check_blocks.was) _ _ _
    refl c.limits_of-limits.ensures (sym c.check_values.ensures ∙ c.in_ok-check_values.was) c.check_segments.ensures c.in_err-check_segments.was)

pub check_reservations-requires : goal.check_reservations-requires
check_reservations-requires c = few_rows c.job.view_is c.sizes-t.ensures c.check_sizes.ensures c.in_ok-check_sizes.was

pub returns : goal.returns
returns c =
    by_reservations c.job.view_is c.sizes-t.ensures c.check_sizes.ensures c.in_ok-check_sizes.was (sym c.check_blocks.ensures ∙ c.in_ok-check_blocks.was) _ _
    _ refl c.limits_of-limits.ensures (sym c.check_values.ensures ∙ c.in_ok-check_values.was) c.check_segments.ensures c.in_ok-check_segments.was
    c.check_reservations.ensures

-- `check_job` answers the first of lines 1 to 11 that is broken, or else line 12
use mathlib.Core.Path.{sym, ap, ◌∙◌, subst}
use mathlib.Core.List.{[], ◌∷◌}
use Rattle.std.proofs.lemmas.Result.{err_from_is_err_and}
use Rattle.refusals.specs.declared.job.Sizes.{Sizes}
use Rattle.refusals.specs.Job.{sizes_of}
use Rattle.refusals.specs.Refusals.{first_broken, job_lines}
use Rattle.refusals.proofs.FirstBroken.{refused_stays, sound_goes_on}
use Rattle.rooms.specs.Rooms.{line12, FewItems}
use Rattle.rooms.proofs.Refused.{accepted_few}
use Rattle.rooms.proofs.job.check_job.Goals as goal

pub returns-in_err-check_tables : goal.returns-in_err-check_tables
returns-in_err-check_tables c =
    let j = c.args.job.now in
    let p = err_from_is_err_and c.from_residual.result c.from_residual.ensures.1 in
    rw (p.1, p.2) (sym (refused_stays (job_lines j) (line12 (sizes_of j) c.args.rooms ∷ []) _ (sym c.check_tables.ensures ∙ c.in_err-check_tables.was)))

pub check_rooms-requires : goal.check_rooms-requires
check_rooms-requires c =
    subst FewItems (sym c.sizes.ensures) (accepted_few c.args.job.now (sym c.check_tables.ensures ∙ c.in_ok-check_tables.was))

pub returns : goal.returns
returns c =
    let j = c.args.job.now in
    let r = c.args.rooms in
    c.check_rooms.ensures ∙ ap (λ (t : Sizes). first_broken (line12 t r ∷ [])) c.sizes.ensures
    ∙ sym (sound_goes_on (job_lines j) (line12 (sizes_of j) r ∷ []) (sym c.check_tables.ensures ∙ c.in_ok-check_tables.was))

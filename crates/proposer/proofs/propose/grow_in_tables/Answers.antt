-- `grow_in_tables` lends growth the tables' columns and the job's reservations
use mathlib.Core.Path.{sym, ap, ◌∙◌, subst}
use Rattle.outcome.specs.Growing.{growth_columns, GrowableIf, grown_from}
use Rattle.refusals.specs.Job.{Job, register_of, reserved_of_job}
use Rattle.proposer.proofs.propose.grow_in_tables.Goals as goal

pub grow_filled-requires : goal.grow_filled-requires
grow_filled-requires c =
    let g = c.args.gaps.now in
    let s = c.args.gap_segments.now in
    let columns = growth_columns g.from.now g.weight.now g.live.now g.min_freq.now s.from.now s.to.now s.value.now s.gap.now in
    subst (λ (j : Job). GrowableIf (register_of j) (reserved_of_job j) j.k columns c.args.filled) (sym c.job.view_is) c.requires

pub returns : goal.returns
returns c =
    let g = c.args.gaps.now in
    let s = c.args.gap_segments.now in
    let columns = growth_columns g.from.now g.weight.now g.live.now g.min_freq.now s.from.now s.to.now s.value.now s.gap.now in
    c.grow_filled.ensures ∙ ap (λ (j : Job). grown_from (register_of j) (reserved_of_job j) j.k columns c.args.filled) c.job.view_is

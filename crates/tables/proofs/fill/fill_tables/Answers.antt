-- `fill_tables` checks the job, and fills its tables if it is accepted
use mathlib.Core.Path.{sym, ap, ◌∙◌}
use Rattle.rooms.specs.Rooms.{refusal_of}
use Rattle.work.specs.Lent.{work_columns_in}
use Rattle.tables.proofs.Answers.{refused_filled}
use Rattle.tables.proofs.fill.fill_tables.Goals as goal

pub returns-in-Err-clause-value : goal.returns-in-Err-clause-value
returns-in-Err-clause-value c =
    let a = c.args in
    let lent = work_columns_in a.prev_lower_freq.now a.next_lower_freq.now a.table.now a.gaps.now a.gap_segments.now in
    refused_filled a.job.now lent c.in-Err.r (ap (refusal_of a.job.now) (sym c.rooms_of-rooms.ensures) ∙ sym c.check_job.ensures ∙ c.in-Err.is)

pub fill_accepted-requires : goal.fill_accepted-requires
fill_accepted-requires c = ap (refusal_of c.args.job.now) (sym c.rooms_of-rooms.ensures) ∙ sym c.check_job.ensures ∙ c.in_default.is

-- `answer::answer_read` meets its contract: a refusal is written, or the job of the cells answered
use mathlib.Core.Path.{◌∙◌}
use Rattle.answers.proofs.ReadJob.{read_job, read_refusal, read_roomy}
use Rattle.answers.proofs.Answering.{refused_answered, sheet_answered}
use Rattle.sheet.proofs.Exact as exact
use Rattle.answers.proofs.answer.answer_read.Goals as goal

pub returns-in-Ok : goal.returns-in-Ok
returns-in-Ok c text before read enough =
    let read = rw c.in-Ok.is at read in
    sheet_answered text c.args.asked (exact.sound _ _ _ _ read) (c.job_of.ensures ∙ read_job read) c.answer_job.ensures

pub returns-in-Refused : goal.returns-in-Refused
returns-in-Refused c text before read enough =
    let read = rw c.in-Refused.is at (rw c.in-Err.is at read) in
    refused_answered text c.args.asked _ (read_refusal read enough) c.args.tables.now c.write_answer.ensures

pub returns-in-NoRoom : goal.returns-in-NoRoom
returns-in-NoRoom c text before read enough = absurd (read_roomy (rw c.in-NoRoom.is at (rw c.in-Err.is at read)) enough)

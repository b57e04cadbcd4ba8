-- `answer::answer_sheet` meets its contract: the text is read into enough cells
use Rattle.sheet.specs.Kinds.{kind_at, fields, limit, base, cell_count}
use Rattle.answers.proofs.ReadJob.{read_within, cells_enough}
use Rattle.answers.proofs.answer.answer_sheet.Goals as goal

pub answer_read-requires : goal.answer_read-requires
answer_read-requires c = read_within _ c.read_sheet-read.ensures

pub returns : goal.returns
unfolding cell_count base fields limit kind_at
returns c = c.answer_read.ensures _ _ c.read_sheet-read.ensures cells_enough

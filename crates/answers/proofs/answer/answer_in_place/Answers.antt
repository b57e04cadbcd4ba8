-- `answer::answer_in_place` meets its contract: no more of the buffer is read than it has
use mathlib.Core.Path.{◌∙◌, ap}
use lib.ListN.{take}
use Rattle.std.proofs.lemmas.List.{take_min}
use Rattle.sheet.specs.Kinds.{kind_at, fields, limit, base, cell_count}
use Rattle.answers.proofs.ReadJob.{read_within, cells_enough}
use Rattle.answers.proofs.answer.answer_in_place.Goals as goal

pub answer_read-requires : goal.answer_read-requires
answer_read-requires c = read_within _ c.read_sheet-read.ensures

pub returns : goal.returns
unfolding cell_count base fields limit kind_at
returns c =
    let said = c.answer_read.ensures _ _ c.read_sheet-read.ensures cells_enough in
    rw (ap (λ i. take i c.args.buf.now) c.min.ensures ∙ take_min c.args.n c.args.buf.now) at said

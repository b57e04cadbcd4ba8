-- `propose_in_tables` fills the tables and grows a region in them; proofs/Assembly says why that is the answer
use mathlib.Core.Path.{sym, subst}
use Rattle.work.specs.Lent.{work_columns_in}
use Rattle.proposer.specs.Answer.{IsProposed}
use Rattle.proposer.proofs.Assembly.{filled_growable, filled_proposed}
use Rattle.proposer.proofs.propose.propose_in_tables.Goals as goal

pub grow_in_tables-requires : goal.grow_in_tables-requires
grow_in_tables-requires c =
    let a = c.args in
    let f = c.fill_tables-filled.new in
    filled_growable a.job.now (work_columns_in a.prev_lower_freq.now a.next_lower_freq.now a.table.now a.gaps.now a.gap_segments.now)
    (work_columns_in f.prev_lower_freq f.next_lower_freq f.table f.gaps f.gap_segments) c.fill_tables-filled.result c.fill_tables-filled.ensures.value

pub returns-clause-value : goal.returns-clause-value
returns-clause-value c =
    let a = c.args in
    let f = c.fill_tables-filled.new in
    let lent = work_columns_in a.prev_lower_freq.now a.next_lower_freq.now a.table.now a.gaps.now a.gap_segments.now in
    let after = work_columns_in f.prev_lower_freq f.next_lower_freq f.table f.gaps f.gap_segments in
    subst (IsProposed a.job.now lent after) (sym c.grow_in_tables.ensures)
    (filled_proposed a.job.now lent after c.fill_tables-filled.result c.fill_tables-filled.ensures.value)

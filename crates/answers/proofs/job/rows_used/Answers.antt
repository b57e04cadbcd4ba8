-- `job::rows_used` meets its contract, table by table

use Rattle.answers.proofs.job.rows_used.Goals as goal

pub returns : goal.returns
returns c =
    let p = c.args.p in
    λ i. record { uses = p.uses; gaps = p.gaps; gap_segments = p.gap_segments; links = c.links_used.ensures i }

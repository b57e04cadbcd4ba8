-- `shortest`: one length more
use Rattle.std.proofs.Common.{ap, sym, ◌∙◌, ◌∷◌, ◌+◌, get_or, drop, List, ℕ}
use Rattle.std.proofs.lemmas.List.{at_drop_more}
use Rattle.columns.specs.Table.{shortest}
use Rattle.columns.proofs.Tables.{shortest_first}
use Rattle.columns.proofs.rows.shortest.Goals as goal

pub loop-n-preserved : goal.loop-n-preserved
loop-n-preserved c =
    let rows = c.loop-n.rows in
    let rest : List ℕ = c.in-Some.rest.now in
    let i = c.loop-n.n-index in
    ap (λ (n : ℕ). shortest (n ∷ drop (i + 1) rest)) c.min-rows.ensures ∙ shortest_first rows (get_or rest i 0) (drop (i + 1) rest)
    ∙ sym (at_drop_more (λ (ns : List ℕ). shortest (rows ∷ ns)) rest i 0 c.loop-n-test.true) ∙ c.loop-n.invariant

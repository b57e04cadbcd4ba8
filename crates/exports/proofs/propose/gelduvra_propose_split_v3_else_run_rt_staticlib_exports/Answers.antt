-- `gelduvra_propose_split` stores the words of what `propose_split` answers
use mathlib.Core.Path.{ap, ◌∙◌}
use Rattle.words.specs.Words.{proposed_words}
use Rattle.exports.proofs.propose.gelduvra_propose_split_v3_else_run_rt_staticlib_exports.Goals as goal

pub returns : goal.returns
returns c =
    let e = c.propose_split-proposed.ensures in
    record {
      answer = c.proposed_words.ensures
          ∙ ap proposed_words (λ i. record { answer = e.answer i; uses = e.uses i; gaps = e.gaps i; gap_segments = e.segments i });
      tables = e.tables;
    }

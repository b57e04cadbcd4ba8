-- `gelduvra_find_optimal_split_point` stores the words of what `find_optimal_split_point` answers
use mathlib.Core.Path.{ap, ◌∙◌}
use Rattle.words.specs.Words.{split_point_words}
use Rattle.exports.proofs.split_point.gelduvra_find_optimal_split_point_v3_else_run_rt_staticlib_exports.Goals as goal

pub returns : goal.returns
returns c = c.split_point_words.ensures ∙ ap split_point_words c.find_optimal_split_point-point.ensures

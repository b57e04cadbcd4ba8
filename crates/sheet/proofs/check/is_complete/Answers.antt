-- `check::is_complete` meets its contract.
-- Assumes nothing.
use Prim.Native.Nat.{ℕ, ◌-◌}
use mathlib.Core.Path.{ap, ◌∙◌}
use Rattle.sheet.specs.Kinds.{kinds}
use Rattle.sheet.specs.Refusal.{none_needed, is_complete}
use Rattle.sheet.proofs.check.is_complete.Goals as goal

pub returns : goal.returns
unfolding is_complete
returns c = c.none_needed.ensures ∙ ap (λ (a : ℕ). none_needed a (kinds - a)) c.open_kind.ensures

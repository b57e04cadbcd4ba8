-- `check::are_fields` meets its contract. The invariant: all fields are sound exactly if those left are.
-- Assumes nothing.
use Prim.Native.Nat.{◌*◌, ◌-◌}
use mathlib.Core.Path.{◌≡◌}
use lib.ListN.{drop}
use Rattle.sheet.specs.Refusal.{are_fields}
use Rattle.sheet.proofs.check.are_fields.Given as goal

abbrev pub invariant-loop-c : goal.invariant-loop-c
invariant-loop-c l = are_fields (l.n - l.c) (drop (11 * l.c) l.s) ≡ are_fields l.n l.s

-- `field::value_of` meets its contract. The invariant: the bytes left, read behind the number made so far, make the whole; the number is small.
-- Assumes nothing.
use Prim.Native.Nat.{◌+◌, ◌*◌, ◌^◌, ◌≤◌}
use mathlib.Core.Path.{◌≡◌}
use lib.ListN.{drop}
use Rattle.sheet.specs.Field.{value, value_behind}
use Rattle.sheet.proofs.field.value_of.Given as goal

abbrev pub invariant-loop-c : goal.invariant-loop-c
invariant-loop-c l = (value_behind l.n (drop l.c-index l.s) ≡ value l.s) × (l.n + 23 ≤ 23 * 10 ^ l.c-index)

-- `repeat` keeps a text within its room
use Rattle.std.proofs.Common.{vec_len, ◌≤◌}
use Rattle.sheet_cases.proofs.repeat.Given as goal

abbrev pub invariant-loop : goal.invariant-loop
invariant-loop l = vec_len l.initial.text ≤ 65536 → vec_len l.text ≤ 65536

-- `write::put_end` meets its contract.
-- Assumes nothing.
use Prim.Native.Nat.{ℕ, ◌+◌}
use mathlib.Core.Path.{sym, ap, ◌∙◌}
use mathlib.Core.List.{List}
use lib.ListN.{set}
use lib.Seq.{sets}
use Rattle.sheet.specs.Answer.{end_text}
use Rattle.std.specs.Prelude.{Option}
use Rattle.sheet.proofs.WriteLaws.{end_absent}
use Rattle.sheet.proofs.write.put_end.Goals as goal

pub returns-in-Some : goal.returns-in-Some
unfolding end_text
returns-in-Some c =
    let a = c.args in
    c.put_number.ensures ∙ ap (λ (e : Option ℕ). sets a.out.now a.at (end_text e)) (sym c.in-Some.is)

pub returns-in-None : goal.returns-in-None
returns-in-None c =
    let a = c.args in
    ap (λ (o : List ℕ). set o (a.at + 10) 45) c.put_number-in-None.ensures
    ∙ end_absent a.out.now a.at
    ∙ ap (λ (e : Option ℕ). sets a.out.now a.at (end_text e)) (sym c.in-None.is)

-- `write::write_answer` meets its contract, answer by answer.
-- Assumes nothing.
use Prim.Native.Nat.{ℕ}
use mathlib.Core.Path.{sym, ap, ◌∙◌, subst}
use mathlib.Core.List.{List}
use lib.ListN.{length}
use lib.Seq.{sets}
use Rattle.sheet.specs.Answer.{Wrote}
use Rattle.sheet.proofs.WriteLaws.{wrote_none, wrote_all, proposal_text, none_text, refusal_text, figures_length}
use Rattle.sheet.proofs.write.write_answer.Goals as goal

pub returns-then-out-lt81 : goal.returns-then-out-lt81
returns-then-out-lt81 c =
    let a = c.args in
    let t = proposal_text a.a _ c.in-Proposal.is in
    wrote_none _ a.out.now 81 (ap length t ∙ figures_length _) c.if-out-lt81.true

pub returns-else-out-lt81 : goal.returns-else-out-lt81
returns-else-out-lt81 c =
    let a = c.args in
    let t = proposal_text a.a _ c.in-Proposal.is in
    wrote_all _ a.out.now _ 81 (ap length t ∙ figures_length _) c.if-out-lt81.false
    (c.put_figures.ensures ∙ ap (sets a.out.now 0) (sym t))

pub returns-in-NoneOf : goal.returns-in-NoneOf
returns-in-NoneOf c =
    let w = c.write_line in
    subst (λ (x : List ℕ). Wrote x c.args.out.now w.new.out w.result) (sym (none_text c.args.a _ c.in-NoneOf.is)) w.ensures

pub returns-in-Refused : goal.returns-in-Refused
returns-in-Refused c =
    let w = c.write_line-in-Refused in
    subst (λ (x : List ℕ). Wrote x c.args.out.now w.new.out w.result) (sym (refusal_text c.args.a _ _ c.in-Refused.is)) w.ensures

-- A job's answer in the figures of its text
use Rattle.std.specs.Prelude.{ℕ, Option, Some, None}
use Rattle.std.specs.Float.{binary32}
use Rattle.std.specs.Float.Ieee.{of_bits}
use Rattle.numbers.specs.Normal.{normalised}
use Rattle.numbers.specs.Figure.{figure}
use Rattle.outcome.specs.Outcome.{Numbered, refused, none, proposal, numbered}
use Rattle.outcome.specs.declared.grow.Answer.{Answer}
use Rattle.sheet.specs.declared.write.Answer as Shown
use Rattle.sheet.specs.declared.write.Answer.TheVariants as Shown·is
use Rattle.numbers.specs.declared.Inst.{Inst}

-- an end of a proposal
abbrev pub end_shown : Option Inst → Option ℕ
end_shown (Some i) = Some i.0
end_shown None = None

-- the H figure: the normalised weight of a use weight by its bits, with so many instructions and a job's k, in thousandths
abbrev pub thousandths : ℕ → ℕ → ℕ → ℕ
thousandths weight insts k = figure (normalised (of_bits binary32 weight) insts k)

-- an answer's numbers as its text has them; a proposal shows its H figure too
abbrev pub shown_numbers : ℕ → Numbered → Shown.Answer
shown_numbers k (refused number place) = Shown·is.Refused number place
shown_numbers k (none kind) = Shown·is.NoneOf kind
shown_numbers k (proposal left right weight insts met cost) =
    Shown·is.Proposal
    (record {
      left = end_shown left;
      right = end_shown right;
      use_weight = weight;
      live_insts = insts;
      interference_weight = met;
      split_cost = cost;
      thousandths = thousandths weight insts k;
    })

-- an answer as its text has it
abbrev pub shown_of : ℕ → Answer → Shown.Answer
shown_of k a = shown_numbers k (numbered a)

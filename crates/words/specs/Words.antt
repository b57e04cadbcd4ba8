-- How an answer is laid out in words
use Rattle.std.specs.Prelude.{◌≡◌, ℕ, List, [], ◌∷◌, ◌++◌, length, Option, Some, None, Ok, Err}
use Rattle.std.specs.Float.{binary32}
use Rattle.std.specs.Float.Ieee.{to_bits}
use Rattle.numbers.specs.Weight.{weight_limit, value_of}
use Rattle.numbers.specs.Normal.{normalised}
use Rattle.refusals.specs.Job.{Job}
use Rattle.filling.specs.declared.lent.Rooms.{Rooms}
use Rattle.proposer.specs.Answer.{answer_of}
use Rattle.filling.specs.SourceTables.{WorkColumns, rooms_of, FilledBy}
use Rattle.tables.specs.JobTables.{tables_of}
use Rattle.outcome.specs.declared.grow.Answer.{Answer}
use Rattle.outcome.specs.declared.grow.Proposed.{Proposed}
use Rattle.outcome.specs.Outcome.{Numbered, refused, none, proposal, numbered}
use Rattle.numbers.specs.declared.Inst.{Inst}
use Rattle.links.specs.Split.{SplitPoint}

-- an end of a proposal; an absent one is 4294967295
abbrev pub end_word : Option Inst → ℕ
end_word (Some i) = i.0
end_word None = 4294967295

-- an answer's numbers: 0 and a proposal's six values, none by its kind, or 3 with a refusal's number and place; words without a meaning are 0
abbrev pub numbered_words : Numbered → List ℕ
numbered_words (proposal left right weight insts met cost) = 0 ∷ end_word left ∷ end_word right ∷ weight ∷ insts ∷ met ∷ cost ∷ []
numbered_words (none kind) = kind ∷ 0 ∷ 0 ∷ 0 ∷ 0 ∷ 0 ∷ 0 ∷ []
numbered_words (refused number place) = 3 ∷ number ∷ place ∷ 0 ∷ 0 ∷ 0 ∷ 0 ∷ []

-- an answer
abbrev pub answer_words : Answer → List ℕ
answer_words a = numbered_words (numbered a)

-- an answer, and the rows used of the use table, of the gaps and of the gap segments
abbrev pub proposed_words : Proposed → List ℕ
proposed_words r = answer_words r.answer ++ (r.uses ∷ r.gaps ∷ r.gap_segments ∷ [])

-- what a job is answered, with the rows used
abbrev pub proposed_of : Job → Rooms → Proposed
proposed_of job rooms =
    record {
      answer = answer_of job rooms;
      uses = length (tables_of job rooms).uses;
      gaps = length (tables_of job rooms).gaps;
      gap_segments = length (tables_of job rooms).segments;
    }

-- what the call leaves: the words of the answer, and each lent column
pub record IsExported (job : Job) (lent now : WorkColumns) (words : List ℕ) : Type 0 where
  pub answer : words ≡ proposed_words (proposed_of job (rooms_of lent))
  pub tables : FilledBy (tables_of job (rooms_of lent)) lent now

-- a split point: 0 and the instruction, or 1 with a refusal's number and place
abbrev pub split_point_words : SplitPoint → List ℕ
split_point_words (Ok i) = 0 ∷ i.0 ∷ 0 ∷ []
split_point_words (Err r) = 1 ∷ r.number ∷ r.place ∷ []

-- the bits of a normalised weight, from those of the use weight; bits above infinity's are no weight's, and count as zero
abbrev pub normalised_bits : ℕ → ℕ → ℕ → ℕ
normalised_bits weight insts k = to_bits binary32 (normalised (value_of weight_limit weight) insts k)

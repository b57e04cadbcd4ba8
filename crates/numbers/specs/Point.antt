-- Points: 4 × instruction + slot
use Rattle.std.specs.Prelude.{ℕ, ◌+◌, ◌/◌, ◌%◌}
use Rattle.numbers.specs.declared.Slot.{Slot}
use Rattle.numbers.specs.declared.Slot.TheVariants.{Boundary, Early, Normal, Unused}

-- the instruction that a point is in; of a Boundary, the one after it
abbrev pub inst_of : ℕ → ℕ
inst_of p = p / 4

-- a point's slot
abbrev pub slot_of : ℕ → ℕ
slot_of p = p % 4

-- a point rounded up to an instruction
abbrev pub round_up : ℕ → ℕ
round_up p = (p + 3) / 4

-- slots: Boundary 0, Early 1, Normal 2; no point has slot 3
abbrev pub slot_number : Slot → ℕ
slot_number Boundary = 0
slot_number Early = 1
slot_number Normal = 2
slot_number Unused = 3

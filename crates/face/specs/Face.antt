-- How C's values stand for those of the rooms below. Assumes nothing.
use Rattle.std.specs.Prelude.{ℕ, Bool, true, false}
use Rattle.std.proofs.Math.Option.{Option, none, some}
use Rattle.crc.specs.declared.Part.{Part}
use Rattle.crc.specs.Joining.{Joining}
use Rattle.face.specs.declared.WheelPart.{WheelPart}
use Rattle.face.specs.declared.WheelJoined.{WheelJoined}

-- A part as it comes from C.
abbrev pub part_in : WheelPart → Part
part_in p = record { sum = p.sum; len = p.len }

-- A part as it goes to C; where there is none, zeros.
abbrev pub part_out : Option Part → WheelPart
part_out none = record { sum = 0; len = 0 }
part_out (some p) = record { sum = p.sum; len = p.len }

-- An answer of joining as it goes to C: its number, and the part.
abbrev pub joined_out : Joining → WheelJoined
joined_out a = record { answer = a.number; part = part_out a.part }

-- A yes or no as it goes to C.
abbrev pub yes_out : Bool → ℕ
yes_out true = 1
yes_out false = 0

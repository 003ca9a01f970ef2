-- CRC 0x06 (01, "Commands"; 02, T-07; ICD 11.10) on one FRAM. Assumes nothing.
use Rattle.std.specs.Prelude.{ℕ, ◌+◌, ◌-◌, cond, List, ◌++◌, eqb, ltb, length}
use Rattle.blocks.specs.Fram.{Kept, range_sum}
use Rattle.carrying.specs.Ending.{Ending, done, refused}
use Rattle.field.specs.Fields.{word32_at, bytes16}
use Rattle.fram_commands.specs.Windows.{in_fram}

-- How many bytes from the first address to the last, which is included.
abbrev pub range_size : ℕ → ℕ → ℕ
range_size first last = last - first + 1

-- First and last address; last before first is refused, even outside FRAM. Reply both and the CRC.
unfoldable pub crc_of : ℕ → Kept → List ℕ → Ending (Unit {0})
crc_of first memory field =
    cond (eqb (length field) 8)
    (cond (ltb (word32_at field 4) (word32_at field 0)) refused
    (in_fram first (length memory.fram) (word32_at field 0) (range_size (word32_at field 0) (word32_at field 4))
    (λ at. done (field ++ bytes16 (range_sum memory at (at + range_size (word32_at field 0) (word32_at field 4)))) tt)))
    refused

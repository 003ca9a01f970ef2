-- POKE 0x03 (01, "Commands"; 02, T-07; ICD 11.8) on one FRAM, which may be locked. Assumes nothing.
use Rattle.std.specs.Prelude.{ℕ, ◌-◌, Bool, cond, List, ltb, length, drop}
use Rattle.blocks.specs.Fram.{Kept, store_of}
use Rattle.carrying.specs.Ending.{Ending, done, refused}
use Rattle.field.specs.Fields.{word32_at}
use Rattle.fram_commands.specs.Windows.{in_fram}

-- Address and at least one byte, echoed, so no more than the reply has room for: 1 to 1,024 bytes in a room of 1,028.
-- When locked it stores nothing, no byte and no sum.
unfoldable pub poke_of : ℕ → ℕ → Bool → Kept → List ℕ → Ending Kept
poke_of room first locked memory field =
    cond (ltb (length field) 5) refused
    (cond (ltb room (length field)) refused
    (in_fram first (length memory.fram) (word32_at field 0) (length field - 4)
    (λ at. done field (cond locked memory (store_of memory at (drop 4 field))))))

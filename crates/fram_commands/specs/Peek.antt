-- PEEK 0x02 (01, "Commands"; 02, T-07; ICD 11.7) on one FRAM. Assumes nothing.
use Rattle.std.specs.Prelude.{ℕ, ◌+◌, cond, List, ◌++◌, eqb, ltb, length, take, get_or}
use Rattle.memory.specs.Bytes.{stretch}
use Rattle.carrying.specs.Ending.{Ending, done, refused}
use Rattle.field.specs.Fields.{word16_at, word32_at, short_count}
use Rattle.fram_commands.specs.Windows.{in_fram}

-- A count of 0 is refused, and so is one whose reply, address and bytes, has no room.
unfoldable pub peek_range_of : ℕ → ℕ → List ℕ → List ℕ → ℕ → Ending (Unit {0})
peek_range_of room first fram field count =
    cond (eqb count 0) refused
    (cond (ltb room (4 + count)) refused
    (in_fram first (length fram) (word32_at field 0) count (λ at. done (take 4 field ++ stretch at count fram) tt)))

-- Address and a one-byte count (0 is 256), or a two-byte count: told apart by the exact length.
unfoldable pub peek_of : ℕ → ℕ → List ℕ → List ℕ → Ending (Unit {0})
peek_of room first fram field =
    cond (eqb (length field) 5) (peek_range_of room first fram field (short_count (get_or field 4 0)))
    (cond (eqb (length field) 6) (peek_range_of room first fram field (word16_at field 4)) refused)

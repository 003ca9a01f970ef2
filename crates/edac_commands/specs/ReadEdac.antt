-- READ EDAC 0x09 (01, "Commands"; ICD 11.13). Assumes nothing.
use Rattle.std.specs.Prelude.{ℕ, ◌+◌, cond, List, ◌++◌, eqb, ltb, length, take, get_or}
use Rattle.memory.specs.Bytes.{stretch}
use Rattle.memory.specs.Edac.{inside_edac}
use Rattle.carrying.specs.Ending.{Ending, done, refused}
use Rattle.field.specs.Fields.{word16_at, short_count}

-- A count of 0 is refused, a reply that has no room, and a range that leaves EDAC memory.
unfoldable pub read_edac_range_of : ℕ → List ℕ → List ℕ → ℕ → Ending (Unit {0})
read_edac_range_of room edac field count =
    cond (eqb count 0) refused
    (cond (ltb room (2 + count)) refused
    (cond (inside_edac (word16_at field 0) count) (done (take 2 field ++ stretch (word16_at field 0) count edac) tt) refused))

-- Address (2 bytes), count of one byte (0 is 256) or two: told apart by the exact length.
unfoldable pub read_edac_of : ℕ → List ℕ → List ℕ → Ending (Unit {0})
read_edac_of room edac field =
    cond (eqb (length field) 3) (read_edac_range_of room edac field (short_count (get_or field 2 0)))
    (cond (eqb (length field) 4) (read_edac_range_of room edac field (word16_at field 2)) refused)

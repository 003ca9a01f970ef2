-- WRITE EDAC 0x0A (01, "Commands"; 02, T-02; ICD 11.14). Assumes nothing.
use Rattle.std.specs.Prelude.{ℕ, ◌-◌, cond, List, ◌++◌, ltb, length, take, drop}
use Rattle.memory.specs.Bytes.{stretch}
use Rattle.read_only.specs.ReadOnly.{written}
use Rattle.memory.specs.Edac.{inside_edac}
use Rattle.carrying.specs.Ending.{Ending, done, refused}
use Rattle.field.specs.Fields.{word16_at}

-- The bytes are stored where they are writable, and the reply is the address and what memory then holds there.
abbrev pub written_edac : List ℕ → List ℕ → Ending (List ℕ)
written_edac edac field =
    let at = word16_at field 0 in
    let after = written edac at (drop 2 field) in
    done (take 2 field ++ stretch at (length field - 2) after) after

-- Address and at least one byte, in a range of EDAC memory, no more than the reply has room for.
unfoldable pub write_edac_of : ℕ → List ℕ → List ℕ → Ending (List ℕ)
write_edac_of room edac field =
    cond (ltb (length field) 3) refused
    (cond (ltb room (length field)) refused
    (cond (inside_edac (word16_at field 0) (length field - 2)) (written_edac edac field) refused))

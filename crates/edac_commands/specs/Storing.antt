-- What READ EDAC and GATHER show after a WRITE EDAC (01, "Commands"; 02, T-02; ICD 11.13 to 11.15). Assumes nothing.
use Rattle.std.specs.Prelude.{ℕ, List, [], ◌++◌, take, drop}
use Rattle.memory.specs.Bytes.{stretch}
use Rattle.read_only.specs.ReadOnly.{written_over}
use Rattle.field.specs.Fields.{word16_at}
use Rattle.field.specs.Reading.{Listed, ends, cut, item}

-- READ EDAC's address, and from that address, `from`, on the bytes that were written from `at` on, where they are writable, and elsewhere those
-- that stood there.
abbrev pub edac_after : ℕ → List ℕ → ℕ → List ℕ → List ℕ
edac_after at bytes from reply = take 2 reply ++ written_over at bytes from (drop 2 reply)

-- GATHER: of each range its address and count, and then the same.
abbrev pub ranges_after : ℕ → List ℕ → List ℕ → Listed → List ℕ
ranges_after at bytes edac ends = []
ranges_after at bytes edac cut = []
ranges_after at bytes edac (item range rest) =
    (range ++ written_over at bytes (word16_at range 0) (stretch (word16_at range 0) (word16_at range 2) edac)) ++ ranges_after at bytes edac rest

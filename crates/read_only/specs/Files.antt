-- Files of EDAC memory written: 01, "Commands", ICD 11.12; 02, T-02. Assumes nothing.
use Rattle.std.specs.Prelude.{ℕ, zero, suc, ◌+◌, Bool, ◌&&◌, ◌||◌, List, leb, ltb, eqb, take, drop}
use Rattle.memory.specs.Edac.{mode_place, byte_address}
use Rattle.read_only.specs.ReadOnly.{read_only, written}

-- EDAC memory after a file's body is written: of file 0 the mode byte, then bytes 0 to 3; of others four bytes.
unfoldable pub file_stored : List ℕ → ℕ → List ℕ → List ℕ
file_stored edac zero body = written (written edac mode_place (take 1 body)) 0 (drop 1 body)
file_stored edac (suc n) body = written edac (byte_address (suc n)) body

-- Whether a file is read-only, by its first byte: of a file address, 0 to 255, the four bytes stand alike (`a_file_stands_alike`), and
-- file 0's mode byte is writable as its four are (`file_0_is_stored`).
abbrev pub file_read_only : ℕ → Bool
file_read_only file = read_only (byte_address file)

-- Whether a byte is one of a file's.
abbrev pub of_file : ℕ → ℕ → Bool
of_file zero at = ltb at 4 || eqb at mode_place
of_file (suc n) at = leb (byte_address (suc n)) at && ltb at (byte_address (suc n) + 4)

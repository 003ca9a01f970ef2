-- EDAC memory, by byte and by file: 01, "Commands", ICD 11.11 and 11.12. Assumes nothing.
use Rattle.std.specs.Prelude.{ℕ, zero, suc, ◌+◌, ◌*◌, Bool, List, ◌∷◌, leb, get_or}
use Rattle.memory.specs.Bytes.{stretch}

abbrev pub edac_size : ℕ
edac_size = 1536

-- Where the mode byte of file 0 stands.
abbrev pub mode_place : ℕ
mode_place = 0x5C3

-- A file address counts words of four bytes, an EDAC address bytes.
abbrev pub byte_address : ℕ → ℕ
byte_address file = 4 * file

-- An EDAC range must end at or below 1,536.
abbrev pub inside_edac : ℕ → ℕ → Bool
inside_edac at count = leb (at + count) edac_size

-- A file's body: of file 0 the mode byte and four bytes, of others four bytes.
unfoldable pub body_size : ℕ → ℕ
body_size zero = 5
body_size (suc n) = 4

-- A reply shows the file address before the body.
abbrev pub shown_size : ℕ → ℕ
shown_size file = body_size file + 1

-- What a reply shows of a file: file 0 gives 0, the mode byte, then bytes 0 to 3; others give file address and four bytes.
unfoldable pub file_shown : List ℕ → ℕ → List ℕ
file_shown edac zero = 0 ∷ get_or edac mode_place 0 ∷ stretch 0 4 edac
file_shown edac (suc n) = suc n ∷ stretch (byte_address (suc n)) 4 edac

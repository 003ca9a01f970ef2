-- Values in a data field: little-endian (01, "Commands"; ICD 11.3). Assumes nothing.
use Rattle.std.specs.Prelude.{ℕ, ◌+◌, ◌*◌, ◌/◌, ◌%◌, cond, List, [], ◌∷◌, eqb, get_or}

abbrev pub word16_at : List ℕ → ℕ → ℕ
word16_at field at = get_or field at 0 + 256 * get_or field (at + 1) 0

abbrev pub word32_at : List ℕ → ℕ → ℕ
word32_at field at = word16_at field at + 65536 * word16_at field (at + 2)

abbrev pub bytes16 : ℕ → List ℕ
bytes16 n = n % 256 ∷ n / 256 % 256 ∷ []

abbrev pub bytes32 : ℕ → List ℕ
bytes32 n = n % 256 ∷ n / 256 % 256 ∷ n / 65536 % 256 ∷ n / 16777216 % 256 ∷ []

-- A one-byte count, of which 0 is 256.
abbrev pub short_count : ℕ → ℕ
short_count n = cond (eqb n 0) 256 n

-- The sum of a list of bytes: 01, "The message", and ICD 10.8. Assumes nothing.
use Rattle.std.specs.Prelude.{ℕ, zero, suc, ◌/◌, ◌%◌, cond, List, [], ◌∷◌, eqb}
use Rattle.std.specs.Int.Bits.{bit_xor}

-- The sum of no bytes.
abbrev pub start : ℕ
start = 0xFFFF

-- x^16 + x^12 + x^5 + 1 with the low bit first.
abbrev pub polynomial : ℕ
polynomial = 0x8408

-- A value where the digit is 1, else nothing.
abbrev pub gate : ℕ → ℕ → ℕ
gate value digit = cond (eqb digit 1) value 0

-- One bit: the sum moves down by one place, and a 1 that falls out brings the polynomial in.
unfoldable pub bit_step : ℕ → ℕ
bit_step sum = bit_xor (sum / 2) (gate polynomial (sum % 2))

unfoldable pub bit_steps : ℕ → ℕ → ℕ
bit_steps zero sum = sum
bit_steps (suc k) sum = bit_steps k (bit_step sum)

-- One byte, its low bit first.
unfoldable pub byte_step : ℕ → ℕ → ℕ
byte_step sum byte = bit_steps 8 (bit_xor sum byte)

-- The same byte as ICD 10.8's fragment of C takes it, one bit at a time: `left` bits of `ch`, the lowest first.
-- `byte_step_is_the_fragment` in proofs/ says that the two agree.
unfoldable pub fragment : ℕ → ℕ → ℕ → ℕ
fragment zero crc ch = crc
fragment (suc left) crc ch = fragment left (bit_xor (crc / 2) (gate polynomial (bit_xor ch crc % 2))) (ch / 2)

-- The sum that goes on from another over a list of bytes.
unfoldable pub sum_from : ℕ → List ℕ → ℕ
sum_from sum [] = sum
sum_from sum (byte ∷ bytes) = sum_from (byte_step sum byte) bytes

-- The sum of a list of bytes. No final inversion.
unfoldable pub sum_of : List ℕ → ℕ
sum_of bytes = sum_from start bytes

-- A sum carried over a gap of n zero bytes.
unfoldable pub carried : ℕ → ℕ → ℕ
carried zero sum = sum
carried (suc n) sum = carried n (byte_step sum 0)

-- The eight bit steps of `from`, `from` + 1, and so on: `count` entries.
unfoldable pub steps : ℕ → ℕ → List ℕ
steps zero from = []
steps (suc count) from = bit_steps 8 from ∷ steps count (suc from)

-- The table of byte steps: 256 entries, the one at i being i after eight bit steps.
unfoldable pub table_of : List ℕ
table_of = steps 256 0

-- Lists of words, by which a long list of bytes is summed: 02, T-12. They are a means only: no contract of crc names them,
-- and were one of them wrong, crc's proof would fail. Assumes nothing.
use Rattle.std.specs.Prelude.{ℕ, zero, suc, ◌+◌, ◌-◌, ◌*◌, ◌/◌, ◌%◌, List, [], ◌∷◌, ◌++◌, length, take, drop, get_or}
use Rattle.std.specs.Int.Bits.{bit_xor}

-- Neighbours, two by two, as one word each: digits of base `base`, the low one first. An odd last one is left out.
unfoldable pub pairs : ℕ → List ℕ → List ℕ
pairs base [] = []
pairs base (low ∷ []) = []
pairs base (low ∷ high ∷ rest) = (low + base * high) ∷ pairs base rest

-- Words of four bytes each, the low byte first. Bytes that fill no word are left out.
unfoldable pub words_of : List ℕ → List ℕ
words_of bytes = pairs 65536 (pairs 256 bytes)

-- The word of the four bytes from a place on.
abbrev pub word_at : List ℕ → ℕ → ℕ
word_at bytes at = get_or bytes at 0 + 256 * get_or bytes (at + 1) 0 + 65536 * (get_or bytes (at + 2) 0 + 256 * get_or bytes (at + 3) 0)

-- Each word, below `base` times `base`, as two digits of base `base`, the low one first.
unfoldable pub halves_of : ℕ → List ℕ → List ℕ
halves_of base [] = []
halves_of base (word ∷ words) = word % base ∷ word / base ∷ halves_of base words

-- A list with `word` put on its entry i by exclusive or. Where there is no entry i, nothing changes.
unfoldable pub put_on : ℕ → ℕ → List ℕ → List ℕ
put_on word i [] = []
put_on word zero (w ∷ words) = bit_xor w word ∷ words
put_on word (suc i) (w ∷ words) = w ∷ put_on word i words

-- A list with a word put on three of its entries: the word stood before the first, and x^16 = x^12 + x^5 + 1 puts it
-- 16 - 12, 16 - 5 and 16 places after its own.
unfoldable pub on_three : ℕ → List ℕ → List ℕ
on_three word words = put_on word 15 (put_on word 10 (put_on word 3 words))

-- A list without its first n words: one by one each, with what was put on it before, is put on three of those behind it.
unfoldable pub folded : ℕ → List ℕ → List ℕ
folded zero words = words
folded (suc n) [] = []
folded (suc n) (word ∷ words) = folded n (on_three word words)

-- Sixteen words that stand for `words`, sixteen too, and for n chunks of 64 bytes behind them.
unfoldable pub folded_through : ℕ → List ℕ → List ℕ → List ℕ
folded_through zero words bytes = words
folded_through (suc n) words bytes = folded_through n (folded 16 (words ++ words_of (take 64 bytes))) (drop 64 bytes)

-- Sixteen words that stand for whole chunks, of which there is at least one. The start value of the sum is put on the
-- first word.
unfoldable pub chunks_folded : ℕ → List ℕ → List ℕ
chunks_folded start bytes = folded_through (length bytes / 64 - 1) (put_on start 0 (words_of (take 64 bytes))) (drop 64 bytes)

-- Sixteen bytes that stand for sixteen words of four bytes: their halves folded to sixteen, and the halves of those folded
-- to sixteen again.
unfoldable pub narrowed : List ℕ → List ℕ
narrowed words = folded 16 (halves_of 256 (folded 16 (halves_of 65536 words)))

-- The low byte of each word. (Bytes stay as they are; the program's cast asks for it.)
unfoldable pub low_bytes : List ℕ → List ℕ
low_bytes [] = []
low_bytes (word ∷ words) = word % 256 ∷ low_bytes words

-- Sixteen bytes that stand for whole chunks: their sum from 0 is that of the chunks from `start`
-- (`sixteen_bytes_stand_for_all` in crates/crc/proofs/Chunks.antt).
unfoldable pub reduced : ℕ → List ℕ → List ℕ
reduced start bytes = low_bytes (narrowed (chunks_folded start bytes))

-- Small lists folded by computation, to be laid beside the definitions. Assumes nothing.
use mathlib.Core.Path.{◌≡◌, refl}
use mathlib.Core.List.{List, [], ◌∷◌}
use Prim.Native.Nat.{ℕ, zero, suc}
use Rattle.folding.specs.Folding.{pairs, words_of, halves_of, put_on, on_three, folded, folded_through, chunks_folded, narrowed, low_bytes, reduced}

-- n bytes that count up from one.
abbrev pub counting : ℕ → ℕ → List ℕ
counting zero byte = []
counting (suc n) byte = byte ∷ counting n (suc byte)

pub a_word : words_of (0x01 ∷ 0x02 ∷ 0x03 ∷ 0x04 ∷ []) ≡ 0x04030201 ∷ []
unfolding words_of pairs
a_word = refl

pub its_halves : halves_of 65536 (0x04030201 ∷ []) ≡ 0x0201 ∷ 0x0403 ∷ []
unfolding halves_of
its_halves = refl

-- One word is left out, and comes on the words 4, 11 and 16 places after it.
pub one_word_folded : folded 1 (0x80 ∷ counting 17 1) ≡ 1 ∷ 2 ∷ 3 ∷ 0x84 ∷ 5 ∷ 6 ∷ 7 ∷ 8 ∷ 9 ∷ 10 ∷ 0x8B ∷ 12 ∷ 13 ∷ 14 ∷ 15 ∷ 0x90 ∷ 17 ∷ []
unfolding folded on_three put_on
one_word_folded = refl

-- The sixteen bytes for 00 to 7F, from 0xFFFF; `the_same_sum` of crc has their sum.
pub two_chunks_reduced : reduced 0xFFFF (counting 128 0)
    ≡ 0x15 ∷ 0xA9 ∷ 0x99 ∷ 0xDD ∷ 0xA1 ∷ 0xE5 ∷ 0x3B ∷ 0x05 ∷ 0xC9 ∷ 0xC0 ∷ 0x79 ∷ 0x3F ∷ 0x1C ∷ 0x20 ∷ 0x2D ∷ 0xDC ∷ []
unfolding reduced narrowed chunks_folded folded_through folded on_three put_on words_of pairs halves_of low_bytes
two_chunks_reduced = refl

-- Whole chunks of bytes: the sixteen bytes that stand for them have their sum. Assumes nothing.
use mathlib.Core.Path.{◌≡◌, refl, sym, ap, ap₂, subst, ◌∙◌}
use mathlib.Core.List.{List, [], ◌∷◌, ◌++◌}
use Prim.Native.Nat.{ℕ, zero, suc, ◌+◌, ◌-◌, ◌*◌, ◌/◌, ◌%◌, ◌^◌, ◌≤◌, ◌<◌}
use native.Mathlib.Nat.{not-suc-le-zero, lt_of_lt_of_le, mod-eq_of_lt}
use native.Mathlib.Omega.{arith}
use lib.Bits.{bit_xor, xor_comm, xor_zero_l}
use lib.ListN.{length, take, drop, length-drop, length-append, take-append-drop}
use lib.Pow.{pow_mono}
use lib.Seq.{length-take-le}
use Rattle.folding.specs.Folding.{pairs, words_of, halves_of, put_on, folded, folded_through, chunks_folded, narrowed, low_bytes, reduced}
use Rattle.folding.proofs.Turns.{length_pairs, length_words_of, length_halves_of}
use Rattle.folding.proofs.Reducing.{length_on, length_folded}
use Rattle.crc.specs.Sum.{bit_steps, sum_from}
use Rattle.crc.proofs.Joining.{sum_from_append}
use Rattle.crc.proofs.Words.{sum_over, sum_over_append, bytes_are_words, Below, append_below, take_below, drop_below, on_below, halves_below, folded_below, pairs_below, halves_have_the_sum, pairs_have_the_sum, folded_has_the_sum, Folds, bytes_fold, halves_fold, words_fold}

-- Sixteen words of k bits, with a sum that goes on from 0.
pub record Sixteen (k : ℕ) (words : List ℕ) (sum : ℕ) : Type 0 where
  pub size : length words ≡ 16
  pub below : Below k words
  pub summed : sum_over k 0 words ≡ sum

-- ---- the first chunk

words_have_the_sum : (sum : ℕ) (chunk : List ℕ) → length chunk ≡ 64 → Below 8 chunk → sum_over 32 sum (words_of chunk) ≡ sum_from sum chunk
unfolding words_of
words_have_the_sum sum chunk size below =
    pairs_have_the_sum 16 16 sum (pairs 256 chunk) (length_pairs 256 chunk 32 size) (pairs_below 8 chunk below)
    ∙ pairs_have_the_sum 8 32 sum chunk size below
    ∙ sym (bytes_are_words sum chunk)

words_below : (chunk : List ℕ) → Below 8 chunk → Below 32 (words_of chunk)
unfolding words_of
words_below chunk below = pairs_below 16 (pairs 256 chunk) (pairs_below 8 chunk below)

-- a start value that is put on the first word
with_start : (k start : ℕ) (words : List ℕ) → 0 < length words → sum_over k 0 (put_on start 0 words) ≡ sum_over k start words
unfolding sum_over put_on
with_start k start [] some = absurd (not-suc-le-zero some)
with_start k start (word ∷ words) some =
    ap (λ (t : ℕ). sum_over k (bit_steps k t) words) (xor_zero_l (bit_xor word start) ∙ xor_comm word start)

the_first_chunk : (start : ℕ) (chunk : List ℕ) → length chunk ≡ 64 → Below 8 chunk → start < 2 ^ 16
    → Sixteen 32 (put_on start 0 (words_of chunk)) (sum_from start chunk)
the_first_chunk start chunk size below fits =
    let sixteen : length (words_of chunk) ≡ 16 = length_words_of chunk 16 size in
    record {
      size = length_on start 0 (words_of chunk) ∙ sixteen;
      below = on_below 32 start 0 (words_of chunk) (lt_of_lt_of_le fits (pow_mono {i = 16} {j = 32} (omega arith))) (words_below chunk below);
      summed = with_start 32 start (words_of chunk) (omega (arith, sixteen)) ∙ words_have_the_sum start chunk size below;
    }

-- ---- chunk after chunk

fold_sixteen : (k : ℕ) → Folds k → (words : List ℕ) → length words ≡ 32 → Below k words → Sixteen k (folded 16 words) (sum_over k 0 words)
fold_sixteen k holds words room below = record {
  size = length_folded 16 words ∙ ap (λ (n : ℕ). n - 16) room;
  below = folded_below k 16 words below;
  summed = folded_has_the_sum k holds 16 words below (omega (arith, room));
}

one_chunk_more : (sum : ℕ) (words chunk : List ℕ) → Sixteen 32 words sum → length chunk ≡ 64 → Below 8 chunk
    → Sixteen 32 (folded 16 (words ++ words_of chunk)) (sum_from sum chunk)
one_chunk_more sum words chunk held size below =
    let room : length (words ++ words_of chunk) ≡ 32 =
    omega (arith, length-append words (words_of chunk), held.size, length_words_of chunk 16 size) in
    let after = fold_sixteen 32 words_fold (words ++ words_of chunk) room (append_below 32 words (words_of chunk) held.below (words_below chunk below)) in
    record {
      size = after.size;
      below = after.below;
      summed =
          after.summed
          ∙ sum_over_append 32 0 words (words_of chunk)
          ∙ words_have_the_sum (sum_over 32 0 words) chunk size below
          ∙ ap (λ (s : ℕ). sum_from s chunk) held.summed;
    }

all_the_chunks : (n sum : ℕ) (words bytes : List ℕ) → Sixteen 32 words sum → length bytes ≡ n * 64 → Below 8 bytes
    → Sixteen 32 (folded_through n words bytes) (sum_from sum bytes)
unfolding folded_through sum_from
all_the_chunks zero sum words [] held size below = held
all_the_chunks zero sum words (byte ∷ bytes) held size below = absurd (omega (arith, size))
all_the_chunks (suc n) sum words bytes held size below =
    let chunk = take 64 bytes in
    let first = one_chunk_more sum words chunk held (length-take-le 64 bytes (omega (arith, size))) (take_below 8 64 bytes below) in
    let rest = drop 64 bytes in
    let left : length rest ≡ n * 64 = omega (arith, size, length-drop 64 bytes) in
    subst (Sixteen 32 (folded_through (suc n) words bytes))
    (sym (sum_from_append sum chunk rest) ∙ ap (sum_from sum) (take-append-drop 64 bytes))
    (all_the_chunks n (sum_from sum chunk) (folded 16 (words ++ words_of chunk)) rest first left
    (drop_below 8 64 bytes below))

-- ---- down to bytes

halved : (k : ℕ) → Folds k → (sum : ℕ) (words : List ℕ) → Sixteen (k + k) words sum → Sixteen k (folded 16 (halves_of (2 ^ k) words)) sum
halved k holds sum words held =
    let room : length (halves_of (2 ^ k) words) ≡ 32 = omega (arith, length_halves_of (2 ^ k) words, held.size) in
    let after = fold_sixteen k holds (halves_of (2 ^ k) words) room (halves_below k words held.below) in
    record { size = after.size; below = after.below; summed = after.summed ∙ halves_have_the_sum k 0 words ∙ held.summed }

down_to_bytes : (sum : ℕ) (words : List ℕ) → Sixteen 32 words sum → Sixteen 8 (narrowed words) sum
unfolding narrowed
down_to_bytes sum words held = halved 8 bytes_fold sum (folded 16 (halves_of 65536 words)) (halved 16 halves_fold sum words held)

-- a byte is its own low byte
bytes_are_low : (bytes : List ℕ) → Below 8 bytes → low_bytes bytes ≡ bytes
unfolding Below low_bytes
bytes_are_low [] h = refl
bytes_are_low (byte ∷ bytes) h = ap₂ (λ (b : ℕ) (l : List ℕ). b ∷ l) (mod-eq_of_lt h.0) (bytes_are_low bytes h.1)

-- From any start, whole chunks have the sum that the sixteen bytes which stand for them have from 0.
pub sixteen_bytes_stand_for_all : (start : ℕ) (bytes : List ℕ) → 64 ≤ length bytes → length bytes % 64 ≡ 0 → Below 8 bytes → start < 2 ^ 16
    → (length (reduced start bytes) ≡ 16) × (sum_from 0 (reduced start bytes) ≡ sum_from start bytes)
unfolding reduced chunks_folded
sixteen_bytes_stand_for_all start bytes enough whole below fits =
    let chunk = take 64 bytes in
    let rest = drop 64 bytes in
    let words = chunks_folded start bytes in
    let left : length rest ≡ (length bytes / 64 - 1) * 64 = omega (arith, length-drop 64 bytes) in
    let first = the_first_chunk start chunk (length-take-le 64 bytes enough) (take_below 8 64 bytes below) fits in
    let all =
    all_the_chunks (length bytes / 64 - 1) (sum_from start chunk) (put_on start 0 (words_of chunk)) rest first left
    (drop_below 8 64 bytes below) in
    let last = down_to_bytes (sum_from (sum_from start chunk) rest) words all in
    let same : low_bytes (narrowed words) ≡ narrowed words = bytes_are_low (narrowed words) last.below in (
      ap length same ∙ last.size,
      ap (sum_from 0) same
          ∙ bytes_are_words 0 (narrowed words)
          ∙ last.summed
          ∙ sym (sum_from_append start chunk rest)
          ∙ ap (sum_from start) (take-append-drop 64 bytes),
    )

-- ---- whole chunks, and what is left of the bytes

pub chunks_and_more : (start chunks sum : ℕ) (bytes whole rest standing : List ℕ) → 64 ≤ length bytes → Below 8 bytes → start < 2 ^ 16
    → whole ≡ take (length bytes / 64 * 64) bytes → rest ≡ drop (length bytes / 64 * 64) bytes
    → standing ≡ reduced start whole → chunks ≡ sum_from 0 standing → sum ≡ sum_from chunks rest → sum ≡ sum_from start bytes
chunks_and_more start chunks sum bytes whole rest standing enough below fits ew er e ec es =
    let n = length bytes / 64 * 64 in
    let size : length (take n bytes) ≡ n = length-take-le n bytes (omega arith) in
    let standing_for = sixteen_bytes_stand_for_all start (take n bytes) (omega (arith, size)) (omega (arith, size)) (take_below 8 n bytes below) fits in
    es
    ∙ ap (sum_from chunks) er
    ∙ ap (λ (s : ℕ). sum_from s (drop n bytes)) (ec ∙ ap (sum_from 0) (e ∙ ap (reduced start) ew) ∙ standing_for.1)
    ∙ sym (sum_from_append start (take n bytes) (drop n bytes))
    ∙ ap (sum_from start) (take-append-drop n bytes)

-- Whole chunks reduced, as the loop over them does it. Assumes nothing.
use mathlib.Core.Path.{◌≡◌, refl, sym, ap, ◌∙◌}
use mathlib.Core.List.{List, [], ◌∷◌, ◌++◌}
use Prim.Native.Nat.{ℕ, zero, suc, ◌-◌, ◌/◌, ◌%◌, ◌≤◌, ◌<◌}
use native.Mathlib.Nat.{sub-zero, zero-sub, suc-sub-suc}
use native.Mathlib.Omega.{arith}
use lib.Bits.{bit_xor}
use lib.ListN.{length, take, drop, set, get_or, length-append, length-drop}
use lib.Seq.{take_at, length-take-le, drop_at}
use Rattle.folding.specs.Folding.{words_of, halves_of, put_on, on_three, folded, folded_through, chunks_folded, narrowed, low_bytes, reduced}
use Rattle.folding.proofs.Turns.{length_words_of, put_turn}

-- ---- lengths

pub length_on : (word i : ℕ) (words : List ℕ) → length (put_on word i words) ≡ length words
unfolding put_on
length_on word i [] = refl
length_on word zero (w ∷ words) = refl
length_on word (suc i) (w ∷ words) = ap suc (length_on word i words)

pub length_three : (word : ℕ) (words : List ℕ) → length (on_three word words) ≡ length words
unfolding on_three
length_three word words =
    length_on word 15 (put_on word 10 (put_on word 3 words)) ∙ length_on word 10 (put_on word 3 words) ∙ length_on word 3 words

pub length_folded : (n : ℕ) (words : List ℕ) → length (folded n words) ≡ length words - n
unfolding folded
length_folded zero words = sym (sub-zero (length words))
length_folded (suc n) [] = sym (zero-sub (suc n))
length_folded (suc n) (word ∷ words) =
    length_folded n (on_three word words)
    ∙ ap (λ (m : ℕ). m - n) (length_three word words)
    ∙ sym (suc-sub-suc (length words) n)

-- ---- the loop over the chunks

-- the first chunk, with the start value on its first word
pub chunks_start : (start : ℕ) (bytes loaded left : List ℕ) → 64 ≤ length bytes → drop 16 loaded ≡ words_of (take 64 bytes) → left ≡ drop 64 bytes
    → (length (drop 16 (set loaded 16 (bit_xor (get_or loaded 16 0) start))) ≡ 16)
    × (folded_through (length left / 64) (drop 16 (set loaded 16 (bit_xor (get_or loaded 16 0) start))) left ≡ chunks_folded start bytes)
unfolding chunks_folded
chunks_start start bytes loaded left enough e el =
    let first = put_turn 16 loaded (words_of (take 64 bytes)) 16 0 start refl e in
    let count : length left / 64 ≡ length bytes / 64 - 1 = omega (arith, ap length el, length-drop 64 bytes) in (
      ap length first ∙ length_on start 0 (words_of (take 64 bytes)) ∙ length_words_of (take 64 bytes) 16 (length-take-le 64 bytes enough),
      rw (count, first, el) refl,
    )

pub chunks_turn : (chunk left words lowered loaded after : List ℕ) → length chunk ≡ 64 → length (drop 16 words) ≡ 16
    → lowered ≡ drop 16 words ++ drop 16 words → loaded ≡ take 16 lowered ++ words_of chunk → drop 16 after ≡ folded 16 loaded
    → (length (drop 16 after) ≡ 16)
    × (folded_through (length left / 64) (drop 16 after) left ≡ folded_through (length (chunk ++ left) / 64) (drop 16 words) (chunk ++ left))
unfolding folded_through
chunks_turn chunk left words lowered loaded after size half el ew ef =
    let both : loaded ≡ drop 16 words ++ words_of chunk =
    ew ∙ ap (λ l. l ++ words_of chunk) (ap (take 16) el ∙ take_at (drop 16 words) (drop 16 words) 16 half) in
    let count : length (chunk ++ left) / 64 ≡ suc (length left / 64) = omega (arith, length-append chunk left) in (
      omega (arith, ap length ef ∙ length_folded 16 loaded, ap length both ∙ length-append (drop 16 words) (words_of chunk), half, length_words_of chunk 16 size),
      ap (λ l. folded_through (length left / 64) l left)
          (ef ∙ ap (folded 16) (both ∙ ap (λ l. drop 16 words ++ words_of l) (sym (take_at chunk left 64 size))))
          ∙ ap (folded_through (length left / 64) (folded 16 (drop 16 words ++ words_of (take 64 (chunk ++ left))))) (sym (drop_at chunk left 64 size))
          ∙ sym (ap (λ (n : ℕ). folded_through n (drop 16 words) (chunk ++ left)) count),
    )

pub chunks_end : (start : ℕ) (bytes left words halves after parts last : List ℕ) → length left < 64 → length left % 64 ≡ 0
    → folded_through (length left / 64) (drop 16 words) left ≡ chunks_folded start bytes
    → halves ≡ halves_of 65536 (drop 16 words) → drop 16 after ≡ folded 16 halves
    → parts ≡ halves_of 256 (drop 16 after) → drop 16 last ≡ folded 16 parts
    → low_bytes (drop 16 last) ≡ reduced start bytes
unfolding folded_through narrowed reduced
chunks_end start bytes left words halves after parts last few whole e eh ea ep el =
    let none : length left / 64 ≡ 0 = omega arith in
    let there : drop 16 words ≡ chunks_folded start bytes =
    sym (ap (λ (n : ℕ). folded_through n (drop 16 words) left) none) ∙ e in
    ap low_bytes (el ∙ ap (folded 16) (ep ∙ ap (halves_of 256) (ea ∙ ap (folded 16) (eh ∙ ap (halves_of 65536) there))))

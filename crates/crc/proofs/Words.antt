-- Sums over words: a word may be given by its halves, and a word that is left out may be put on three others, if its width
-- is a power of 2. So what folding leaves of a list has the list's sum. Assumes nothing.
use mathlib.Core.Path.{◌≡◌, refl, sym, ap, ap₂, subst, ◌∙◌}
use mathlib.Core.List.{List, [], ◌∷◌, ◌++◌}
use Prim.Native.Nat.{ℕ, zero, suc, ◌+◌, ◌-◌, ◌*◌, ◌/◌, ◌%◌, ◌^◌, ◌≤◌, ◌<◌}
use native.Mathlib.Nat.{add-mul, mul-add, le-add_right, le-add_left, lt_of_lt_of_le, zero-mul, suc-mul, zero-lt-suc, add-zero, add-suc, add_comm, mul_comm, mod-lt}
use native.Mathlib.Omega.{arith}
use lib.Bits.{bit_xor, xor_lt, xor_zero_l, xor_comm, xor_shifted}
use lib.ListN.{length, take, drop, get_or}
use lib.Pow.{pow_pos, pow_mono, shl_lt, shr_lt}
use lib.Pow.{low as the_low, high as the_high}
use Rattle.folding.specs.Folding.{pairs, halves_of, put_on, on_three, folded}
use Rattle.folding.proofs.Reducing.{length_on, length_three}
use Rattle.crc.specs.Sum.{gate, bit_step, bit_steps, byte_step, sum_from, polynomial}
use Rattle.crc.proofs.Xor.{xor_assoc, xor_across, xor_meets}
use Rattle.crc.proofs.Linear.{bit_steps_linear}
use Rattle.crc.proofs.ByteSteps.{steps_add, half_steps}
use Rattle.crc.proofs.Halving.{agree, Linear, gate_below, half_below, steps_below}

-- The sum that goes on from another over words of k bits each.
unfoldable pub sum_over : ℕ → ℕ → List ℕ → ℕ
sum_over k sum [] = sum
sum_over k sum (word ∷ words) = sum_over k (bit_steps k (bit_xor sum word)) words

-- a byte is a word of 8 bits
pub bytes_are_words : (sum : ℕ) (bytes : List ℕ) → sum_from sum bytes ≡ sum_over 8 sum bytes
unfolding sum_from sum_over byte_step
bytes_are_words sum [] = refl
bytes_are_words sum (byte ∷ bytes) = bytes_are_words (byte_step sum byte) bytes

pub sum_over_append : (k sum : ℕ) (some more : List ℕ) → sum_over k sum (some ++ more) ≡ sum_over k (sum_over k sum some) more
unfolding sum_over
sum_over_append k sum [] more = refl
sum_over_append k sum (word ∷ some) more = sum_over_append k (bit_steps k (bit_xor sum word)) some more

-- ---- words by their halves

pub halves_have_the_sum : (k sum : ℕ) (words : List ℕ) → sum_over k sum (halves_of (2 ^ k) words) ≡ sum_over (k + k) sum words
unfolding sum_over halves_of
halves_have_the_sum k sum [] = refl
halves_have_the_sum k sum (word ∷ words) =
    ap (λ (s : ℕ). sum_over k s (halves_of (2 ^ k) words)) (sym (half_steps k sum word))
    ∙ halves_have_the_sum k (bit_steps (k + k) (bit_xor sum word)) words

-- ---- every word below a power of 2

unfoldable pub Below : ℕ → List ℕ → Type 0
Below k [] = Unit
Below k (word ∷ words) = (word < 2 ^ k) × Below k words

pub each_below : (k : ℕ) (words : List ℕ) → ((i : ℕ) → i < length words → get_or words i 0 < 2 ^ k) → Below k words
unfolding Below
each_below k [] h = tt
each_below k (word ∷ words) h = (h 0 (zero-lt-suc (length words)), each_below k words (λ i inside. h (suc i) (omega arith)))

pub append_below : (k : ℕ) (some more : List ℕ) → Below k some → Below k more → Below k (some ++ more)
unfolding Below
append_below k [] more h g = g
append_below k (word ∷ some) more h g = (h.0, append_below k some more h.1 g)

pub take_below : (k n : ℕ) (words : List ℕ) → Below k words → Below k (take n words)
unfolding Below
take_below k zero words h = tt
take_below k (suc n) [] h = tt
take_below k (suc n) (word ∷ words) h = (h.0, take_below k n words h.1)

pub drop_below : (k n : ℕ) (words : List ℕ) → Below k words → Below k (drop n words)
unfolding Below
drop_below k zero words h = h
drop_below k (suc n) [] h = tt
drop_below k (suc n) (word ∷ words) h = drop_below k n words h.1

pub halves_below : (k : ℕ) (words : List ℕ) → Below (k + k) words → Below k (halves_of (2 ^ k) words)
unfolding Below halves_of
halves_below k [] h = tt
halves_below k (word ∷ words) h = (mod-lt word (pow_pos k), (shr_lt k k h.0, halves_below k words h.1))

pub on_below : (k word i : ℕ) (words : List ℕ) → word < 2 ^ k → Below k words → Below k (put_on word i words)
unfolding Below put_on
on_below k word i [] below h = tt
on_below k word zero (w ∷ words) below h = (xor_lt k w word h.0 below, h.1)
on_below k word (suc i) (w ∷ words) below h = (h.0, on_below k word i words below h.1)

three_below : (k word : ℕ) (words : List ℕ) → word < 2 ^ k → Below k words → Below k (on_three word words)
unfolding on_three
three_below k word words below h =
    on_below k word 15 (put_on word 10 (put_on word 3 words)) below
    (on_below k word 10 (put_on word 3 words) below (on_below k word 3 words below h))

pub folded_below : (k n : ℕ) (words : List ℕ) → Below k words → Below k (folded n words)
unfolding folded Below
folded_below k zero words h = h
folded_below k (suc n) [] h = tt
folded_below k (suc n) (word ∷ words) h = folded_below k n (on_three word words) (three_below k word words h.0 h.1)

-- ---- a word put on another

-- what a sum starts from goes through as through zeros
sum_over_linear : (k a b : ℕ) (words : List ℕ) → sum_over k (bit_xor a b) words ≡ bit_xor (sum_over k a words) (bit_steps (length words * k) b)
unfolding sum_over bit_steps
sum_over_linear k a b [] = rw zero-mul
sum_over_linear k a b (word ∷ words) =
    ap (λ (s : ℕ). sum_over k s words)
    (ap (bit_steps k) (xor_assoc a b word ∙ ap (bit_xor a) (xor_comm b word) ∙ sym (xor_assoc a word b))
    ∙ bit_steps_linear k (bit_xor a word) b)
    ∙ sum_over_linear k (bit_steps k (bit_xor a word)) (bit_steps k b) words
    ∙ ap (bit_xor (sum_over k (bit_steps k (bit_xor a word)) words))
    (sym (steps_add k (length words * k) b)
    ∙ ap (λ (n : ℕ). bit_steps n b) (add_comm k (length words * k) ∙ sym (suc-mul (length words) k)))

-- a word put on place i, with n words behind that place
sum_over_on : (k sum word i n : ℕ) (words : List ℕ) → length words ≡ i + suc n
    → sum_over k sum (put_on word i words) ≡ bit_xor (sum_over k sum words) (bit_steps (suc n * k) word)
unfolding put_on sum_over
sum_over_on k sum word i n [] e = absurd (omega (arith, e))
sum_over_on k sum word zero n (w ∷ words) e =
    let left : length words ≡ n = omega (arith, e) in
    ap (λ (s : ℕ). sum_over k s words)
    (ap (bit_steps k) (sym (xor_assoc sum w word)) ∙ bit_steps_linear k (bit_xor sum w) word)
    ∙ sum_over_linear k (bit_steps k (bit_xor sum w)) (bit_steps k word) words
    ∙ ap (bit_xor (sum_over k (bit_steps k (bit_xor sum w)) words))
    (sym (steps_add k (length words * k) word)
    ∙ ap (λ (m : ℕ). bit_steps m word) (add_comm k (length words * k) ∙ sym (suc-mul (length words) k) ∙ ap (λ (m : ℕ). suc m * k) left))
sum_over_on k sum word (suc i) n (w ∷ words) e = sum_over_on k (bit_steps k (bit_xor sum w)) word i n words (omega (arith, e))

-- ---- a word left out, and put on three others

-- What the polynomial says of words of k bits, k being a power of 2: any sum moved on by sixteen words is that sum moved on
-- by twelve, by five and by none, joined by exclusive or.
abbrev pub Folds : ℕ → Type 0
Folds k = (sum : ℕ) → sum < 2 ^ 16 → bit_steps (16 * k) sum ≡ bit_xor (bit_xor (bit_steps (12 * k) sum) (bit_steps (5 * k) sum)) sum

-- It says so of single bits. Both sides are linear, so that it is tested at 0 and at sixteen digits.
here : ℕ → ℕ
here sum = bit_xor (bit_xor (bit_steps 12 sum) (bit_steps 5 sum)) sum

here_linear : Linear here
unfolding here
here_linear a b =
    ap (λ (x : ℕ). bit_xor x (bit_xor a b))
    (ap₂ bit_xor (bit_steps_linear 12 a b) (bit_steps_linear 5 a b) ∙ xor_across (bit_steps 12 a) (bit_steps 12 b) (bit_steps 5 a) (bit_steps 5 b))
    ∙ xor_across (bit_xor (bit_steps 12 a) (bit_steps 5 a)) (bit_xor (bit_steps 12 b) (bit_steps 5 b)) a b

bits_fold : Folds 1
unfolding here bit_steps bit_step
bits_fold = agree (bit_steps 16) here (bit_steps_linear 16) here_linear 16 tt

-- And so of words of twice as many bits: what is mixed comes twice, and falls out.
steps_twice : (n k a : ℕ) → bit_steps (n * (k + k)) a ≡ bit_steps (n * k) (bit_steps (n * k) a)
steps_twice n k a = ap (λ (t : ℕ). bit_steps t a) (mul-add n k k) ∙ steps_add (n * k) (n * k) a

steps_either_way : (m n a : ℕ) → bit_steps m (bit_steps n a) ≡ bit_steps n (bit_steps m a)
steps_either_way m n a = sym (steps_add n m a) ∙ ap (λ (t : ℕ). bit_steps t a) (add_comm n m) ∙ steps_add m n a

doubled : (k : ℕ) → Folds k → Folds (k + k)
doubled k holds sum below =
    let on : ℕ → ℕ → ℕ = λ n. bit_steps (n * k) in
    let a = on 12 sum in
    let b = on 5 sum in
    steps_twice 16 k sum
    ∙ ap (on 16) (holds sum below)
    ∙ bit_steps_linear (16 * k) (bit_xor a b) sum
    ∙ ap₂ bit_xor
    (bit_steps_linear (16 * k) a b
    ∙ ap₂ bit_xor
    (holds a (steps_below (12 * k) sum below) ∙ ap (λ (t : ℕ). bit_xor (bit_xor (on 12 a) t) a) (steps_either_way (5 * k) (12 * k) sum))
    (holds b (steps_below (5 * k) sum below))
    ∙ xor_across (bit_xor (on 12 a) (on 12 b)) a (bit_xor (on 12 b) (on 5 b)) b)
    (holds sum below)
    ∙ xor_meets (bit_xor (bit_xor (on 12 a) (on 12 b)) (bit_xor (on 12 b) (on 5 b))) (bit_xor a b) sum
    ∙ ap (λ (t : ℕ). bit_xor t sum) (xor_meets (on 12 a) (on 12 b) (on 5 b) ∙ ap₂ bit_xor (sym (steps_twice 12 k sum)) (sym (steps_twice 5 k sum)))

pub bytes_fold : Folds 8
bytes_fold = doubled 4 (doubled 2 (doubled 1 bits_fold))

pub halves_fold : Folds 16
halves_fold = doubled 8 bytes_fold

pub words_fold : Folds 32
words_fold = doubled 16 halves_fold

-- a word is a sum of 16 bits once it has gone through
through_below : (k word : ℕ) → word < 2 ^ (16 + k) → bit_steps k word < 2 ^ 16
unfolding bit_steps bit_step
through_below zero word h = h
through_below (suc k) word h =
    let more : word < 2 ^ suc (16 + k) = rw add-suc at h in
    through_below k (bit_step word)
    (xor_lt (16 + k) (word / 2) (gate polynomial (word % 2)) (half_below (16 + k) more) (lt_of_lt_of_le (gate_below word) (pow_mono (le-add_right 16 k))))

module _ (k : ℕ) (holds : Folds k) where
  -- the steps from a word that has n + m words behind it
  behind : (n m word : ℕ) → bit_steps (suc (n + m) * k) word ≡ bit_steps (n * k) (bit_steps (m * k) (bit_steps k word))
  behind n m word =
      ap (λ (t : ℕ). bit_steps t word) (suc-mul (n + m) k ∙ add_comm ((n + m) * k) k ∙ ap (λ (t : ℕ). k + t) (add-mul n m k ∙ add_comm (n * k) (m * k)))
      ∙ steps_add k (m * k + n * k) word
      ∙ steps_add (m * k) (n * k) (bit_steps k word)

  one_left_out : (word : ℕ) (words : List ℕ) → word < 2 ^ k → 16 ≤ length words → sum_over k 0 (on_three word words) ≡ sum_over k 0 (word ∷ words)
  unfolding on_three sum_over bit_steps
  one_left_out word words below enough =
      let n = length words - 16 in
      let sum = sum_over k 0 words in
      let gone = bit_steps k word in
      let size : length words ≡ 16 + n = omega arith in
      let size1 : length (put_on word 3 words) ≡ length words = length_on word 3 words in
      let size2 : length (put_on word 10 (put_on word 3 words)) ≡ length words = length_on word 10 (put_on word 3 words) ∙ size1 in
      let short : gone < 2 ^ 16 = through_below k word (lt_of_lt_of_le below (pow_mono (le-add_left k 16))) in
      sum_over_on k 0 word 15 n (put_on word 10 (put_on word 3 words)) (omega (arith, size, size2))
      ∙ ap₂ bit_xor
      (sum_over_on k 0 word 10 (n + 5) (put_on word 3 words) (omega (arith, size, size1))
      ∙ ap₂ bit_xor
      (sum_over_on k 0 word 3 (n + 12) words (omega (arith, size)) ∙ ap (bit_xor sum) (behind n 12 word))
      (behind n 5 word))
      (ap (λ (t : ℕ). bit_steps (suc t * k) word) (sym (add-zero n)) ∙ behind n 0 word ∙ ap (bit_steps (n * k)) (ap (λ (t : ℕ). bit_steps t gone) (zero-mul k)))
      ∙ ap (λ (t : ℕ). bit_xor t (bit_steps (n * k) gone)) (xor_assoc sum (bit_steps (n * k) (bit_steps (12 * k) gone)) (bit_steps (n * k) (bit_steps (5 * k) gone)))
      ∙ xor_assoc sum (bit_xor (bit_steps (n * k) (bit_steps (12 * k) gone)) (bit_steps (n * k) (bit_steps (5 * k) gone))) (bit_steps (n * k) gone)
      ∙ ap (bit_xor sum)
      (ap (λ (t : ℕ). bit_xor t (bit_steps (n * k) gone)) (sym (bit_steps_linear (n * k) (bit_steps (12 * k) gone) (bit_steps (5 * k) gone)))
      ∙ sym (bit_steps_linear (n * k) (bit_xor (bit_steps (12 * k) gone) (bit_steps (5 * k) gone)) gone)
      ∙ ap (bit_steps (n * k)) (sym (holds gone short))
      ∙ sym (steps_add (16 * k) (n * k) gone)
      ∙ ap (λ (t : ℕ). bit_steps t gone) (sym (add-mul 16 n k) ∙ ap (λ (t : ℕ). t * k) (sym size)))
      ∙ sym (sum_over_linear k 0 gone words)
      ∙ ap (λ (t : ℕ). sum_over k t words) (xor_zero_l gone ∙ ap (bit_steps k) (sym (xor_zero_l word)))

  -- what folding leaves has the list's sum, from 0
  pub folded_has_the_sum : (n : ℕ) (words : List ℕ) → Below k words → n + 16 ≤ length words → sum_over k 0 (folded n words) ≡ sum_over k 0 words
  unfolding folded Below
  folded_has_the_sum zero words h enough = refl
  folded_has_the_sum (suc n) [] h enough = absurd (omega (arith, enough))
  folded_has_the_sum (suc n) (word ∷ words) h enough =
      folded_has_the_sum n (on_three word words) (three_below k word words h.0 h.1) (rw length_three (omega (arith, enough)))
      ∙ one_left_out word words h.0 (omega (arith, enough))

-- ---- the words of a list of bytes

paired : (k n : ℕ) (digits : List ℕ) → length digits ≡ n * 2 → Below k digits → halves_of (2 ^ k) (pairs (2 ^ k) digits) ≡ digits
unfolding halves_of pairs Below
paired k n [] e h = refl
paired k n (low ∷ []) e h = absurd (omega (arith, e))
paired k zero (low ∷ high ∷ rest) e h = absurd (omega (arith, e))
paired k (suc n) (low ∷ high ∷ rest) e h =
    let order : low + 2 ^ k * high ≡ high * 2 ^ k + low = add_comm low (2 ^ k * high) ∙ ap (λ (t : ℕ). t + low) (mul_comm (2 ^ k) high) in
    ap₂ (λ (a : ℕ) (l : List ℕ). a ∷ l) (ap (λ (t : ℕ). t % 2 ^ k) order ∙ the_low high k h.0)
    (ap₂ (λ (a : ℕ) (l : List ℕ). a ∷ l) (ap (λ (t : ℕ). t / 2 ^ k) order ∙ the_high high k h.0) (paired k n rest (omega (arith, e)) h.1.1))

pub pairs_have_the_sum : (k n sum : ℕ) (digits : List ℕ) → length digits ≡ n * 2 → Below k digits → sum_over (k + k) sum (pairs (2 ^ k) digits) ≡ sum_over k sum digits
pairs_have_the_sum k n sum digits e h = sym (halves_have_the_sum k sum (pairs (2 ^ k) digits)) ∙ ap (sum_over k sum) (paired k n digits e h)

pub pairs_below : (k : ℕ) (digits : List ℕ) → Below k digits → Below (k + k) (pairs (2 ^ k) digits)
unfolding pairs Below
pairs_below k [] h = tt
pairs_below k (low ∷ []) h = tt
pairs_below k (low ∷ high ∷ rest) h =
    let word : bit_xor (high * 2 ^ k) low ≡ low + 2 ^ k * high =
    xor_shifted high k low h.0 ∙ add_comm (high * 2 ^ k) low ∙ ap (λ (t : ℕ). low + t) (mul_comm high (2 ^ k)) in (
      subst (λ (t : ℕ). t < 2 ^ (k + k)) word
          (xor_lt (k + k) (high * 2 ^ k) low (shl_lt k k h.1.0) (lt_of_lt_of_le h.0 (pow_mono (le-add_right k k)))),
      pairs_below k rest h.1.1,
    )

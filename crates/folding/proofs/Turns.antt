-- One turn and the end of each loop, as the loops' invariants want them. Assumes nothing.
use mathlib.Core.Path.{◌≡◌, refl, sym, ap, ◌∙◌}
use mathlib.Core.List.{List, [], ◌∷◌, ◌++◌, append-nil}
use Prim.Native.Nat.{ℕ, zero, suc, ◌+◌, ◌*◌, ◌-◌, ◌/◌, ◌%◌, ◌≤◌, ◌<◌}
use native.Mathlib.Nat.{le_antisymm, le_of_suc-le-suc, not-suc-le-zero, add-zero, zero-add, add_comm, add-sub_of_le}
use native.Mathlib.Numerals.{add-one}
use native.Mathlib.Omega.{arith}
use lib.Bits.{bit_xor}
use lib.ListN.{length, take, drop, set, get_or, length-drop, drop_of_length-le}
use lib.Seq.{paste, paste-suc, take_all, drop-paste, get_or-drop, drop-drop, drop-set-add}
use Rattle.folding.specs.Folding.{pairs, words_of, word_at, halves_of, put_on, on_three, folded, low_bytes}

-- ---- a copy of s into d, whose first i entries are in place

-- A value is stored at the next place.
copy_turn : (d : List ℕ) (at : ℕ) (s : List ℕ) (i : ℕ) (l : List ℕ) (j v : ℕ) → at + length s ≤ length d → i < length s
    → l ≡ paste d at s i → j ≡ at + i → v ≡ get_or s i 0 → set l j v ≡ paste d at s (i + 1)
copy_turn d at s i l j v fits h el ej ev =
    ap (λ x. set x j v) el
    ∙ ap (λ k. set (paste d at s i) k v) ej
    ∙ ap (set (paste d at s i) (at + i)) ev
    ∙ paste-suc d at s i 0 (omega arith) h
    ∙ ap (paste d at s) (sym (add-one i))

-- An entry behind what is copied is the old one.
copy_behind : (d : List ℕ) (at : ℕ) (s : List ℕ) (i : ℕ) (l : List ℕ) (j : ℕ) → at + length s ≤ length d → i ≤ length s → at + i ≤ j
    → l ≡ paste d at s i → get_or l j 0 ≡ get_or d j 0
copy_behind d at s i l j fits h k e =
    let far : at + i + (j - (at + i)) ≡ j = add-sub_of_le k in
    ap (λ x. get_or x j 0) e
    ∙ ap (λ x. get_or (paste d at s i) x 0) (sym far)
    ∙ sym (get_or-drop (at + i) (paste d at s i) (j - (at + i)) 0)
    ∙ ap (λ x. get_or x (j - (at + i)) 0) (drop-paste d at s i (omega arith) h)
    ∙ get_or-drop (at + i) d (j - (at + i)) 0
    ∙ ap (λ x. get_or d x 0) far

pub copy_end : (d : List ℕ) (at : ℕ) (s : List ℕ) (n i : ℕ) (l : List ℕ) → length s ≡ n → i ≤ n → n ≤ i
    → l ≡ paste d at s i → l ≡ take at d ++ s ++ drop (at + n) d
copy_end d at s n i l size h k e =
    e
    ∙ ap (paste d at s) (le_antisymm h k)
    ∙ ap (λ x. take at d ++ x ++ drop (at + n) d) (take_all n s (omega arith))

-- The same where s reaches to the end of d.
pub copy_all : (d : List ℕ) (at : ℕ) (s : List ℕ) (n i : ℕ) (l : List ℕ) → length s ≡ n → length d ≡ at + n → i ≤ n → n ≤ i
    → l ≡ paste d at s i → l ≡ take at d ++ s
copy_all d at s n i l size fits h k e =
    copy_end d at s n i l size h k e
    ∙ ap (λ x. take at d ++ s ++ x) (drop_of_length-le d {i = at + n} (omega arith))
    ∙ append-nil (take at d ++ s)

-- ---- the words of a chunk

pub length_pairs : (base : ℕ) (l : List ℕ) (n : ℕ) → length l ≡ n * 2 → length (pairs base l) ≡ n
unfolding pairs
length_pairs base [] n h = omega arith
length_pairs base (low ∷ []) n h = omega arith
length_pairs base (low ∷ high ∷ rest) zero h = omega arith
length_pairs base (low ∷ high ∷ rest) (suc n) h = ap suc (length_pairs base rest n (omega arith))

get_d_pairs : (base : ℕ) (l : List ℕ) (i : ℕ) → i * 2 + 1 < length l
    → get_or (pairs base l) i 0 ≡ get_or l (i * 2) 0 + base * get_or l (i * 2 + 1) 0
unfolding pairs
get_d_pairs base [] i h = absurd (not-suc-le-zero h)
get_d_pairs base (low ∷ []) i h = absurd (omega arith)
get_d_pairs base (low ∷ high ∷ rest) zero h = refl
get_d_pairs base (low ∷ high ∷ rest) (suc i) h =
    let even : suc (suc (i * 2)) ≡ suc i * 2 = omega arith in
    let odd : suc (suc (i * 2 + 1)) ≡ suc i * 2 + 1 = omega arith in
    get_d_pairs base rest i (omega arith)
    ∙ ap (λ k. get_or (low ∷ high ∷ rest) k 0 + base * get_or rest (i * 2 + 1) 0) even
    ∙ ap (λ k. get_or (low ∷ high ∷ rest) (suc i * 2) 0 + base * get_or (low ∷ high ∷ rest) k 0) odd

-- The same, by the places of the two.
pair_at : (base : ℕ) (l : List ℕ) (i low high : ℕ) → low ≡ i * 2 → high ≡ i * 2 + 1 → high < length l
    → get_or (pairs base l) i 0 ≡ get_or l low 0 + base * get_or l high 0
pair_at base l i low high el eh h = rw (el, eh) (get_d_pairs base l i (omega arith))

pub length_words_of : (bytes : List ℕ) (n : ℕ) → length bytes ≡ n * 4 → length (words_of bytes) ≡ n
unfolding words_of
length_words_of bytes n h = length_pairs 65536 (pairs 256 bytes) n (length_pairs 256 bytes (n * 2) (omega arith))

get_d_words_of : (bytes : List ℕ) (n i : ℕ) → length bytes ≡ n * 4 → i < n
    → get_or (words_of bytes) i 0 ≡ word_at bytes (i * 4)
unfolding words_of
get_d_words_of bytes n i size h =
    let two : length (pairs 256 bytes) ≡ n * 2 = length_pairs 256 bytes (n * 2) (omega arith) in
    let low : get_or (pairs 256 bytes) (i * 2) 0 ≡ get_or bytes (i * 4) 0 + 256 * get_or bytes (i * 4 + 1) 0 =
    pair_at 256 bytes (i * 2) (i * 4) (i * 4 + 1) (omega arith) (omega arith) (omega arith) in
    let high : get_or (pairs 256 bytes) (i * 2 + 1) 0 ≡ get_or bytes (i * 4 + 2) 0 + 256 * get_or bytes (i * 4 + 3) 0 =
    pair_at 256 bytes (i * 2 + 1) (i * 4 + 2) (i * 4 + 3) (omega arith) (omega arith) (omega arith) in
    get_d_pairs 65536 (pairs 256 bytes) i (omega arith)
    ∙ ap (λ x. x + 65536 * get_or (pairs 256 bytes) (i * 2 + 1) 0) low
    ∙ ap (λ x. (get_or bytes (i * 4) 0 + 256 * get_or bytes (i * 4 + 1) 0) + 65536 * x) high

-- ---- words that are split

pub length_halves_of : (base : ℕ) (l : List ℕ) → length (halves_of base l) ≡ length l * 2
unfolding halves_of
length_halves_of base [] = refl
length_halves_of base (word ∷ words) = let rest : length (halves_of base words) ≡ length words * 2 = length_halves_of base words in omega arith

get_d_halves_of : (base : ℕ) (l : List ℕ) (i : ℕ) → i < length l
    → (get_or (halves_of base l) (i * 2) 0 ≡ get_or l i 0 % base) × (get_or (halves_of base l) (i * 2 + 1) 0 ≡ get_or l i 0 / base)
unfolding halves_of
get_d_halves_of base [] i h = absurd (not-suc-le-zero h)
get_d_halves_of base (word ∷ words) zero h = (refl, refl)
get_d_halves_of base (word ∷ words) (suc i) h =
    let rest = get_d_halves_of base words i (le_of_suc-le-suc h) in
    let even : suc i * 2 ≡ suc (suc (i * 2)) = omega arith in
    let odd : suc i * 2 + 1 ≡ suc (suc (i * 2 + 1)) = omega arith in (
      ap (λ k. get_or (halves_of base (word ∷ words)) k 0) even ∙ rest.0,
      ap (λ k. get_or (halves_of base (word ∷ words)) k 0) odd ∙ rest.1,
    )

-- ---- the loops that copy, over an array of two halves

pub length_upper : (d : List ℕ) (half : ℕ) → length d ≡ half + half → length (drop half d) ≡ half
length_upper d half size = omega (arith, length-drop half d)

-- Where the copy starts at 0 and is not there yet, an entry of the upper half is the old one.
copy_upper : (d : List ℕ) (s : List ℕ) (i : ℕ) (l : List ℕ) (half j : ℕ) → length s ≤ length d → i ≤ length s → i ≤ j + half
    → l ≡ paste d 0 s i → get_or l (j + half) 0 ≡ get_or (drop half d) j 0
copy_upper d s i l half j fits h k e =
    copy_behind d 0 s i l (j + half) (omega arith) h (omega arith) e
    ∙ ap (λ x. get_or d x 0) (add_comm j half)
    ∙ sym (get_or-drop half d j 0)

pub lower_turn : (d : List ℕ) (half i : ℕ) (l : List ℕ) → length d ≡ half + half → i < half
    → l ≡ paste d 0 (drop half d) i → set l i (get_or l (i + half) 0) ≡ paste d 0 (drop half d) (i + 1)
lower_turn d half i l size h e =
    let up : length (drop half d) ≡ half = length_upper d half size in
    copy_turn d 0 (drop half d) i l i (get_or l (i + half) 0) (omega arith) (omega arith) e (sym (zero-add i))
    (copy_upper d (drop half d) i l half i (omega arith) (omega arith) (omega arith) e)

pub load_turn : (d bytes : List ℕ) (half i : ℕ) (l : List ℕ) (word : ℕ) → length d ≡ half + half → length bytes ≡ half * 4 → i < half
    → word ≡ word_at bytes (i * 4)
    → l ≡ paste d half (words_of bytes) i → set l (i + half) word ≡ paste d half (words_of bytes) (i + 1)
load_turn d bytes half i l word size four h ew e =
    let words : length (words_of bytes) ≡ half = length_words_of bytes half four in
    copy_turn d half (words_of bytes) i l (i + half) word (omega arith) (omega arith) e (add_comm i half) (ew ∙ sym (get_d_words_of bytes half i four h))

pub halve_turn : (d : List ℕ) (base half i : ℕ) (l : List ℕ) → length d ≡ half + half → i < half
    → l ≡ paste d 0 (halves_of base (drop half d)) (i * 2)
    → set (set l (i * 2) (get_or l (i + half) 0 % base)) (i * 2 + 1) (get_or l (i + half) 0 / base)
    ≡ paste d 0 (halves_of base (drop half d)) ((i + 1) * 2)
halve_turn d base half i l size h e =
    let s : List ℕ = halves_of base (drop half d) in
    let up : length (drop half d) ≡ half = length_upper d half size in
    let all : length s ≡ length (drop half d) * 2 = length_halves_of base (drop half d) in
    let digits = get_d_halves_of base (drop half d) i (omega arith) in
    let split : get_or l (i + half) 0 ≡ get_or (drop half d) i 0 = copy_upper d s (i * 2) l half i (omega arith) (omega arith) (omega arith) e in
    let next : i * 2 + 1 + 1 ≡ (i + 1) * 2 = omega arith in
    copy_turn d 0 s (i * 2 + 1) _ (i * 2 + 1) _ (omega arith) (omega arith)
    (copy_turn d 0 s (i * 2) l (i * 2) _ (omega arith) (omega arith) e (sym (zero-add (i * 2))) (ap (λ x. x % base) split ∙ sym digits.0))
    (sym (zero-add (i * 2 + 1)))
    (ap (λ x. x / base) split ∙ sym digits.1)
    ∙ ap (paste d 0 s) next

pub halve_end : (d : List ℕ) (base half i : ℕ) (l : List ℕ) → length d ≡ half + half → i ≤ half → half ≤ i
    → l ≡ paste d 0 (halves_of base (drop half d)) (i * 2) → l ≡ halves_of base (drop half d)
halve_end d base half i l size h k e =
    copy_all d 0 (halves_of base (drop half d)) (half * 2) (i * 2) l
    (length_halves_of base (drop half d) ∙ ap (λ n. n * 2) (length_upper d half size)) (omega arith) (omega arith) (omega arith) e

pub length_low_bytes : (l : List ℕ) → length (low_bytes l) ≡ length l
unfolding low_bytes
length_low_bytes [] = refl
length_low_bytes (word ∷ words) = ap suc (length_low_bytes words)

get_d_low_bytes : (l : List ℕ) (i : ℕ) → get_or (low_bytes l) i 0 ≡ get_or l i 0 % 256
unfolding low_bytes
get_d_low_bytes [] i = refl
get_d_low_bytes (word ∷ words) zero = refl
get_d_low_bytes (word ∷ words) (suc i) = get_d_low_bytes words i

pub low_turn : (d words : List ℕ) (half i : ℕ) (l : List ℕ) → length d ≡ half → length words ≡ half + half → i < half
    → l ≡ paste d 0 (low_bytes (drop half words)) i → set l i (get_or words (i + half) 0 % 256) ≡ paste d 0 (low_bytes (drop half words)) (i + 1)
low_turn d words half i l room size h e =
    let s : List ℕ = low_bytes (drop half words) in
    let all : length s ≡ half = length_low_bytes (drop half words) ∙ length_upper words half size in
    copy_turn d 0 s i l i _ (omega arith) (omega arith) e (sym (zero-add i))
    (ap (λ x. x % 256) (ap (λ x. get_or words x 0) (add_comm i half) ∙ sym (get_or-drop half words i 0)) ∙ sym (get_d_low_bytes (drop half words) i))

-- ---- a fold, at any length: past the end a store does nothing, and there is nothing to put a word on

-- A list with a word put on its entry `at` by a store.
abbrev put : ℕ → List ℕ → ℕ → List ℕ
put word l at = set l at (bit_xor (get_or l at 0) word)

put_is_put_on : (word i : ℕ) (l : List ℕ) → put word l i ≡ put_on word i l
unfolding put_on
put_is_put_on word i [] = refl
put_is_put_on word zero (w ∷ words) = refl
put_is_put_on word (suc i) (w ∷ words) = ap (λ r. w ∷ r) (put_is_put_on word i words)

-- Of what is left behind n, a store at n + j changes entry j.
pub put_turn : (n : ℕ) (l rest : List ℕ) (at j word : ℕ) → at ≡ n + j → drop n l ≡ rest → drop n (put word l at) ≡ put_on word j rest
put_turn n l rest at j word ea er =
    ap (λ k. drop n (put word l k)) ea
    ∙ drop-set-add n l j (bit_xor (get_or l (n + j) 0) word)
    ∙ ap (λ x. set (drop n l) j (bit_xor x word)) (sym (get_or-drop n l j 0))
    ∙ ap (λ r. put word r j) er
    ∙ put_is_put_on word j rest

folded_nil : (n : ℕ) → folded n [] ≡ []
unfolding folded
folded_nil zero = refl
folded_nil (suc n) = refl

fold_first : (n : ℕ) (l : List ℕ) → folded (suc n) l ≡ folded n (on_three (get_or l 0 0) (drop 1 l))
unfolding folded on_three put_on
fold_first n [] = sym (folded_nil n)
fold_first n (word ∷ words) = refl

pub fold_turn : (n i : ℕ) (l : List ℕ) → i < n
    → folded (n - (i + 1)) (drop (i + 1) (put (get_or l i 0) (put (get_or l i 0) (put (get_or l i 0) l (i + 4)) (i + 11)) (i + 16)))
    ≡ folded (n - i) (drop i l)
unfolding on_three
fold_turn n i l h =
    let word : ℕ = get_or l i 0 in
    let left : ℕ = n - (i + 1) in
    let first : get_or l i 0 ≡ get_or (drop i l) 0 0 = sym (get_or-drop i l 0 0 ∙ ap (λ k. get_or l k 0) (add-zero i)) in
    let more : suc (n - (i + 1)) ≡ n - i = omega arith in
    let one = put_turn (i + 1) l _ (i + 4) 3 word (omega arith) (sym (drop-drop 1 i l)) in
    let two = put_turn (i + 1) _ _ (i + 11) 10 word (omega arith) one in
    let three = put_turn (i + 1) _ _ (i + 16) 15 word (omega arith) two in
    ap (folded left) three
    ∙ ap (λ w. folded left (on_three w (drop 1 (drop i l)))) first
    ∙ sym (fold_first left (drop i l))
    ∙ ap (λ k. folded k (drop i l)) more

pub fold_end : (n i : ℕ) (l r : List ℕ) → i ≤ n → n ≤ i → folded (n - i) (drop i l) ≡ r → drop n l ≡ r
unfolding folded
fold_end n i l r h k e =
    let none : 0 ≡ n - i = omega arith in
    ap (λ x. drop x l) (le_antisymm k h) ∙ ap (λ x. folded x (drop i l)) none ∙ e

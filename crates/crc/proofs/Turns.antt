-- One turn and the end of each loop, as the loops' invariants want them. Assumes nothing.
use mathlib.Core.Path.{◌≡◌, refl, sym, ap, ap₂, ◌∙◌}
use mathlib.Core.List.{List, [], ◌∷◌}
use Prim.Native.Nat.{ℕ, zero, suc, ◌+◌, ◌-◌, ◌*◌, ◌/◌, ◌%◌, ◌≤◌, ◌<◌}
use native.Mathlib.Nat.{add-zero, not-suc-le-zero, le_of_suc-le-suc}
use native.Mathlib.Numerals.{add-one}
use native.Mathlib.Omega.{arith}
use lib.Bits.{bit_xor, xor_zero_r}
use lib.ListN.{length, take, drop, get_or, drop_of_length-le}
use lib.Seq.{drop-cons, drop-drop, get_or-drop, get_or-take}
use Rattle.std.specs.Simd.{first_chunks}
use Rattle.crc.specs.Sum.{gate, bit_step, bit_steps, byte_step, sum_from}
use Rattle.crc.specs.Joining.{product}
use Rattle.crc.proofs.Xor.{xor_assoc}
use Rattle.crc.proofs.Linear.{bit_steps_linear, bit_steps_zero}
use Rattle.crc.proofs.Halving.{steps_last}

pub steps_turn : (k a stepped next : ℕ) → stepped ≡ bit_steps k a → next ≡ bit_step stepped → next ≡ bit_steps (k + 1) a
steps_turn k a stepped next es en = en ∙ ap bit_step es ∙ sym (ap (λ (n : ℕ). bit_steps n a) (add-one k) ∙ steps_last k a)

pub product_start : (sum power : ℕ) → bit_xor (bit_steps 16 0) (product 16 sum power) ≡ product 16 sum power
product_start sum power = ap (λ (x : ℕ). bit_xor x (product 16 sum power)) (bit_steps_zero 16)

pub product_turn : (n i sum digits carried stepped gated : ℕ) → i < n → stepped ≡ bit_step carried → gated ≡ gate sum (digits % 2)
    → bit_xor (bit_steps (n - (i + 1)) (bit_xor stepped gated)) (product (n - (i + 1)) sum (digits / 2))
    ≡ bit_xor (bit_steps (n - i) carried) (product (n - i) sum digits)
unfolding bit_steps product
product_turn n i sum digits carried stepped gated h es eg =
    let k : ℕ = n - (i + 1) in
    let one_more : n - i ≡ suc k = omega arith in
    rw (one_more, es, eg)
    (ap (λ (x : ℕ). bit_xor x (product k sum (digits / 2))) (bit_steps_linear k (bit_step carried) (gate sum (digits % 2)))
    ∙ xor_assoc (bit_steps k (bit_step carried)) (bit_steps k (gate sum (digits % 2))) (product k sum (digits / 2)))

pub product_end : (n i sum digits carried : ℕ) → n ≤ i → carried ≡ bit_xor (bit_steps (n - i) carried) (product (n - i) sum digits)
unfolding bit_steps product
product_end n i sum digits carried h =
    let none : n - i ≡ 0 = omega arith in
    rw none (sym (xor_zero_r carried))

pub sum_turn : (bytes : List ℕ) (i sum next : ℕ) → i < length bytes → next ≡ byte_step sum (get_or bytes i 0)
    → sum_from next (drop (i + 1) bytes) ≡ sum_from sum (drop i bytes)
unfolding sum_from
sum_turn bytes i sum next h e = rw (add-one, e, drop-cons bytes i 0)

pub two_turn : (bytes : List ℕ) (i sum next : ℕ) → i + 1 < length bytes → next ≡ byte_step (byte_step sum (get_or bytes i 0)) (get_or bytes (i + 1) 0)
    → sum_from next (drop (i + 2) bytes) ≡ sum_from sum (drop i bytes)
two_turn bytes i sum next h e =
    let past : i + 2 ≡ i + 1 + 1 = omega arith in
    ap (λ (n : ℕ). sum_from next (drop n bytes)) past
    ∙ sum_turn bytes (i + 1) (byte_step sum (get_or bytes i 0)) next h e
    ∙ sum_turn bytes i sum (byte_step sum (get_or bytes i 0)) (omega (arith, h)) refl

pub sum_end : (bytes : List ℕ) (i sum : ℕ) → length bytes ≤ i → sum ≡ sum_from sum (drop i bytes)
unfolding sum_from
sum_end bytes i sum h = rw (drop_of_length-le bytes h)

-- ---- a list two by two

pair_at : (k : ℕ) (bytes : List ℕ) (i : ℕ) → i < k → get_or (first_chunks 2 k bytes) i [] ≡ take 2 (drop (i * 2) bytes)
pair_at zero bytes i h = absurd (not-suc-le-zero h)
pair_at (suc k) bytes zero h = refl
pair_at (suc k) bytes (suc i) h =
    let next : 2 + i * 2 ≡ suc i * 2 = omega arith in
    pair_at k (drop 2 bytes) i (le_of_suc-le-suc h) ∙ ap (take 2) (drop-drop (i * 2) 2 bytes ∙ ap (λ (n : ℕ). drop n bytes) next)

pub pairs_turn : (bytes : List ℕ) (pairs : List (List ℕ)) (i sum next : ℕ) → pairs ≡ first_chunks 2 (length bytes / 2) bytes → i < length bytes / 2
    → next ≡ byte_step (byte_step sum (get_or (get_or pairs i []) 0 0)) (get_or (get_or pairs i []) 1 0)
    → sum_from next (drop ((i + 1) * 2) bytes) ≡ sum_from sum (drop (i * 2) bytes)
pairs_turn bytes pairs i sum next ep h e =
    let past : (i + 1) * 2 ≡ i * 2 + 2 = omega arith in
    let pair : get_or pairs i [] ≡ take 2 (drop (i * 2) bytes) = ap (λ (l : List (List ℕ)). get_or l i []) ep ∙ pair_at (length bytes / 2) bytes i h in
    let low : get_or (get_or pairs i []) 0 0 ≡ get_or bytes (i * 2) 0 =
    ap (λ (l : List ℕ). get_or l 0 0) pair
    ∙ get_or-take 2 (drop (i * 2) bytes) 0 0 (omega arith)
    ∙ get_or-drop (i * 2) bytes 0 0
    ∙ ap (λ (n : ℕ). get_or bytes n 0) (add-zero (i * 2)) in
    let high : get_or (get_or pairs i []) 1 0 ≡ get_or bytes (i * 2 + 1) 0 =
    ap (λ (l : List ℕ). get_or l 1 0) pair ∙ get_or-take 2 (drop (i * 2) bytes) 1 0 (omega arith) ∙ get_or-drop (i * 2) bytes 1 0 in
    ap (λ (n : ℕ). sum_from next (drop n bytes)) past
    ∙ two_turn bytes (i * 2) sum next (omega arith) (e ∙ ap₂ (λ (l h : ℕ). byte_step (byte_step sum l) h) low high)

-- the end, where one byte is left, or none
pub one_left : (last : List ℕ) (sum next : ℕ) → 1 ≤ length last → length last < 2 → next ≡ byte_step sum (get_or last 0 0) → next ≡ sum_from sum last
unfolding sum_from
one_left [] sum next some few e = absurd (not-suc-le-zero some)
one_left (byte ∷ []) sum next some few e = e
one_left (byte ∷ more ∷ rest) sum next some few e = absurd (omega arith)

pub none_left : (last : List ℕ) (sum : ℕ) → length last < 1 → sum ≡ sum_from sum last
unfolding sum_from
none_left [] sum few = refl
none_left (byte ∷ rest) sum few = absurd (omega arith)

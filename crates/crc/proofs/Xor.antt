-- Laws of exclusive or that the logic's library lacks. Assumes nothing.
use mathlib.Core.Path.{◌≡◌, refl, sym, ap, ap₂, ◌∙◌}
use Prim.Native.Nat.{ℕ, zero, suc, ◌+◌, ◌*◌, ◌/◌, ◌%◌, ◌^◌, ◌<◌}
use native.Mathlib.Nat.{add-zero, mod-lt, not-suc-le-zero, le_of_suc-le-suc, zero-lt-suc}
use lib.Arith.{bin_ind}
use lib.Bits.{bit_xor, differ, xor_step, xor_comm, xor_shr, xor_mod, xor_self, xor_zero_r, xor_block, xor_shifted}
use lib.Pow.{pow_pos, split}

-- what holds of 0 and of 1 holds of a binary digit
pub bit_cases : (P : ℕ → Type 0) → P 0 → P 1 → (x : ℕ) → P (x % 2)
bit_cases P p q x = go (x % 2) (mod-lt x (zero-lt-suc 1))
  where
    go : (y : ℕ) → y < 2 → P y
    go zero h = p
    go (suc zero) h = q
    go (suc (suc y)) h = absurd (not-suc-le-zero (le_of_suc-le-suc (le_of_suc-le-suc h)))

pub xor_half : (a b : ℕ) → bit_xor a b / 2 ≡ bit_xor (a / 2) (b / 2)
xor_half a b = xor_shr a b 1

pub xor_odd : (a b : ℕ) → bit_xor a b % 2 ≡ differ (a % 2) (b % 2)
xor_odd a b =
    xor_mod a b 1
    ∙ bit_cases (λ x. bit_xor x (b % 2) ≡ differ x (b % 2)) refl (bit_cases (λ y. bit_xor 1 y ≡ differ 1 y) refl refl b) a

differ_assoc : (a b c : ℕ) → differ (differ (a % 2) (b % 2)) (c % 2) ≡ differ (a % 2) (differ (b % 2) (c % 2))
differ_assoc a b c =
    bit_cases (λ x. differ (differ x (b % 2)) (c % 2) ≡ differ x (differ (b % 2) (c % 2)))
    refl
    (bit_cases (λ y. differ (differ 1 y) (c % 2) ≡ differ 1 (differ y (c % 2)))
    refl
    (bit_cases (λ z. z ≡ differ 1 (differ 1 z)) refl refl c)
    b)
    a

pub xor_assoc : (a b c : ℕ) → bit_xor (bit_xor a b) c ≡ bit_xor a (bit_xor b c)
xor_assoc =
    bin_ind (λ (n : ℕ). (b c : ℕ) → bit_xor (bit_xor n b) c ≡ bit_xor n (bit_xor b c)) (λ b c. refl)
    (λ n ih b c.
    xor_step (bit_xor n b) c
    ∙ ap₂ (λ (x y : ℕ). bit_xor x (c / 2) * 2 + differ y (c % 2)) (xor_half n b) (xor_odd n b)
    ∙ ap₂ (λ (x y : ℕ). x * 2 + y) (ih (b / 2) (c / 2)) (differ_assoc n b c)
    ∙ sym (ap₂ (λ (x y : ℕ). bit_xor (n / 2) x * 2 + differ (n % 2) y) (xor_half b c) (xor_odd b c))
    ∙ sym (xor_step n (bit_xor b c)))

-- the same twice falls out
pub xor_twice : (a b : ℕ) → bit_xor (bit_xor a b) b ≡ a
xor_twice a b = xor_assoc a b b ∙ ap (λ (x : ℕ). bit_xor a x) (xor_self b) ∙ xor_zero_r a

-- what two have in common falls out
pub xor_meets : (a b c : ℕ) → bit_xor (bit_xor a b) (bit_xor b c) ≡ bit_xor a c
xor_meets a b c = sym (xor_assoc (bit_xor a b) b c) ∙ ap (λ (x : ℕ). bit_xor x c) (xor_twice a b)

-- two pairs, joined across
pub xor_across : (a b c d : ℕ) → bit_xor (bit_xor a b) (bit_xor c d) ≡ bit_xor (bit_xor a c) (bit_xor b d)
xor_across a b c d =
    xor_assoc a b (bit_xor c d)
    ∙ ap (λ (x : ℕ). bit_xor a x) (sym (xor_assoc b c d) ∙ ap (λ (x : ℕ). bit_xor x d) (xor_comm b c) ∙ xor_assoc c b d)
    ∙ sym (xor_assoc a c (bit_xor b d))

-- a shift passes through
pub shift_linear : (k a b : ℕ) → bit_xor a b * 2 ^ k ≡ bit_xor (a * 2 ^ k) (b * 2 ^ k)
shift_linear k a b =
    sym
    (ap₂ (λ (x y : ℕ). bit_xor x y) (sym (add-zero (a * 2 ^ k))) (sym (add-zero (b * 2 ^ k)))
    ∙ xor_block k a b 0 0 (pow_pos k) (pow_pos k)
    ∙ add-zero (bit_xor a b * 2 ^ k))

-- a number is its high digits and its low ones
pub high_and_low : (k a : ℕ) → a ≡ bit_xor (a / 2 ^ k * 2 ^ k) (a % 2 ^ k)
high_and_low k a = sym (split a k) ∙ sym (xor_shifted (a / 2 ^ k) k (a % 2 ^ k) (mod-lt a (pow_pos k)))

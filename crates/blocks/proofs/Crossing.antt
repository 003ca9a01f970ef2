-- A sum is carried over a block's gap digit by digit, and the table of digits is tested by a cheaper way to work its
-- entries out: the product with the gap's power. Assumes nothing.
use mathlib.Core.Path.{◌≡◌, refl, sym, ap, ap₂, ◌∙◌}
use mathlib.Core.List.{List, [], ◌∷◌, ◌++◌}
use Prim.Native.Nat.{ℕ, zero, suc, ◌+◌, ◌*◌, ◌/◌, ◌%◌, ◌^◌, ◌≤◌, ◌<◌}
use native.Mathlib.Nat.{zero-add, add-zero, add_assoc, add_comm, zero-mul, suc-mul, mul-one, mul_assoc, mul_comm, pow-suc, not-suc-le-zero, le_of_suc-le-suc}
use native.Mathlib.Omega.{arith}
use lib.Bits.{bit_xor, xor_shifted, xor_comm}
use lib.ListN.{length, get_or, get_or-append}
use lib.Seq.{get_or-append-add}
use Rattle.crc.specs.Sum.{bit_step, bit_steps, byte_step, carried}
use Rattle.crc.specs.Joining.{product, power_of}
use Rattle.crc.proofs.Linear.{carried_linear}
use Rattle.crc.proofs.Halving.{product_carries}
use Rattle.blocks.specs.Fram.{block_size}
use Rattle.blocks.specs.Crossing.{crossings, rows, gap_of}

-- ---- from digits to a sum

-- a sum's digits from k on, and those below
carried_apart : (k high low sum : ℕ) → low < 2 ^ k → sum ≡ high * 2 ^ k + low
    → carried block_size sum ≡ bit_xor (carried block_size low) (carried block_size (high * 2 ^ k))
carried_apart k high low sum below e =
    ap (carried block_size) (e ∙ sym (xor_shifted high k low below) ∙ xor_comm (high * 2 ^ k) low)
    ∙ carried_linear block_size low (high * 2 ^ k)

four_digits : (sum : ℕ) → carried block_size sum
    ≡ bit_xor (bit_xor (carried block_size (sum % 256 % 16)) (carried block_size (sum % 256 / 16 * 16)))
    (bit_xor (carried block_size (sum / 256 % 16 * 256)) (carried block_size (sum / 256 / 16 * 4096)))
four_digits sum =
    carried_apart 8 (sum / 256) (sum % 256) sum (omega arith) (omega arith)
    ∙ ap₂ bit_xor
    (carried_apart 4 (sum % 256 / 16) (sum % 256 % 16) (sum % 256) (omega arith) (omega arith))
    (carried_apart 12 (sum / 256 / 16) (sum / 256 % 16 * 256) (sum / 256 * 256) (omega arith) (omega arith))

-- ---- the table's entries

entry : (count apart value i : ℕ) → i < count → get_or (crossings count apart value) i 0 ≡ carried block_size (value + i * apart)
unfolding crossings
entry zero apart value i h = absurd (not-suc-le-zero h)
entry (suc count) apart value zero h = ap (carried block_size) (sym (ap (λ (n : ℕ). value + n) (zero-mul apart) ∙ add-zero value))
entry (suc count) apart value (suc i) h =
    entry count apart (value + apart) i (le_of_suc-le-suc h)
    ∙ ap (carried block_size) (add_assoc value apart (i * apart) ∙ ap (λ (n : ℕ). value + n) (add_comm apart (i * apart) ∙ sym (suc-mul i apart)))

row_length : (count apart value : ℕ) → length (crossings count apart value) ≡ count
unfolding crossings
row_length zero apart value = refl
row_length (suc count) apart value = ap suc (row_length count apart (value + apart))

digit : (digits apart j i : ℕ) → j < digits → i < 16 → get_or (rows digits apart) (i + 16 * j) 0 ≡ carried block_size (i * (apart * 16 ^ j))
unfolding rows
digit zero apart j i h k = absurd (not-suc-le-zero h)
digit (suc digits) apart zero i h k =
    ap (λ (n : ℕ). get_or (rows (suc digits) apart) n 0) (add-zero i)
    ∙ get_or-append (crossings 16 apart 0) (rows digits (apart * 16)) 0 i (rw row_length k)
    ∙ entry 16 apart 0 i k
    ∙ ap (carried block_size) (zero-add (i * apart) ∙ ap (λ (n : ℕ). i * n) (sym (mul-one apart)))
digit (suc digits) apart (suc j) i h k =
    let there : i + 16 * suc j ≡ 16 + (i + 16 * j) = omega arith in
    ap (λ (n : ℕ). get_or (rows (suc digits) apart) n 0) (there ∙ ap (λ (n : ℕ). n + (i + 16 * j)) (sym (row_length 16 apart 0)))
    ∙ get_or-append-add (crossings 16 apart 0) (rows digits (apart * 16)) (i + 16 * j) 0
    ∙ digit digits (apart * 16) j i (le_of_suc-le-suc h) k
    ∙ ap (λ (n : ℕ). carried block_size (i * n)) (mul_assoc apart 16 (16 ^ j) ∙ ap (λ (n : ℕ). apart * n) (mul_comm 16 (16 ^ j) ∙ sym (pow-suc 16 j)))

-- the digits of a sum by the table
pub by_the_gap's_table : (gap : List ℕ) (sum : ℕ) → sum < 2 ^ 16 → gap ≡ gap_of
    → bit_xor (bit_xor (get_or gap (sum % 256 % 16) 0) (get_or gap (sum % 256 / 16 + 16) 0))
    (bit_xor (get_or gap (sum / 256 % 16 + 32) 0) (get_or gap (sum / 256 / 16 + 48) 0)) ≡ carried block_size sum
unfolding gap_of
by_the_gap's_table gap sum h e =
    rw (e, four_digits sum)
    (ap₂ bit_xor
    (ap₂ bit_xor
    (ap (λ (n : ℕ). get_or gap_of n 0) (sym (add-zero (sum % 256 % 16)))
    ∙ digit 4 1 0 (sum % 256 % 16) (omega arith) (omega arith)
    ∙ ap (carried block_size) (mul-one (sum % 256 % 16)))
    (digit 4 1 1 (sum % 256 / 16) (omega arith) (omega arith)))
    (ap₂ bit_xor
    (digit 4 1 2 (sum / 256 % 16) (omega arith) (omega arith))
    (digit 4 1 3 (sum / 256 / 16) (omega arith) (omega arith))))

-- ---- the table's test

-- the power of the one-byte shift that stands for a block's gap
abbrev pub gap_power : ℕ
gap_power = 0x0ABF

the_gap_power : power_of block_size ≡ gap_power
unfolding power_of carried byte_step bit_steps bit_step
the_gap_power = refl

unfoldable pub products : ℕ → ℕ → ℕ → List ℕ
products zero apart value = []
products (suc count) apart value = product 16 value gap_power ∷ products count apart (value + apart)

products_cross : (count apart value : ℕ) → 0 < apart → value + count * apart ≤ 2 ^ 16 → products count apart value ≡ crossings count apart value
unfolding products crossings
products_cross zero apart value pos h = refl
products_cross (suc count) apart value pos h =
    let fits : value + (count * apart + apart) ≤ 2 ^ 16 = rw suc-mul at h in
    ap₂ ◌∷◌
    (ap (product 16 value) (sym the_gap_power) ∙ product_carries block_size value (omega arith))
    (products_cross count apart (value + apart) pos (omega arith))

pub the_gap's_table : products 16 1 0 ++ (products 16 16 0 ++ (products 16 256 0 ++ (products 16 4096 0 ++ []))) ≡ gap_of
unfolding gap_of rows
the_gap's_table =
    ap₂ ◌++◌ (products_cross 16 1 0 (omega arith) (omega arith))
    (ap₂ ◌++◌ (products_cross 16 16 0 (omega arith) (omega arith))
    (ap₂ ◌++◌ (products_cross 16 256 0 (omega arith) (omega arith))
    (ap₂ ◌++◌ (products_cross 16 4096 0 (omega arith) (omega arith)) refl)))

-- The table's rule at each entry, and from there to the byte step of any sum. Assumes nothing.
use mathlib.Core.Path.{◌≡◌, refl, sym, ap, ap₂, ◌∙◌}
use Prim.Native.Nat.{ℕ, zero, suc, ◌+◌, ◌*◌, ◌/◌, ◌%◌, ◌^◌, ◌<◌}
use native.Mathlib.Nat.{add-zero, zero-add, add-suc, suc-add, mul-one, le_of_suc-le-suc, not-suc-le-zero, mod-lt, zero-lt-suc}
use native.Mathlib.Omega.{arith}
use lib.Bits.{bit_xor, xor_comm, xor_zero_r, xor_lt, xor_shr, xor_mod, shifted_half, shifted_even}
use lib.ListN.{get_or}
use Rattle.crc.specs.Sum.{gate, bit_step, bit_steps, steps, table_of, polynomial}
use Rattle.crc.specs.declared.table.TheConstants.{TABLE}
use Rattle.crc.proofs.Xor.{xor_assoc, xor_across, shift_linear, high_and_low}
use Rattle.crc.proofs.Linear.{bit_steps_linear}
use Rattle.crc.proofs.Halving.{Linear, agree}

-- the entry at k of a run of entries that starts at i
entry : (count i k : ℕ) → k < count → get_or (steps count i) k 0 ≡ bit_steps 8 (i + k)
unfolding steps
entry zero i k h = absurd (not-suc-le-zero h)
entry (suc count) i zero h = ap (bit_steps 8) (sym (add-zero i))
entry (suc count) i (suc k) h = entry count (suc i) k (le_of_suc-le-suc h) ∙ ap (bit_steps 8) (suc-add i k ∙ sym (add-suc i k))

table_at : (k : ℕ) → k < 256 → get_or table_of k 0 ≡ bit_steps 8 k
unfolding table_of
table_at k h = entry 256 0 k h ∙ ap (bit_steps 8) (zero-add k)

-- a sum whose low digits are 0 only moves down
moves_down : (k y : ℕ) → bit_steps k (y * 2 ^ k) ≡ y
unfolding bit_steps bit_step
moves_down zero y = mul-one y
moves_down (suc k) y =
    ap (bit_steps k)
    (ap₂ (λ (half odd : ℕ). bit_xor half (gate polynomial odd)) (shifted_half y k) (shifted_even y k) ∙ xor_zero_r (y * 2 ^ k))
    ∙ moves_down k y

-- the byte step of any sum: the high byte moves down, and the low byte is stepped
low_and_high : (x : ℕ) → bit_xor (x / 256) (bit_steps 8 (x % 256)) ≡ bit_steps 8 x
low_and_high x =
    sym
    (ap (bit_steps 8) (high_and_low 8 x)
    ∙ bit_steps_linear 8 (x / 256 * 2 ^ 8) (x % 256)
    ∙ ap (λ (y : ℕ). bit_xor y (bit_steps 8 (x % 256))) (moves_down 8 (x / 256)))

-- The table's test: `refl` computes the eight bit steps of each of the 256 places and compares them with the program's entries.
pub the_table : TABLE ≡ table_of
unfolding table_of steps bit_steps bit_step
the_table = refl

-- by the table
pub by_the_table : (x : ℕ) → bit_xor (get_or TABLE (x % 256) 0) (x / 256) ≡ bit_steps 8 x
by_the_table x =
    ap (λ t. bit_xor (get_or t (x % 256) 0) (x / 256)) the_table
    ∙ ap (λ (y : ℕ). bit_xor y (x / 256)) (table_at (x % 256) (mod-lt x (zero-lt-suc 255)))
    ∙ xor_comm (bit_steps 8 (x % 256)) (x / 256)
    ∙ low_and_high x

-- without it. `spread` has the eight digits that fall out: one of the low four comes back on the one four above it. Each
-- brings the polynomial's three digits in, 8 and 3 places above its own and 4 below.
abbrev spread : ℕ → ℕ
spread x = bit_xor x (x * 16 % 256)

abbrev bare : ℕ → ℕ
bare x = bit_xor (spread x * 256) (bit_xor (spread x * 8) (spread x / 16))

spread_linear : Linear spread
spread_linear a b =
    ap (bit_xor (bit_xor a b)) (ap (λ (x : ℕ). x % 256) (shift_linear 4 a b) ∙ xor_mod (a * 16) (b * 16) 8)
    ∙ xor_across a b (a * 16 % 256) (b * 16 % 256)

bare_linear : Linear bare
bare_linear a b =
    let x = spread a in
    let y = spread b in
    ap (λ (s : ℕ). bit_xor (s * 256) (bit_xor (s * 8) (s / 16))) (spread_linear a b)
    ∙ ap₂ bit_xor (shift_linear 8 x y) (ap₂ bit_xor (shift_linear 3 x y) (xor_shr x y 4) ∙ xor_across (x * 8) (y * 8) (x / 16) (y / 16))
    ∙ xor_across (x * 256) (y * 256) (bit_xor (x * 8) (x / 16)) (bit_xor (y * 8) (y / 16))

-- both sides are linear, so that it is tested at 0 and at a byte's eight digits
bare_byte : (x : ℕ) → x < 2 ^ 8 → bare x ≡ bit_steps 8 x
unfolding bit_steps bit_step
bare_byte = agree bare (bit_steps 8) bare_linear (bit_steps_linear 8) 8 tt

pub without_the_table : (x : ℕ) → bit_xor (x / 256) (bare (x % 256)) ≡ bit_steps 8 x
without_the_table x =
    ap (bit_xor (x / 256)) (bare_byte (x % 256) (mod-lt x (zero-lt-suc 255))) ∙ low_and_high x

pub spread_below : (x : ℕ) → spread (x % 256) < 2 ^ 8
spread_below x = xor_lt 8 (x % 256) (x % 256 * 16 % 256) (mod-lt x (zero-lt-suc 255)) (mod-lt (x % 256 * 16) (zero-lt-suc 255))

-- steps after steps
pub steps_add : (m n a : ℕ) → bit_steps (m + n) a ≡ bit_steps n (bit_steps m a)
unfolding bit_steps
steps_add zero n a = rw zero-add
steps_add (suc m) n a = rw suc-add (steps_add m n (bit_step a))

-- steps over a word's low half, and then over the high one
pub half_steps : (k sum word : ℕ) → bit_steps (k + k) (bit_xor sum word) ≡ bit_steps k (bit_xor (bit_steps k (bit_xor sum (word % 2 ^ k))) (word / 2 ^ k))
half_steps k sum word =
    let low = word % 2 ^ k in
    let high = word / 2 ^ k in
    steps_add k k (bit_xor sum word)
    ∙ ap (bit_steps k)
    (ap (λ (w : ℕ). bit_steps k (bit_xor sum w)) (high_and_low k word ∙ xor_comm (high * 2 ^ k) low)
    ∙ ap (bit_steps k) (sym (xor_assoc sum low (high * 2 ^ k)))
    ∙ bit_steps_linear k (bit_xor sum low) (high * 2 ^ k)
    ∙ ap (bit_xor (bit_steps k (bit_xor sum low))) (moves_down k high))

-- two bytes by the table: what is mixed is stepped twice
pub two_by_the_table : (sum low high word : ℕ) → sum < 2 ^ 16 → low < 2 ^ 8 → high < 2 ^ 8 → word ≡ low + 256 * high
    → bit_xor (get_or TABLE (bit_xor (get_or TABLE (bit_xor sum word % 256) 0) (bit_xor sum word / 256) % 256) 0) (get_or TABLE (bit_xor sum word % 256) 0 / 256)
    ≡ bit_steps 8 (bit_xor (bit_steps 8 (bit_xor sum low)) high)
two_by_the_table sum low high word hs hl hh both =
    let mixed = bit_xor sum word in
    let first = get_or TABLE (mixed % 256) 0 in
    let next = bit_xor first (mixed / 256) in
    let below : mixed < 2 ^ 16 = xor_lt 16 sum word hs (omega (arith, hl, hh)) in
    let gone : mixed / 256 / 256 ≡ 0 = omega (arith, below) in
    let the_low : word % 256 ≡ low = omega (arith, hl) in
    let the_high : word / 256 ≡ high = omega (arith, hl) in
    ap (bit_xor (get_or TABLE (next % 256) 0)) (sym (xor_shr first (mixed / 256) 8 ∙ ap (bit_xor (first / 256)) gone ∙ xor_zero_r (first / 256)))
    ∙ by_the_table next
    ∙ ap (bit_steps 8) (by_the_table mixed)
    ∙ sym (steps_add 8 8 mixed)
    ∙ half_steps 8 sum word
    ∙ ap₂ (λ (l h : ℕ). bit_steps 8 (bit_xor (bit_steps 8 (bit_xor sum l)) h)) the_low the_high

-- The byte step is what the fragment of C in ICD 10.8 does with a byte. Assumes nothing.
use mathlib.Core.Path.{◌≡◌, sym, ap, ap₂, ◌∙◌}
use Prim.Native.Nat.{ℕ, zero, suc, ◌/◌, ◌%◌, ◌^◌, ◌<◌}
use lib.Arith.{lt-one}
use lib.Bits.{bit_xor, xor_comm, xor_zero_r}
use Rattle.crc.specs.Sum.{gate, bit_step, bit_steps, byte_step, fragment, polynomial}
use Rattle.crc.proofs.Xor.{xor_half, xor_assoc}
use Rattle.crc.proofs.Halving.{half_below}

-- the last two exchange places
xor_swap : (a b c : ℕ) → bit_xor (bit_xor a b) c ≡ bit_xor (bit_xor a c) b
xor_swap a b c = xor_assoc a b c ∙ ap (bit_xor a) (xor_comm b c) ∙ sym (xor_assoc a c b)

-- a step with all the byte mixed in is a step with its lowest bit mixed in, and the rest mixed in then
one_bit : (crc ch : ℕ) → bit_step (bit_xor crc ch) ≡ bit_xor (bit_xor (crc / 2) (gate polynomial (bit_xor ch crc % 2))) (ch / 2)
unfolding bit_step
one_bit crc ch =
    ap₂ (λ (half mixed : ℕ). bit_xor half (gate polynomial (mixed % 2))) (xor_half crc ch) (xor_comm crc ch)
    ∙ xor_swap (crc / 2) (ch / 2) (gate polynomial (bit_xor ch crc % 2))

steps_are_the_fragment : (k crc ch : ℕ) → ch < 2 ^ k → bit_steps k (bit_xor crc ch) ≡ fragment k crc ch
unfolding bit_steps fragment
steps_are_the_fragment zero crc ch below = ap (bit_xor crc) (lt-one below) ∙ xor_zero_r crc
steps_are_the_fragment (suc k) crc ch below =
    ap (bit_steps k) (one_bit crc ch) ∙ steps_are_the_fragment k _ (ch / 2) (half_below k below)

pub byte_step_is_the_fragment : (sum byte : ℕ) → byte < 256 → byte_step sum byte ≡ fragment 8 sum byte
unfolding byte_step
byte_step_is_the_fragment sum byte below = steps_are_the_fragment 8 sum byte below

-- Bit steps, byte steps and carrying are linear: they pass through exclusive or. Assumes nothing.
use mathlib.Core.Path.{◌≡◌, refl, sym, ap, ap₂, ◌∙◌}
use mathlib.Core.List.{List, [], ◌∷◌}
use Prim.Native.Nat.{ℕ, zero, suc, ◌+◌, ◌/◌, ◌%◌}
use native.Mathlib.Nat.{zero-add, suc-add}
use lib.Bits.{bit_xor, differ, xor_zero_r, xor_self}
use lib.ListN.{length}
use Rattle.crc.specs.Sum.{gate, bit_step, bit_steps, byte_step, sum_from, carried, polynomial}
use Rattle.crc.proofs.Xor.{bit_cases, xor_half, xor_odd, xor_assoc, xor_across}

pub gate_linear : (v a b : ℕ) → gate v (bit_xor a b % 2) ≡ bit_xor (gate v (a % 2)) (gate v (b % 2))
gate_linear v a b =
    ap (λ (x : ℕ). gate v x) (xor_odd a b)
    ∙ bit_cases (λ x. gate v (differ x (b % 2)) ≡ bit_xor (gate v x) (gate v (b % 2)))
    refl
    (bit_cases (λ y. gate v (differ 1 y) ≡ bit_xor v (gate v y)) (sym (xor_zero_r v)) (sym (xor_self v)) b)
    a

pub bit_step_linear : (a b : ℕ) → bit_step (bit_xor a b) ≡ bit_xor (bit_step a) (bit_step b)
unfolding bit_step
bit_step_linear a b =
    ap₂ bit_xor (xor_half a b) (gate_linear polynomial a b)
    ∙ xor_across (a / 2) (b / 2) (gate polynomial (a % 2)) (gate polynomial (b % 2))

pub bit_steps_linear : (k a b : ℕ) → bit_steps k (bit_xor a b) ≡ bit_xor (bit_steps k a) (bit_steps k b)
unfolding bit_steps
bit_steps_linear zero a b = refl
bit_steps_linear (suc k) a b = ap (bit_steps k) (bit_step_linear a b) ∙ bit_steps_linear k (bit_step a) (bit_step b)

pub bit_steps_zero : (k : ℕ) → bit_steps k 0 ≡ 0
unfolding bit_steps bit_step
bit_steps_zero zero = refl
bit_steps_zero (suc k) = bit_steps_zero k

-- a byte step of two sums, of which one takes the byte
pub byte_step_linear : (a b byte : ℕ) → byte_step (bit_xor a b) byte ≡ bit_xor (byte_step a 0) (byte_step b byte)
unfolding byte_step
byte_step_linear a b byte =
    ap (bit_steps 8) (xor_assoc a b byte ∙ ap (λ (x : ℕ). bit_xor x (bit_xor b byte)) (sym (xor_zero_r a)))
    ∙ bit_steps_linear 8 (bit_xor a 0) (bit_xor b byte)

pub carried_linear : (n a b : ℕ) → carried n (bit_xor a b) ≡ bit_xor (carried n a) (carried n b)
unfolding carried
carried_linear zero a b = refl
carried_linear (suc n) a b = ap (carried n) (byte_step_linear a b 0) ∙ carried_linear n (byte_step a 0) (byte_step b 0)

pub carried_zero : (n : ℕ) → carried n 0 ≡ 0
unfolding carried byte_step bit_steps bit_step
carried_zero zero = refl
carried_zero (suc n) = carried_zero n

-- a gap after a gap
pub carried_add : (m n a : ℕ) → carried (m + n) a ≡ carried n (carried m a)
unfolding carried
carried_add zero n a = rw zero-add
carried_add (suc m) n a = rw suc-add (carried_add m n (byte_step a 0))

-- a sum over bytes: what it starts from goes through as through zeros
pub sum_from_linear : (a b : ℕ) (bytes : List ℕ) → sum_from (bit_xor a b) bytes ≡ bit_xor (carried (length bytes) a) (sum_from b bytes)
unfolding sum_from carried
sum_from_linear a b [] = refl
sum_from_linear a b (byte ∷ bytes) =
    ap (λ (x : ℕ). sum_from x bytes) (byte_step_linear a b byte) ∙ sum_from_linear (byte_step a 0) (byte_step b byte) bytes

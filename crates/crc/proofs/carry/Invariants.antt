-- `crc::carry` meets its contract. The invariant: what is carried so far, after the steps that are left, with the product
-- of the digits that are left is the whole product. Assumes nothing.
use mathlib.Core.Path.{◌≡◌}
use Prim.Native.Nat.{◌-◌}
use lib.Bits.{bit_xor}
use Rattle.crc.specs.Sum.{bit_steps}
use Rattle.crc.specs.Joining.{product}
use Rattle.crc.proofs.carry.Given as goal

abbrev pub invariant-loop : goal.invariant-loop
invariant-loop l =
    bit_xor (bit_steps (16 - l.counter) l.carried) (product (16 - l.counter) l.sum l.digits) ≡ product 16 l.sum l.power

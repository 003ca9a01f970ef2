-- `crc::byte_shift` meets its contract. The invariant: the steps so far have been taken. Assumes nothing.
use mathlib.Core.Path.{◌≡◌}
use Rattle.crc.specs.Sum.{bit_steps}
use Rattle.crc.proofs.byte_shift.Given as goal

abbrev pub invariant-loop : goal.invariant-loop
invariant-loop l = l.shifted ≡ bit_steps l.counter l.sum

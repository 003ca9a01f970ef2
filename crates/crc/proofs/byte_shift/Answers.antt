-- `crc::byte_shift` meets its contract. The invariant: the steps so far have been taken. Assumes nothing.
use mathlib.Core.Path.{refl}
use Rattle.crc.specs.Sum.{bit_steps}
use Rattle.crc.proofs.Turns.{steps_turn}
use Rattle.crc.proofs.byte_shift.Goals as goal

pub loop-init : goal.loop-init
unfolding bit_steps
loop-init c = refl

pub loop-preserved : goal.loop-preserved
loop-preserved c = steps_turn _ _ _ _ c.loop.invariant c.bit_step-shifted.ensures

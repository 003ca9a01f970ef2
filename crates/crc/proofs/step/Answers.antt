-- `crc::step` meets its contract: the low byte's entry of the table, and the high byte moved down. Assumes nothing.
use lib.Bits.{bit_xor}
use Rattle.crc.specs.Sum.{byte_step}
use Rattle.crc.proofs.ByteSteps.{by_the_table}
use Rattle.crc.proofs.step.Goals as goal

pub returns : goal.returns
unfolding byte_step
returns c = rw (c.from-2.ensures, c.from.ensures) (by_the_table (bit_xor c.args.sum c.args.byte))

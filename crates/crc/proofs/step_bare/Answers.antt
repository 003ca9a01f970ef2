-- `crc::step_bare` meets its contract: what it makes of a byte was tested for every byte. Assumes nothing.
use native.Mathlib.Omega.{arith}
use lib.Bits.{bit_xor}
use Rattle.crc.specs.Sum.{byte_step}
use Rattle.crc.proofs.ByteSteps.{without_the_table, spread_below}
use Rattle.crc.proofs.step_bare.Goals as goal

pub overflow_mul-result : goal.overflow_mul-result
overflow_mul-result c = omega (arith, spread_below (bit_xor c.args.sum c.from.result))

pub overflow_mul-result-2 : goal.overflow_mul-result-2
overflow_mul-result-2 c = omega (arith, spread_below (bit_xor c.args.sum c.from.result))

pub returns : goal.returns
unfolding byte_step
returns c = rw c.from.ensures (without_the_table (bit_xor c.args.sum c.args.byte))

-- `crc::step_two` meets its contract: the table once for each of the two bytes. Assumes nothing.
use native.Mathlib.Omega.{arith}
use Rattle.crc.specs.Sum.{byte_step}
use Rattle.crc.proofs.ByteSteps.{two_by_the_table}
use Rattle.crc.proofs.step_two.Goals as goal

pub returns : goal.returns
unfolding byte_step
returns c =
    rw (c.from-2.ensures, c.from.ensures)
    (two_by_the_table c.args.sum c.args.low c.args.high c.from_le_bytes.result c.ranges.sum.fits c.ranges.low.fits c.ranges.high.fits (omega (arith, c.from_le_bytes.ensures)))

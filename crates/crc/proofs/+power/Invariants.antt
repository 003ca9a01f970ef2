-- The measure is the number of bytes.
use Rattle.crc.proofs.+power.Given as goal

abbrev pub decreases-power : goal.decreases-power
decreases-power l = l.n

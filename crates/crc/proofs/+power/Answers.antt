-- The proof of the cycle of calls {power}: by halving. Assumes nothing.
use Rattle.crc.proofs.Halving.{power_none, power_even, power_odd}
use Rattle.crc.proofs.+power.Goals as goal

pub returns-then-n-eq0 : goal.returns-then-n-eq0
returns-then-n-eq0 t c = power_none _ c.if-n-eq0.true

pub returns-then-n-eq0-2 : goal.returns-then-n-eq0-2
returns-then-n-eq0-2 t c = power_even _ _ _ c.if-n-eq0-2.true c.power-half.ensures c.carry-square.ensures

pub returns-else-n-eq0-2 : goal.returns-else-n-eq0-2
returns-else-n-eq0-2 t c =
    power_odd _ _ _ _ c.if-n-eq0-2.false c.power-half.ensures c.carry-square.ensures c.byte_shift.ensures

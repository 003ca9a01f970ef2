-- `crc::few` meets its contract. The invariant: the sum so far goes on over the bytes that are left. Assumes nothing.
use mathlib.Core.Path.{◌∙◌}
use Rattle.crc.proofs.Turns.{sum_turn, sum_end}
use Rattle.crc.proofs.few.Goals as goal

pub loop-byte-preserved : goal.loop-byte-preserved
loop-byte-preserved c =
    sum_turn _ _ _ _ c.loop-byte-test.true c.step_bare-sum.ensures ∙ c.loop-byte.invariant

pub returns : goal.returns
returns c = sum_end _ _ _ c.loop-byte-test.false ∙ c.loop-byte.invariant

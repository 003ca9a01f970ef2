-- `memory::bytes::put` meets its contract. The invariant: the first i bytes are in place. Assumes nothing.
use native.Mathlib.Omega.{arith}
use Rattle.memory.proofs.Turns.{copy_turn, copy_end}
use Rattle.memory.proofs.bytes.put.Goals as goal

pub loop-i-preserved : goal.loop-i-preserved
loop-i-preserved c = copy_turn _ _ _ _ _ c.requires c.loop-i-test.true c.loop-i.invariant

pub returns : goal.returns
returns c = copy_end _ _ _ _ _ (omega arith) (omega arith) c.loop-i.invariant

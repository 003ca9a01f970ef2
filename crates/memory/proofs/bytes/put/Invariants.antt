-- `memory::bytes::put` meets its contract. The invariant: the first i bytes are in place. Assumes nothing.
use mathlib.Core.Path.{◌≡◌}
use lib.Seq.{paste}
use Rattle.memory.proofs.bytes.put.Given as goal

abbrev pub invariant-loop-i : goal.invariant-loop-i
invariant-loop-i l = l.held ≡ paste l.initial.held l.at l.bytes l.i

-- `read_only::store::store` meets its contract. The invariant: the bytes before `rest` are stored. Assumes nothing.
use lib.ListN.{length}
use Rattle.read_only.proofs.Turns.{UnderWay}
use Rattle.read_only.proofs.store.store.Given as goal

abbrev pub invariant-loop-rest : goal.invariant-loop-rest
invariant-loop-rest l = UnderWay l.initial.edac l.fn.at l.bytes l.edac l.at l.rest

abbrev pub decreases-loop-rest : goal.decreases-loop-rest
decreases-loop-rest l = length l.rest

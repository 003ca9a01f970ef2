-- `listening::listen` meets its contract: at each turn a byte that closes nothing is heard, and with it those of its run that stand for
-- themselves (`Along`). Assumes nothing.
use lib.ListN.{length}
use Rattle.listening.proofs.Going.{Along}
use Rattle.listening.proofs.listen.Given as goal

abbrev pub invariant-loop-rest : goal.invariant-loop-rest
invariant-loop-rest l = Along l.largest l.initial.now l.bytes l.initial.message l.now l.rest l.message

abbrev pub decreases-loop-rest : goal.decreases-loop-rest
decreases-loop-rest l = length l.rest

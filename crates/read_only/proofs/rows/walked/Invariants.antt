-- `read_only::rows::walked` meets its contract. The invariant: what is still to be walked are the first of the rows, the address lies before
-- those that are walked already, and it is known where they begin, and where the first of them, with those that touch it, ends. Assumes nothing.
use lib.ListN.{length}
use Rattle.read_only.proofs.Listed.{Walked}
use Rattle.read_only.proofs.rows.walked.Given as goal

abbrev pub invariant-loop-rest : goal.invariant-loop-rest
invariant-loop-rest l = Walked l.rows l.end l.at l.rest l.next l.stop

abbrev pub decreases-loop-rest : goal.decreases-loop-rest
decreases-loop-rest l = length l.rest

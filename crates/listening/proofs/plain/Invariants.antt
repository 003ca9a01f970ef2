-- `listening::plain` meets its contract: at each turn one byte of the run is taken (`Along`). Assumes nothing.
use lib.ListN.{drop}
use Rattle.line.specs.declared.receiver.Place.TheVariants.{Run}
use Rattle.ports.specs.declared.Port.TheVariants.{Hearing}
use Rattle.listening.proofs.Going.{Along}
use Rattle.listening.proofs.plain.Given as goal

abbrev pub invariant-loop-taken : goal.invariant-loop-taken
invariant-loop-taken l = Along l.largest (Hearing (record { place = Run; count = l.initial.count })) l.bytes l.initial.message (Hearing (record { place = Run; count = l.count })) (drop l.taken l.bytes) l.message

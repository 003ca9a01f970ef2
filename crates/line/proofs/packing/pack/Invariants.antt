-- `line::packing::pack` meets its contract. The loop's invariant, `Laid`: writing what is left of the message gives what writing the whole
-- gives. Assumes nothing.
use Rattle.line.proofs.Laying.{Laid}
use Rattle.line.proofs.packing.pack.Given as goal

abbrev pub invariant-loop-i : goal.invariant-loop-i
invariant-loop-i l = Laid l.message l.initial.reply l.reply l.at l.i

-- `folding::load` meets its contract. The invariant: the first i words of the chunk are in place. Assumes nothing.
use mathlib.Core.Path.{◌≡◌}
use lib.Seq.{paste}
use Rattle.folding.specs.Folding.{words_of}
use Rattle.folding.proofs.load.Given as goal

abbrev pub invariant-loop-i : goal.invariant-loop-i
invariant-loop-i l = l.words ≡ paste l.initial.words 16 (words_of l.chunk) l.i

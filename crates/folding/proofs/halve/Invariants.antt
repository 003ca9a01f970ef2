-- `folding::halve` meets its contract. The invariant: the digits of the first i words are in place. Assumes nothing.
use mathlib.Core.Path.{◌≡◌}
use Prim.Native.Nat.{◌*◌}
use lib.ListN.{drop}
use lib.Seq.{paste}
use Rattle.folding.specs.Folding.{halves_of}
use Rattle.folding.proofs.halve.Given as goal

abbrev pub invariant-loop-i : goal.invariant-loop-i
invariant-loop-i l = l.words ≡ paste l.initial.words 0 (halves_of l.base (drop 16 l.initial.words)) (l.i * 2)

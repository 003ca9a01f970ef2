-- `folding::fold` meets its contract. The invariant: what is left of the fold, at the words from i on, gives the whole. Assumes nothing.
use mathlib.Core.Path.{◌≡◌}
use Prim.Native.Nat.{◌-◌}
use lib.ListN.{drop}
use Rattle.folding.specs.Folding.{folded}
use Rattle.folding.proofs.fold.Given as goal

abbrev pub invariant-loop-i : goal.invariant-loop-i
invariant-loop-i l = folded (16 - l.i) (drop l.i l.words) ≡ folded 16 l.initial.words

-- `folding::low_bytes` meets its contract. The invariant: the first i bytes are in place. Assumes nothing.
use mathlib.Core.Path.{◌≡◌}
use lib.ListN.{drop}
use lib.Seq.{paste}
use Rattle.folding.specs.Folding.{low_bytes}
use Rattle.folding.proofs.low_bytes.Given as goal

abbrev pub invariant-loop-i : goal.invariant-loop-i
invariant-loop-i l = l.byte-items ≡ paste l.initial.byte-items 0 (low_bytes (drop 16 l.words)) l.i

-- `folding::reduce` meets its contract. The invariant: the chunks that are left, folded behind the upper half, give what all
-- of them give. Assumes nothing.
use mathlib.Core.Path.{◌≡◌}
use Prim.Native.Nat.{◌/◌, ◌%◌}
use lib.ListN.{length, drop}
use Rattle.folding.specs.Folding.{folded_through, chunks_folded}
use Rattle.folding.proofs.reduce.Given as goal

abbrev pub invariant-loop-chunk : goal.invariant-loop-chunk
invariant-loop-chunk l =
    let left = l.chunk-iterator.rest.now in
    record {
      size : l.chunk-iterator.size ≡ 64;
      whole : length left % 64 ≡ 0;
      half : length (drop 16 l.words) ≡ 16;
      gives : folded_through (length left / 64) (drop 16 l.words) left ≡ chunks_folded l.start l.bytes;
    }

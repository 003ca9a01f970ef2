-- `folding::reduce` meets its contract. The invariant: the chunks that are left, folded behind the upper half, give what all
-- of them give. Assumes nothing.
use mathlib.Core.Path.{◌≡◌, sym, ap, ◌∙◌}
use Prim.Native.Nat.{◌/◌}
use native.Mathlib.Omega.{arith}
use lib.ListN.{length, length-append, length-drop, drop}
use Rattle.folding.specs.Folding.{words_of, folded_through, chunks_folded}
use Rattle.folding.proofs.Reducing.{chunks_start, chunks_turn, chunks_end}
use Rattle.folding.proofs.reduce.Goals as goal

pub loop-chunk-init : goal.loop-chunk-init
loop-chunk-init c =
    let bytes = c.args.bytes.now in
    let left = c.into_iter-chunk-iterator.result.rest.now in
    let behind : left ≡ drop 64 bytes =
    ap (λ i. i.rest.now) c.into_iter-chunk-iterator.ensures.into_iter_gives ∙ c.chunks_exact-chunk-items.ensures.rest ∙ c.split_at.ensures.back in
    let first = chunks_start c.from.result bytes c.load.new.words left (omega arith) (ap (drop 16) c.load.ensures ∙ ap words_of c.split_at.ensures.front) behind in
    record {
      size = ap (λ i. i.size) c.into_iter-chunk-iterator.ensures.into_iter_gives ∙ c.chunks_exact-chunk-items.ensures.size;
      whole = omega (arith, ap length behind, length-drop 64 bytes);
      half = first.0;
      gives = first.1 ∙ ap (λ s. chunks_folded s bytes) c.from.ensures;
    }

pub loop-chunk-preserved : goal.loop-chunk-preserved
loop-chunk-preserved c =
    let chunk = c.in-Some.chunk.now in
    let left = c.next.new.self.rest.now in
    let step = c.in-Some.ensures.steps in
    let next = chunks_turn chunk left c.loop-chunk.words c.lower.new.words c.load-in-loop-chunk.new.words c.fold.new.words (step.1.1 ∙ c.loop-chunk.invariant.size) c.loop-chunk.invariant.half c.lower.ensures c.load-in-loop-chunk.ensures c.fold.ensures in
    record {
      size = step.0 ∙ c.loop-chunk.invariant.size;
      whole = omega (arith, step.1.1, ap length step.1.0, length-append chunk left);
      half = next.0;
      gives =
          next.1
          ∙ sym (ap (λ l. folded_through (length l / 64) (drop 16 c.loop-chunk.words) l) step.1.0)
          ∙ c.loop-chunk.invariant.gives;
    }

pub returns : goal.returns
returns c =
    c.low_bytes.ensures
    ∙ chunks_end c.args.start c.args.bytes.now c.loop-chunk.chunk-iterator.rest.now c.loop-chunk.words c.halve.new.words c.fold-2.new.words c.halve-2.new.words c.fold-3.new.words
    (omega (arith, c.in-None.ensures.steps.1.0))
    c.loop-chunk.invariant.whole
    c.loop-chunk.invariant.gives
    c.halve.ensures
    c.fold-2.ensures
    c.halve-2.ensures
    c.fold-3.ensures

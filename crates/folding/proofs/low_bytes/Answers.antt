-- `folding::low_bytes` meets its contract. The invariant: the first i bytes are in place. Assumes nothing.
use mathlib.Core.Path.{refl, ◌∙◌}
use lib.ListN.{drop}
use Rattle.folding.specs.Folding.{low_bytes}
use Rattle.folding.proofs.Turns.{length_upper, length_low_bytes, copy_all, low_turn}
use Rattle.folding.proofs.low_bytes.Goals as goal

pub loop-i-preserved : goal.loop-i-preserved
loop-i-preserved c =
    low_turn _ c.args.words.now 16 _ _ refl c.told-words c.loop-i-test.true c.loop-i.invariant

pub returns : goal.returns
returns c =
    let words = c.args.words.now in
    copy_all _ 0 (low_bytes (drop 16 words)) 16 _ _ (length_low_bytes (drop 16 words) ∙ length_upper words 16 c.told-words) refl c.loop-i.auto.i-end c.loop-i-test.false c.loop-i.invariant

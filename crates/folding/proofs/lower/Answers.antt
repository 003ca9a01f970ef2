-- `folding::lower` meets its contract. The invariant: the first i words are those of the upper half. Assumes nothing.
use Rattle.folding.proofs.Turns.{lower_turn}
use Rattle.folding.proofs.lower.Goals as goal

pub loop-i-preserved : goal.loop-i-preserved
loop-i-preserved c = lower_turn c.args.words.now 16 _ _ c.told-words c.loop-i-test.true c.loop-i.invariant

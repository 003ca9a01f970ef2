-- `folding::halve` meets its contract. The invariant: the digits of the first i words are in place. Assumes nothing.
use Rattle.folding.proofs.Turns.{halve_turn, halve_end}
use Rattle.folding.proofs.halve.Goals as goal

pub loop-i-preserved : goal.loop-i-preserved
loop-i-preserved c = halve_turn c.args.words.now _ 16 _ _ c.told-words c.loop-i-test.true c.loop-i.invariant

pub returns : goal.returns
returns c =
    halve_end c.args.words.now _ 16 _ _ c.told-words c.loop-i.auto.i-end c.loop-i-test.false c.loop-i.invariant

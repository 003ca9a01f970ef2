-- `folding::load` meets its contract. The invariant: the first i words of the chunk are in place. Assumes nothing.
use Rattle.folding.specs.Folding.{words_of}
use Rattle.folding.proofs.Turns.{length_words_of, copy_all, load_turn}
use Rattle.folding.proofs.load.Goals as goal

pub loop-i-preserved : goal.loop-i-preserved
loop-i-preserved c =
    load_turn c.args.words.now c.args.chunk.now 16 _ _ _ c.told-words c.requires c.loop-i-test.true c.word.ensures c.loop-i.invariant

pub returns : goal.returns
returns c =
    let chunk = c.args.chunk.now in
    copy_all c.args.words.now 16 (words_of chunk) 16 _ _ (length_words_of chunk 16 c.requires) c.told-words c.loop-i.auto.i-end c.loop-i-test.false c.loop-i.invariant

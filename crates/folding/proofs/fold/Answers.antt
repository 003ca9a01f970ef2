-- `folding::fold` meets its contract. The invariant: what is left of the fold, at the words from i on, gives the whole. Assumes nothing.
use mathlib.Core.Path.{◌∙◌}
use Rattle.folding.proofs.Turns.{fold_turn, fold_end}
use Rattle.folding.proofs.fold.Goals as goal

pub loop-i-preserved : goal.loop-i-preserved
loop-i-preserved c = fold_turn 16 _ _ c.loop-i-test.true ∙ c.loop-i.invariant

pub returns : goal.returns
returns c = fold_end 16 _ _ _ c.loop-i.auto.i-end c.loop-i-test.false c.loop-i.invariant

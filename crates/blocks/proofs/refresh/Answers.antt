-- `blocks::refresh` meets its contract. Assumes nothing.
use mathlib.Core.Path.{◌∙◌}
use native.Mathlib.Omega.{arith}
use Rattle.blocks.proofs.Turns.{refresh_nothing, refresh_start, refresh_turn, refresh_end}
use Rattle.blocks.proofs.refresh.Goals as goal

pub returns-then-count-eq0 : goal.returns-then-count-eq0
returns-then-count-eq0 c = refresh_nothing _ _ _ _ c.if-count-eq0.true

pub loop-k-init : goal.loop-k-init
loop-k-init c = refresh_start _ _ _ _

pub loop-k-preserved : goal.loop-k-preserved
loop-k-preserved c =
    refresh_turn _ _ _ _ _ _ (omega arith) (omega arith) (omega arith) (omega arith) c.block_sum.ensures ∙ c.loop-k.invariant

pub returns : goal.returns
returns c = refresh_end _ _ _ _ _ (omega arith) ∙ c.loop-k.invariant

-- `crc::carry` meets its contract. The invariant: what is carried so far, after the steps that are left, with the product
-- of the digits that are left is the whole product. Assumes nothing.
use mathlib.Core.Path.{◌∙◌}
use Rattle.crc.proofs.Turns.{product_start, product_turn, product_end}
use Rattle.crc.proofs.carry.Goals as goal

pub loop-init : goal.loop-init
loop-init c = product_start c.args.sum c.args.power

pub loop-preserved : goal.loop-preserved
loop-preserved c =
    product_turn 16 _ _ _ _ _ _ c.loop-test.true c.bit_step.ensures c.gated.ensures ∙ c.loop.invariant

pub returns : goal.returns
returns c = product_end 16 _ _ _ _ c.loop-test.false ∙ c.loop.invariant

-- `blocks::gap::across` meets its contract. The table's test stands here: each entry of the constant is compared with the
-- product that carries over the gap. Assumes nothing.
use Rattle.std.proofs.Common.{◌∙◌}
use Rattle.crc.specs.Sum.{bit_step, bit_steps}
use Rattle.crc.specs.Joining.{product}
use Rattle.blocks.proofs.Crossing.{products, the_gap's_table}
use Rattle.blocks.proofs.Turns.{join_turn, join_end}
use Rattle.blocks.proofs.gap.across.Goals as goal

pub cross-requires : goal.cross-requires
unfolding products product bit_steps bit_step
cross-requires c = the_gap's_table

pub loop-next-preserved : goal.loop-next-preserved
loop-next-preserved c = join_turn _ _ _ _ c.loop-next-test.true c.cross.ensures ∙ c.loop-next.invariant

pub returns : goal.returns
returns c = join_end _ _ _ c.loop-next-test.false ∙ c.loop-next.invariant

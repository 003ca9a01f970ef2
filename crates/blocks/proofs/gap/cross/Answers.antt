-- `blocks::gap::cross` meets its contract: each digit's entry of the table. Assumes nothing.
use Rattle.blocks.proofs.Crossing.{by_the_gap's_table}
use Rattle.blocks.proofs.gap.cross.Goals as goal

pub returns : goal.returns
returns c = by_the_gap's_table _ c.args.sum c.ranges.sum.fits c.requires

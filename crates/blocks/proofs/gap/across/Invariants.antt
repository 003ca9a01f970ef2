-- `blocks::gap::across` meets its contract. The invariant: the sum so far goes on over the blocks that are left. Assumes nothing.
use Rattle.std.proofs.Common.{◌≡◌, drop}
use Rattle.blocks.specs.Fram.{joined_blocks}
use Rattle.blocks.proofs.gap.across.Given as goal

abbrev pub invariant-loop-next : goal.invariant-loop-next
invariant-loop-next l = joined_blocks l.sum (drop l.next-index l.sums) ≡ joined_blocks l.start l.sums

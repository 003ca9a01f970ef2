-- `blocks::range_sum` meets its contract, by one law for a range that covers no block and one for any other. Assumes
-- nothing.
use mathlib.Core.Path.{refl, ◌∙◌}
use native.Mathlib.Omega.{arith}
use Rattle.blocks.proofs.Ranges.{a_range_that_covers_no_block, a_range_that_covers_blocks}
use Rattle.blocks.proofs.range_sum.Goals as goal

pub returns-then-end-first : goal.returns-then-end-first
returns-then-end-first c =
    let given = c.requires in
    c.sum.ensures ∙ a_range_that_covers_no_block _ _ _ _ given.0 given.1 given.2 (omega arith)

pub returns : goal.returns
returns c =
    let given = c.requires in
    a_range_that_covers_blocks _ _ _ _ _ _ _ _ _ given.0 given.1 given.2 (omega arith) refl c.if-end-first.false c.sum-head.ensures
    c.across-covered.ensures c.sum_from.ensures

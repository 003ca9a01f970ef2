-- `fram_commands::cost::field_cost` meets its contract, and what it gives has 32 bits. Assumes nothing.
use Rattle.std.proofs.Common.{◌+◌, arith}
use Rattle.blocks.proofs.Counting.{no_range_costs_more_than_by_its_size}
use Rattle.fram_commands.proofs.Costs.{the_cost_by_addresses}
use Rattle.fram_commands.proofs.cost.field_cost.Goals as goal

pub overflow_cast-result : goal.overflow_cast-result
overflow_cast-result c =
    let at = c.saturating_sub-at.result in
    omega (arith, c.range_cost.ensures, no_range_costs_more_than_by_its_size at (at + (c.saturating_sub.result + 1)))

pub returns : goal.returns
returns c =
    the_cost_by_addresses _ _ _ _ _ _ _ c.word32-from.ensures c.word32-last.ensures
    c.first_of.ensures
    c.saturating_sub-at.ensures c.saturating_sub.ensures c.range_cost.ensures

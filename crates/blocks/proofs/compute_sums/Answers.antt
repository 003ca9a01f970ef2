-- `blocks::compute_sums` meets its contract: to refresh what the whole memory touches is to compute all sums. Assumes
-- nothing.
use mathlib.Core.Path.{◌∙◌}
use Rattle.blocks.proofs.Refreshing.{all_refreshed_is_fresh}
use Rattle.blocks.proofs.compute_sums.Goals as goal

pub returns : goal.returns
returns c =
    c.refresh.ensures ∙ all_refreshed_is_fresh _ _ c.requires

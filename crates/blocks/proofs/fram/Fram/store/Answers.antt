-- `blocks::fram::Fram::store` meets its contract, by those of `put` and `refresh`. Assumes nothing.
use Rattle.blocks.proofs.Refreshing.{put_and_refreshed}
use Rattle.blocks.proofs.fram.Fram.store.Goals as goal

pub returns-clause-stored : goal.returns-clause-stored
returns-clause-stored c = put_and_refreshed _ _ _ _ _ _ c.put.ensures c.refresh.ensures

-- `crc::by_chunks` meets its contract: sixteen bytes stand for the whole chunks, and what is left comes
-- behind them. Assumes nothing.
use native.Mathlib.Omega.{arith}
use Rattle.crc.proofs.Words.{each_below}
use Rattle.crc.proofs.Chunks.{chunks_and_more}
use Rattle.crc.proofs.by_chunks.Goals as goal

pub returns : goal.returns
returns c =
    chunks_and_more c.args.start _ _ c.args.bytes.now _ _ _ (omega arith) (each_below 8 c.args.bytes.now (λ i _. (c.type_inv.bytes i).fits)) c.ranges.start.fits c.split_at.ensures.front c.split_at.ensures.back c.reduce.ensures c.few.ensures c.by_table.ensures

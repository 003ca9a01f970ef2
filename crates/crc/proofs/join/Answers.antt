-- `crc::join` meets its contract, by one law for each of its two answers. Assumes nothing.
use borrow.Author.Rules.{rules}
use Rattle.crc.proofs.Joining.{join_refuses, join_joins}
use Rattle.crc.proofs.join.Goals as goal

pub returns-in_err-len : goal.returns-in_err-len
returns-in_err-len c =
    join_refuses _ _ _ c.from_residual.ensures.0 (rw c.in_err-len.ensures.ok_part at c.checked_add.ensures)

pub returns : goal.returns
returns c =
    let added = rw c.in_ok-len.ensures.ok_part at c.checked_add.ensures in
    join_joins _ _ _ _ _ (search rules) added.0 added.1 c.power.ensures c.carry-carried.ensures

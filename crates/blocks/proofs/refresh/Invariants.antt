-- `blocks::refresh` meets its contract. The invariant: the sums before block k are as they shall be, and the rest as
-- they were. Assumes nothing.
use Rattle.std.proofs.Common.{◌≡◌, ◌++◌, take, drop}
use Rattle.blocks.specs.Fram.{refreshed}
use Rattle.blocks.proofs.refresh.Given as goal

abbrev pub invariant-loop-k : goal.invariant-loop-k
invariant-loop-k l =
    take l.k l.sums ++ refreshed l.fram l.at l.count l.k (drop l.k l.sums) ≡ refreshed l.fram l.at l.count 0 l.initial.sums

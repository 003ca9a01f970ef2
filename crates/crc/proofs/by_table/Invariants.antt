-- `crc::by_table` meets its contract. The invariant: the sum so far goes on over the bytes that are left. Assumes nothing.
use mathlib.Core.Path.{◌≡◌}
use Prim.Native.Nat.{◌*◌}
use lib.ListN.{drop}
use Rattle.crc.specs.Sum.{sum_from}
use Rattle.crc.proofs.by_table.Given as goal

abbrev pub invariant-loop-low : goal.invariant-loop-low
invariant-loop-low l = sum_from l.sum (drop (l.low-index * 2) l.bytes) ≡ sum_from l.start l.bytes

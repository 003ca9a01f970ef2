-- `crc::few` meets its contract. The invariant: the sum so far goes on over the bytes that are left. Assumes nothing.
use mathlib.Core.Path.{◌≡◌}
use lib.ListN.{drop}
use Rattle.crc.specs.Sum.{sum_from}
use Rattle.crc.proofs.few.Given as goal

abbrev pub invariant-loop-byte : goal.invariant-loop-byte
invariant-loop-byte l = sum_from l.sum (drop l.byte-index l.bytes) ≡ sum_from 0 l.bytes

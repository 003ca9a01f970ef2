-- `edac_commands::gather::ranges_taken` meets its contract. The invariant: what is left of the list is taken with what is free if the
-- whole is with the room. Assumes nothing.
use mathlib.Core.Path.{◌≡◌}
use Prim.Native.Nat.{◌-◌}
use lib.ListN.{length, drop}
use Rattle.edac_commands.specs.Gather.{ranges}
use Rattle.edac_commands.proofs.Lists.{taken}
use Rattle.edac_commands.proofs.gather.ranges_taken.Given as goal

abbrev pub invariant-loop-reader : goal.invariant-loop-reader
invariant-loop-reader l = taken l.free (ranges (drop l.reader.at l.reader.field.now)) ≡ taken l.room (ranges (drop l.list.at l.list.field.now))

abbrev pub decreases-loop-reader : goal.decreases-loop-reader
decreases-loop-reader l = length l.reader.field.now - l.reader.at

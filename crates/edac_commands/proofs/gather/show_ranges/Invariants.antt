-- `edac_commands::gather::show_ranges` meets its contract. The invariant: of the whole reply so much is written. Assumes nothing.
use mathlib.Core.Path.{◌≡◌}
use Prim.Native.Nat.{◌+◌, ◌-◌, ◌≤◌}
use lib.ListN.{length, drop}
use Rattle.edac_commands.specs.Gather.{ranges, ranges_width, ranges_shown}
use Rattle.carrying.proofs.Writing.{Written}
use Rattle.edac_commands.proofs.gather.show_ranges.Given as goal

abbrev pub invariant-loop-reader : goal.invariant-loop-reader
invariant-loop-reader l =
    (length l.reply ≡ length l.initial.reply)
    × (l.place + ranges_width (ranges (drop l.reader.at l.reader.field.now)) ≤ length l.initial.reply)
    × Written l.initial.reply (ranges_shown l.edac (ranges (drop l.list.at l.list.field.now))) (ranges_shown l.edac (ranges (drop l.reader.at l.reader.field.now))) l.reply l.place

abbrev pub decreases-loop-reader : goal.decreases-loop-reader
decreases-loop-reader l = length l.reader.field.now - l.reader.at

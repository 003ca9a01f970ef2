-- `file_commands::read_file::files_fit` meets its contract. The invariant: what is left of the list fits in what is free if the whole
-- fits in the room. Assumes nothing.
use mathlib.Core.Path.{◌≡◌}
use Prim.Native.Nat.{◌-◌}
use lib.Dec.{leb}
use lib.ListN.{length, drop}
use Rattle.file_commands.specs.ReadFile.{files_width}
use Rattle.file_commands.proofs.read_file.files_fit.Given as goal

abbrev pub invariant-loop-reader : goal.invariant-loop-reader
invariant-loop-reader l = leb (files_width (drop l.reader.at l.reader.field.now)) l.free ≡ leb (files_width (drop l.list.at l.list.field.now)) l.room

abbrev pub decreases-loop-reader : goal.decreases-loop-reader
decreases-loop-reader l = length l.reader.field.now - l.reader.at

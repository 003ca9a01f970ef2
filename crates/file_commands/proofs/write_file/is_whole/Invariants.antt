-- `file_commands::write_file::is_whole` meets its contract. The invariant: what is left of the list decides the whole. Assumes nothing.
use mathlib.Core.Path.{◌≡◌}
use Prim.Native.Nat.{◌-◌}
use lib.ListN.{length, drop}
use Rattle.field.specs.Reading.{is_whole}
use Rattle.file_commands.specs.WriteFile.{listed}
use Rattle.file_commands.proofs.write_file.is_whole.Given as goal

abbrev pub invariant-loop-reader : goal.invariant-loop-reader
invariant-loop-reader l = is_whole (listed (drop l.reader.at l.reader.field.now)) ≡ is_whole (listed (drop l.list.at l.list.field.now))

abbrev pub decreases-loop-reader : goal.decreases-loop-reader
decreases-loop-reader l = length l.reader.field.now - l.reader.at

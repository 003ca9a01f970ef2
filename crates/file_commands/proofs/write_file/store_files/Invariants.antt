-- `file_commands::write_file::store_files` meets its contract. The invariant: storing what is left gives what the list shall store.
-- Assumes nothing.
use mathlib.Core.Path.{◌≡◌}
use Prim.Native.Nat.{◌-◌}
use lib.ListN.{length, drop}
use Rattle.memory.specs.Edac.{edac_size}
use Rattle.file_commands.specs.WriteFile.{listed, files_stored}
use Rattle.file_commands.proofs.write_file.store_files.Given as goal

abbrev pub invariant-loop-reader : goal.invariant-loop-reader
invariant-loop-reader l =
    (length l.edac ≡ edac_size) × (files_stored l.edac (listed (drop l.reader.at l.reader.field.now)) ≡ files_stored l.initial.edac (listed (drop l.list.at l.list.field.now)))

abbrev pub decreases-loop-reader : goal.decreases-loop-reader
decreases-loop-reader l = length l.reader.field.now - l.reader.at

-- `file_commands::showing::show_files` meets its contract. The invariant: of the whole reply so much is written as of the list is passed.
-- Assumes nothing.
use mathlib.Core.Path.{◌≡◌}
use Prim.Native.Nat.{◌+◌, ◌-◌, ◌≤◌}
use lib.ListN.{length, drop}
use Rattle.field.specs.Reading.{structures}
use Rattle.carrying.proofs.Writing.{Written}
use Rattle.file_commands.specs.ReadFile.{files_shown, files_width}
use Rattle.file_commands.specs.WriteFile.{files_of}
use Rattle.file_commands.proofs.showing.show_files.Given as goal

abbrev pub invariant-loop-reader : goal.invariant-loop-reader
invariant-loop-reader g l =
    (length l.reply ≡ length l.initial.reply)
    × (l.place + files_width (files_of (structures g.S.Structure.wide (drop l.reader.at l.reader.field.now))) ≤ length l.initial.reply)
    × Written l.initial.reply (files_shown l.edac (files_of (structures g.S.Structure.wide (drop l.list.at l.list.field.now))))
    (files_shown l.edac (files_of (structures g.S.Structure.wide (drop l.reader.at l.reader.field.now)))) l.reply l.place

abbrev pub decreases-loop-reader : goal.decreases-loop-reader
decreases-loop-reader g l = length l.reader.field.now - l.reader.at

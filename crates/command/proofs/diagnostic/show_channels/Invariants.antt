-- `command::diagnostic::show_channels` meets its contract. The invariant: of the whole reply so much is written, five bytes for
-- each channel passed. Assumes nothing.
use Rattle.std.proofs.Common.{◌≡◌, ◌*◌, true, drop}
use Rattle.command.specs.Diagnostic.{all_channels, channels_shown}
use Rattle.carrying.proofs.Writing.{Written}
use Rattle.command.proofs.diagnostic.show_channels.Given as goal

abbrev pub invariant-loop-i : goal.invariant-loop-i
invariant-loop-i l =
    (all_channels (drop l.i l.field) ≡ true)
    × Written l.initial.reply (channels_shown l.diagnostics l.field) (channels_shown l.diagnostics (drop l.i l.field)) l.reply (5 * l.i)

-- `command::diagnostic::diagnostic` meets its contract, by one law for each of its four ways. Assumes nothing.
use Rattle.std.proofs.Common.{sym}
use Rattle.carrying.proofs.Writing.{it_is_done, it_is_refused}
use Rattle.command.proofs.Ways.{no_channels, channels_without_room, channels_are_shown, another_channel}
use Rattle.command.proofs.Channels.{length_of_shown_channels}
use Rattle.command.proofs.diagnostic.diagnostic.Goals as goal
use Rattle.command.proofs.diagnostic.diagnostic.Goals.{then-count-eq0-via-then-count-eq0, then-count-eq0-via-else-count-eq0+then-room-count, then-count-eq0-via-else-count-eq0+else-room-count+then-not-are_channels}

pub returns-then-count-eq0 : goal.returns-then-count-eq0
returns-then-count-eq0 c =
    elim c.then-count-eq0.branch [
      | then-count-eq0-via-then-count-eq0 w ↦ it_is_refused _ _ _ (no_channels _ _ _ w.if-count-eq0.true)
      | then-count-eq0-via-else-count-eq0+then-room-count w ↦ it_is_refused _ _ _ (channels_without_room _ _ _ w.if-count-eq0.false w.if-room-count.true)
      | then-count-eq0-via-else-count-eq0+else-room-count+then-not-are_channels w ↦
          it_is_refused _ _ _ (another_channel _ _ _ w.if-count-eq0.false w.if-room-count.false (sym w.if-not-are_channels.ensures))
    ]

pub returns : goal.returns
returns c =
    it_is_done _ _ _ _ _ tt tt
    (channels_are_shown _ _ _ c.if-count-eq0.false c.if-room-count.false (sym c.if-not-are_channels.ensures))
    (length_of_shown_channels _ _)
    c.show_channels.ensures

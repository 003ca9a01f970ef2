-- `command::ping::ping` meets its contract: the text in one piece. Assumes nothing.
use mathlib.Core.Path.{refl, ◌∙◌}
use Rattle.command.specs.Ping.{ping_text, ping_of}
use Rattle.carrying.proofs.Writing.{one_write, it_is_done}
use Rattle.command.proofs.ping.ping.Goals as goal

pub returns : goal.returns
returns c = it_is_done ping_of ping_text _ _ 17 tt tt refl refl (c.put.ensures ∙ one_write _ _)

-- `command::diagnostic::show_channel` meets its contract. Assumes nothing.
use Rattle.std.proofs.Common.{◌+◌, set, ap, ◌∙◌, arith}
use Rattle.memory.specs.Bytes.{stored}
use Rattle.memory.proofs.Stretches.{a_byte_then_a_store}
use Rattle.command.proofs.diagnostic.show_channel.Goals as goal

pub returns : goal.returns
returns c =
    let a = c.args in
    c.put.ensures ∙ ap (stored (set a.reply.now a.at a.channel) (a.at + 1)) c.to_le_bytes.ensures ∙ a_byte_then_a_store a.reply.now a.at a.channel _ (omega arith)

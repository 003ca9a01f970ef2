-- `replying::send` meets its contract: the message is sealed, and of legal length, so it is packed. Assumes nothing.
use Rattle.std.proofs.Common.{cond}
use Rattle.replying.proofs.Sealing.{the_reply_is_sent, the_reply_has_room}
use Rattle.replying.proofs.send.Goals as goal

pub unwrap-requires : goal.unwrap-requires
unwrap-requires c =
    let a = c.args in
    the_reply_has_room a.made.now a.reply.now _ a.size (cond a.ack 1 0) a.destination a.source a.control _ _ c.pack.result
    c.requires.1 c.requires.0 c.requires.2 c.control_of.ensures c.sum-sum.ensures c.pack.ensures

pub returns : goal.returns
returns c =
    let a = c.args in
    the_reply_is_sent a.made.now a.reply.now _ a.size (cond a.ack 1 0) a.destination a.source a.control _ _ c.pack.result
    c.requires.1 c.requires.0 c.requires.2 c.control_of.ensures c.sum-sum.ensures c.pack.ensures _ c.unwrap.ensures

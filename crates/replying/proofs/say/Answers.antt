-- `replying::say` meets its contract: a refused command that polls is answered with its own data. Assumes nothing.
use mathlib.Core.Path.{◌≡◌, ap, ◌∙◌}
use Prim.Native.Nat.{◌-◌}
use native.Mathlib.Omega.{arith}
use lib.ListN.{length, get_or}
use Rattle.std.proofs.Common.{rules, Err}
use Rattle.carrying.specs.declared.CommandError.TheVariants as failed
use Rattle.line.specs.Packing.{packed_of}
use Rattle.memory.specs.Bytes.{stretch, begun}
use Rattle.replying.specs.Replies.{reply_message}
use Rattle.replying.proofs.Saying.{refused_aloud, the_field_stands}
use Rattle.replying.proofs.say.Goals as goal

pub returns-else-control-lt-POLLED : goal.returns-else-control-lt-POLLED
returns-else-control-lt-POLLED c =
    let a = c.args in
    let m = a.message.now in
    let refused : a.ended ≡ Err failed.Refused = search rules in
    let field = the_field_stands a.made.now m _ a.count (omega arith) (omega arith) (omega arith) c.put.ensures in
    refused_aloud a.ended (get_or m 0 0) (get_or m 1 0) (get_or m 2 0) (stretch 3 (a.count - 5) m) a.made.now a.reply.now _ _
    refused c.if-control-lt-POLLED.false
    (c.send.ensures.0 ∙ ap (λ f. length (packed_of (reply_message 0 (get_or m 0 0) (get_or m 1 0) (get_or m 2 0) f))) field)
    (c.send.ensures.1 ∙ ap (λ f. begun a.reply.now (packed_of (reply_message 0 (get_or m 0 0) (get_or m 1 0) (get_or m 2 0) f))) field)

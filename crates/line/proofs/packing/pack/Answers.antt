-- `line::packing::pack` meets its contract: `Laid` is kept, and at the message's end all is laid. The room is enough for the longest
-- message, so no test of it is made. Assumes nothing.
use borrow.Author.Rules.{rules}
use native.Mathlib.Omega.{arith}
use lib.ListN.{length-set}
use Rattle.line.proofs.Laying.{a_byte_finds_room, a_byte_more_is_laid, the_last_place, the_last_byte_is_within_the_room, all_is_laid, a_laid_message_is_sent}
use Rattle.line.proofs.packing.pack.Goals as goal

pub put-at-requires : goal.put-at-requires
put-at-requires c =
    let laid = c.loop-i.invariant in
    (a_byte_finds_room _ _ _ _ _ laid (search rules) (search rules), omega (arith, simp length-set at laid.long))

pub loop-i-preserved : goal.loop-i-preserved
loop-i-preserved c =
    a_byte_more_is_laid _ _ _ _ _ c.loop-i.invariant (search rules) _ _ c.put-at.ensures.0 c.put-at.ensures.1

pub bounds-reply-end : goal.bounds-reply-end
bounds-reply-end c =
    let laid = c.loop-i.invariant in
    omega (arith, the_last_byte_is_within_the_room _ _ _ _ _ laid (search rules) (search rules), simp length-set at laid.long)

pub overflow_add-result : goal.overflow_add-result
overflow_add-result c =
    let laid = c.loop-i.invariant in
    omega (arith, the_last_byte_is_within_the_room _ _ _ _ _ laid (search rules) (search rules))

pub returns : goal.returns
returns c =
    let laid = c.loop-i.invariant in
    a_laid_message_is_sent _ _ (search rules) (search rules) (search rules) _ _
    (the_last_place _ _ _ _ _ laid (search rules))
    (all_is_laid _ _ _ _ _ laid (search rules))

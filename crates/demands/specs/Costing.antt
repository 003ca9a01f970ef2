-- What a call with a byte says that it cost: 02, T-13. Assumes nothing.
use Rattle.std.specs.Prelude.{◌≡◌, ◌⊎◌, ◌+◌, ◌≤◌, max, length, get_or}
use Rattle.answer.specs.Answers.{number_of}
use Rattle.replying.specs.Replies.{code_of}
use Rattle.ports.specs.declared.Side.{Side}
use Rattle.commanding.specs.World.{World, message_of, Outcome}

-- By its answer, by the message that the buffer of its port then holds, and by the number of blocks of what was lent, one sum for each.
pub record Costs (side : Side) (w : World) (o : Outcome) : Type 0 where
  -- 0 for every answer but a CRC command that is done: for all but 1 and 2, and for every other code than 0x06.
  pub nothing_unless_a_command_is_done : (number_of o.answer ≡ 1 → ⊥) → (number_of o.answer ≡ 2 → ⊥) → o.cost ≡ 0
  pub nothing_unless_it_is_crc : (code_of (get_or (message_of side o.world) 2 0) ≡ 0x06 → ⊥) → o.cost ≡ 0
  -- And a CRC command that is done costs something.
  pub something_of_a_crc_that_is_done : (number_of o.answer ≡ 1) ⊎ (number_of o.answer ≡ 2) → code_of (get_or (message_of side o.world) 2 0) ≡ 0x06 → 1 ≤ o.cost
  -- Never more than 508 above the number of blocks of the larger FRAM, and so for one memory at most 1,532.
  pub by_the_larger_fram : o.cost ≤ max (length w.frams.bootloader.sums) (length w.frams.user.sums) + 508
  pub at_most_1532 : o.cost ≤ 1532

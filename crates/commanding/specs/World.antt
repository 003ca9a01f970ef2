-- What is lent to a call, and what a call leaves. 01, "The unit and its neighbours"; 02, T-01, T-07 and T-13. Assumes nothing.
use Rattle.std.specs.Prelude.{ℕ, List, length}
use Rattle.blocks.specs.Fram.{Kept}
use Rattle.carrying.specs.Held.{Frams, frams, Standing, standing, Held, held}
use Rattle.judging.specs.declared.Unit.{Unit}
use Rattle.answer.specs.declared.Answer.{Answer}
use Rattle.ports.specs.declared.Side.{Side}
use Rattle.ports.specs.declared.Side.TheVariants.{Zero}
use Rattle.ports.specs.declared.Both.{Both}
use Rattle.ports.specs.Sides.{both, of_side, put}
use Rattle.commanding.specs.declared.Stepped.{Stepped}
use Rattle.judging.specs.declared.Lengths.{Lengths}

-- The message buffers and the reply buffers, one of each for each port.
pub record Buffers : Type 0 where
  pub messages : Both (List ℕ)
  pub replies : Both (List ℕ)

abbrev pub buffers : Both (List ℕ) → Both (List ℕ) → Buffers
buffers messages replies = record { messages = messages; replies = replies }

-- EDAC memory, the two FRAMs with their sums, the diagnostics and the buffers.
pub record World : Type 0 where
  pub edac : List ℕ
  pub frams : Frams
  pub diagnostics : List ℕ
  pub buffers : Buffers

-- All that is lent, in the order in which every call is lent it.
abbrev pub world : List ℕ → Kept → Kept → List ℕ → List ℕ → List ℕ → List ℕ → List ℕ → World
world edac bootloader user diagnostics message0 reply0 message1 reply1 =
    record { edac = edac; frams = frams bootloader user; diagnostics = diagnostics; buffers = buffers (both message0 message1) (both reply0 reply1) }

-- The message buffer and the reply buffer of a port.
abbrev pub message_of : Side → World → List ℕ
message_of side w = of_side side w.buffers.messages

abbrev pub reply_of : Side → World → List ℕ
reply_of side w = of_side side w.buffers.replies

abbrev pub lengths_of : World → Lengths
lengths_of w = record {
  edac = length w.edac;
  bootloader = length w.frams.bootloader.fram;
  bootloader_sums = length w.frams.bootloader.sums;
  fram = length w.frams.user.fram;
  sums = length w.frams.user.sums;
  diagnostics = length w.diagnostics;
  message0 = length w.buffers.messages.port0;
  reply0 = length w.buffers.replies.port0;
  message1 = length w.buffers.messages.port1;
  reply1 = length w.buffers.replies.port1;
}

-- What a call leaves: the unit, its answer, beside it what a command cost and the port on which its reply leaves, and all that was lent.
pub record Outcome : Type 0 where
  pub unit : Unit
  pub answer : Answer
  pub cost : ℕ
  pub port : Side
  pub world : World

-- One that cost nothing and of which nothing leaves (port 0 stands for none), and the same at a cost and on a port.
abbrev pub outcome : Unit → Answer → World → Outcome
outcome u answer w = record { unit = u; answer = answer; cost = 0; port = Zero; world = w }

abbrev pub costing : ℕ → Side → Outcome → Outcome
costing cost port o = record { unit = o.unit; answer = o.answer; cost = cost; port = port; world = o.world }

-- What is given back of an answer that cost nothing and of which nothing leaves.
abbrev pub stepped_as : Unit → Answer → Stepped
stepped_as u answer = record { unit = u; answer = answer; cost = 0; port = Zero }

-- What a call gives back, with all that was lent as it leaves it.
abbrev pub outcome_of : Stepped → World → Outcome
outcome_of r w = costing r.cost r.port (outcome r.unit r.answer w)

-- ---- one thing changed, and nothing else

abbrev pub with_edac : World → List ℕ → World
with_edac w edac = record { edac = edac; frams = w.frams; diagnostics = w.diagnostics; buffers = w.buffers }

abbrev pub with_frams : World → Frams → World
with_frams w frams = record { edac = w.edac; frams = frams; diagnostics = w.diagnostics; buffers = w.buffers }

abbrev pub with_diagnostics : World → List ℕ → World
with_diagnostics w diagnostics = record { edac = w.edac; frams = w.frams; diagnostics = diagnostics; buffers = w.buffers }

abbrev pub with_messages : World → Both (List ℕ) → World
with_messages w messages = record { edac = w.edac; frams = w.frams; diagnostics = w.diagnostics; buffers = buffers messages w.buffers.replies }

abbrev pub with_replies : World → Both (List ℕ) → World
with_replies w replies = record { edac = w.edac; frams = w.frams; diagnostics = w.diagnostics; buffers = buffers w.buffers.messages replies }

-- The message buffer of one port.
abbrev pub with_message : Side → World → List ℕ → World
with_message side w message = with_messages w (put side w.buffers.messages message)

-- What commands can change: the unit's part of it, and what is lent.
abbrev pub with_standing : Unit → Standing → Unit
with_standing u after = record {
  strap = u.strap;
  limit = u.limit;
  mode = after.mode;
  locked = after.locked;
  bootloader_len = u.bootloader_len;
  fram_len = u.fram_len;
  ports = u.ports;
}

abbrev pub held_of : Unit → World → Held
held_of u w = held (standing u.mode u.locked w.diagnostics) w.edac w.frams

abbrev pub with_held : World → Held → World
with_held w after = record { edac = after.edac; frams = after.frams; diagnostics = after.standing.diagnostics; buffers = w.buffers }

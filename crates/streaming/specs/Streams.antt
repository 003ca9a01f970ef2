-- Many bytes a call: they are given to the unit one by one, up to the first answer other than 0. 01, "One byte in, one answer out". Assumes nothing.
use Rattle.std.specs.Prelude.{ℕ, ◌+◌, cond, List, [], ◌∷◌, eqb}
use Rattle.answer.specs.declared.Answer.{Answer}
use Rattle.answer.specs.declared.Answer.TheVariants.{Taken}
use Rattle.answer.specs.Answers.{number_of}
use Rattle.ports.specs.declared.Both.{Both}
use Rattle.ports.specs.Sides.{side_of}
use Rattle.ports.specs.Ports.{Sending, port_of, with_port}
use Rattle.listening.specs.Listening.{listen_on_of}
use Rattle.judging.specs.declared.Unit.{Unit}
use Rattle.judging.specs.Judging.{largest_message, with_ports}
use Rattle.commanding.specs.World.{World, Outcome, outcome, stepped_as, outcome_of}
use Rattle.unit.specs.Steps.{step_of}
use Rattle.streaming.specs.declared.Quiet.{Quiet}
use Rattle.streaming.specs.declared.Many.{Many}

-- ---- the call

-- What many bytes leave: how many were taken, and what the last of them left.
pub record Stream : Type 0 where
  pub taken : ℕ
  pub last : Outcome

abbrev pub stream : ℕ → Outcome → Stream
stream taken last = record { taken = taken; last = last }

-- The same, with so many bytes before it.
abbrev pub behind : ℕ → Stream → Stream
behind n rest = stream (n + rest.taken) rest.last

-- What is given back, with all that was lent as it is left.
abbrev pub stream_of : Many → World → Stream
stream_of r w = stream r.taken (outcome_of r.last w)

-- The bytes one by one, each from where the one before it left the unit and all that is lent. One whose answer is not 0 is the last that is taken; where
-- there is none all are, and the answer is 0.
abbrev pub steps_of : Unit → ℕ → List ℕ → Sending → World → Stream
steps_of u number [] sending w = stream 0 (outcome u Taken w)
steps_of u number (byte ∷ bytes) sending w =
    let o = step_of u number byte sending w in
    cond (eqb (number_of o.answer) 0) (behind 1 (steps_of o.unit number bytes sending o.world)) (stream 1 o)

-- ---- the ways in which it ends

-- What is given back where all bytes were only taken, and where the call is refused: its first byte is lost, if it has one.
abbrev pub taken_of : Unit → ℕ → Many
taken_of u taken = record { last = stepped_as u Taken; taken = taken }

abbrev pub refused_of : Unit → Answer → ℕ → Many
refused_of u answer bytes = cond (eqb bytes 0) (taken_of u 0) (record { last = stepped_as u answer; taken = 1 })

-- ---- those of them that are only heard

-- The unit after such bytes, how many there were, and both message buffers.
pub record Quieting : Type 0 where
  pub unit : Unit
  pub taken : ℕ
  pub messages : Both (List ℕ)

abbrev pub quieting : Unit → ℕ → Both (List ℕ) → Quieting
quieting u taken messages = record { unit = u; taken = taken; messages = messages }

-- What is given back, with the message buffers as they are left.
abbrev pub quieting_of : Quiet → Both (List ℕ) → Quieting
quieting_of r messages = quieting r.unit r.taken messages

-- Of a call that is not refused: those that close no run that is to be judged, up to the first that does.
unfoldable pub quietly_of : Unit → ℕ → List ℕ → Both (List ℕ) → Quieting
quietly_of u number bytes messages =
    let side = side_of number in
    let got = listen_on_of side (largest_message u.limit) (port_of side u.ports) bytes messages in
    quieting (with_ports u (with_port side u.ports got.port)) got.taken got.message

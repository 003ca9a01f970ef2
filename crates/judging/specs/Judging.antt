-- What one byte brings about: 01, "The line" (the tests at the close), "The message" and "One byte in, one answer out"; 02, T-01 and
-- T-06. Assumes nothing.
use Rattle.std.specs.Prelude.{ℕ, ◌+◌, ◌-◌, Bool, cond, List, eqb, ltb, take, get_or, Option, Some, None, Ok, Err}
use Rattle.crc.specs.Sum.{sum_of}
use Rattle.line.specs.declared.receiver.Heard.{Heard}
use Rattle.line.specs.declared.receiver.Heard.TheVariants as heard
use Rattle.line.specs.Packing.{shortest_message}
use Rattle.ports.specs.declared.Side.{Side}
use Rattle.ports.specs.declared.Both.{Both}
use Rattle.ports.specs.Sides.{side_of, of_side, put}
use Rattle.ports.specs.Ports.{Ports, answered_on, port_of, with_port, hear_of, first_count}
use Rattle.field.specs.Fields.{word16_at}
use Rattle.answer.specs.declared.Answer.{Answer}
use Rattle.answer.specs.declared.Answer.TheVariants.{Taken, Framing, Runt, Oversize, BadCrc, Elsewhere}
use Rattle.judging.specs.declared.Unit.{Unit}
use Rattle.judging.specs.declared.Lengths.{Lengths}
use Rattle.judging.specs.declared.Verdict.{Verdict}
use Rattle.judging.specs.declared.Verdict.TheVariants.{Quiet, Dropped, Command}
use Rattle.judging.specs.declared.Judged.{Judged}
use Rattle.judging.specs.declared.Wrong.{Wrong}
use Rattle.judging.specs.declared.Wrong.TheVariants as wrong
use Rattle.judging.specs.Fitting.{Fit, step_fit}

-- The unit afterwards, the verdict, and the message buffer of the port, or of both (`M`).
pub record Judging (M : Type 0) : Type 0 where
  pub unit : Unit
  pub verdict : Verdict
  pub message : M

abbrev pub judging : {M : Type 0} → Unit → Verdict → M → Judging M
judging u verdict message = record { unit = u; verdict = verdict; message = message }

-- What is given back, with the message buffers as they are left.
abbrev pub judging_of : {M : Type 0} → Judged → M → Judging M
judging_of r message = judging r.unit r.verdict message

-- 5 to 8 each add one to one of the four error counts of the port, in that order: 0x07 to 0x0A, or 0x0E to 0x11 (02, T-01).
abbrev pub dropped : Side → Answer → ℕ → Verdict
dropped side answer which = Dropped answer (first_count side + which)

-- The same by what was wrong with the run.
abbrev pub dropped_for : Side → Wrong → Verdict
dropped_for side wrong.Framing = dropped side Framing 0
dropped_for side wrong.Runt = dropped side Runt 1
dropped_for side wrong.Oversize = dropped side Oversize 2
dropped_for side wrong.BadCrc = dropped side BadCrc 3

-- The CRC is over destination to last data byte, and its low byte comes first.
abbrev pub sound_of : ℕ → List ℕ → Bool
sound_of count message = eqb (sum_of (take (count - 2) message)) (word16_at message (count - 2))

-- The largest message on a bus with this limit: so much data, and the five bytes of a message without any. At 1,028 that is 1,033.
abbrev pub largest_message : ℕ → ℕ
largest_message limit = limit + shortest_message

-- A sound message by its address and by the port it came in on: a command, which is answered on some port, or not heard there.
abbrev pub command_on : Option Side → ℕ → Verdict
command_on (Some telemetry) count = Command count telemetry
command_on None count = Quiet Elsewhere

abbrev pub heard_for : ℕ → Side → ℕ → ℕ → Verdict
heard_for strap side destination count = command_on (answered_on strap side destination) count

-- A run that is neither empty nor framing: under 5 bytes, over the `largest` message, CRC, address, command. The tests look at as many
-- first bytes of the message buffer as the count says.
unfoldable pub run_of : ℕ → ℕ → Side → ℕ → List ℕ → Verdict
run_of largest strap side count message =
    cond (ltb count shortest_message) (dropped side Runt 1)
    (cond (ltb largest count) (dropped side Oversize 2)
    (cond (sound_of count message) (heard_for strap side (get_or message 0 0) count) (dropped side BadCrc 3)))

-- The verdict on what was heard on a port: a byte taken, an empty run or one thrown away, framing, or a run to judge.
unfoldable pub verdict_of : ℕ → ℕ → Side → Heard → List ℕ → Verdict
verdict_of largest strap side heard.Taken message = Quiet Taken
verdict_of largest strap side heard.Empty message = Quiet Taken
verdict_of largest strap side heard.Framing message = dropped side Framing 0
verdict_of largest strap side (heard.Message count) message = run_of largest strap side count message

abbrev pub with_ports : Unit → Ports → Unit
with_ports u ports = record {
  strap = u.strap;
  limit = u.limit;
  mode = u.mode;
  locked = u.locked;
  bootloader_len = u.bootloader_len;
  fram_len = u.fram_len;
  ports = ports;
}

-- One byte received on a port. The limit says what is stored, counted and too long.
unfoldable pub received_of : Unit → Side → ℕ → List ℕ → Judging (List ℕ)
received_of u side byte message =
    let largest = largest_message u.limit in
    let got = hear_of largest (port_of side u.ports) byte message in
    judging (with_ports u (with_port side u.ports got.port)) (verdict_of largest u.strap side got.heard got.message) got.message

-- The same, with the message buffers of both.
abbrev pub among_both : Side → Both (List ℕ) → Judging (List ℕ) → Judging (Both (List ℕ))
among_both side messages j = judging j.unit j.verdict (put side messages j.message)

-- A call that is refused loses the byte, and changes nothing.
abbrev pub unless : Fit → Unit → Both (List ℕ) → Judging (Both (List ℕ)) → Judging (Both (List ℕ))
unless (Err answer) u messages served = judging u (Quiet answer) messages
unless (Ok _) u messages served = served

-- One byte on the port of this number, judged; `l` has the lengths of all that is lent.
unfoldable pub judge_of : Unit → ℕ → ℕ → Lengths → Both (List ℕ) → Judging (Both (List ℕ))
judge_of u number byte l messages =
    let side = side_of number in unless (step_fit u number l) u messages (among_both side messages (received_of u side byte (of_side side messages)))

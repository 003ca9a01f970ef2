-- A command that is sent to a unit, and what it comes to: 01, "The line", "The message" and "Commands"; 02, T-01. Assumes nothing.
use Rattle.std.specs.Prelude.{ℕ, ◌≤◌, ◌≡◌, Bool, cond, not, ◌&&◌, List, ◌∷◌, ◌++◌, length, take, drop, Some}
use Rattle.line.specs.Framing.{fend}
use Rattle.line.specs.Packing.{body_of}
use Rattle.carrying.specs.Ending.{Ending}
use Rattle.carrying.specs.Held.{Which, fram_of, with_fram, Held, inside}
use Rattle.carrying.specs.Storing.{with_data}
use Rattle.command.specs.Command.{command_of}
use Rattle.answer.specs.Answers.{sent_of}
use Rattle.ports.specs.declared.Side.{Side}
use Rattle.ports.specs.Sides.{number_of_side}
use Rattle.ports.specs.Ports.{answered_on, port_of, is_sending}
use Rattle.judging.specs.declared.Unit.{Unit}
use Rattle.replying.specs.Replies.{code_of, polls, sealed}
use Rattle.blocks.specs.Fram.{kept}
use Rattle.commanding.specs.World.{World, reply_of, Outcome, with_edac, with_frams, held_of}
use Rattle.demands.specs.Calls.{Call, lent_to, fed_of, reached_by, bytes_on, NoReplyOn, Suits, AllSuit, Serves, Idle, Bytes}

-- The way that a command takes to a unit: the port it comes in on, the unit and the message buffer of that port before its first byte, the address it is
-- for and the port on which that is answered, and the calls, on any port, up to the one that closes it.
pub record Way : Type 0 where
  pub side : Side
  pub unit : Unit
  pub message : List ℕ
  pub destination : ℕ
  pub telemetry : Side
  pub calls : List Call

-- The unit that the closing call meets: calls on the other port may have changed its mode and its lock.
abbrev pub met : Way → Unit
met way = reached_by way.side way.unit way.message way.calls

-- A command with data of at most `most` bytes: sealed with its CRC, packed, and sent on a port where its address is heard, with both its FENDs, the last of
-- them by the call `c`, to a unit that has no run open there, by calls that are served; calls on the other port or on none come between, served or refused.
-- None but the last has a reply that leaves on this port.
pub record SendsUpTo (most : ℕ) (way : Way) (source control : ℕ) (field : List ℕ) (c : Call) : Type 0 where
  pub serves : Serves way.unit
  pub idle : Idle (port_of way.side way.unit.ports)
  pub heard : answered_on way.unit.strap way.side way.destination ≡ Some way.telemetry
  pub bytes : Bytes (way.destination ∷ source ∷ control ∷ field)
  pub short : length field ≤ most
  pub packed : bytes_on way.side way.calls ≡ fend ∷ body_of (sealed (way.destination ∷ source ∷ control ∷ field))
  pub ends : c.byte ≡ fend
  pub here : c.port ≡ number_of_side way.side
  pub suiting : AllSuit way.side way.unit (length way.message) way.calls
  pub suits : Suits way.side way.unit (length way.message) c
  pub undisturbed : NoReplyOn way.side way.unit way.message way.calls

-- One with data of legal length: as much as the unit's limit allows.
abbrev pub Sends : Way → ℕ → ℕ → List ℕ → Call → Type 0
Sends way source control field c = SendsUpTo way.unit.limit way source control field c

-- What the last of these calls lends, with the command in the message buffer.
abbrev pub with_its_message : Way → ℕ → ℕ → List ℕ → Call → World
with_its_message way source control field c =
    let sent = sealed (way.destination ∷ source ∷ control ∷ field) in lent_to way.side (sent ++ drop (length sent) way.message) c

-- What it leaves, and the bytes that are then sent, from the reply buffer of the port on which they leave.
abbrev pub left_by : Way → Call → Outcome
left_by way c = (fed_of way.side way.unit way.message way.calls c).last

abbrev pub sent_by : Outcome → List ℕ
sent_by o = take (sent_of o.answer) (reply_of o.port o.world)

-- Whether its reply leaves: poll is set, and the port on which it is answered is not sending when it closes.
abbrev pub replies : Way → ℕ → Call → Bool
replies way control c = polls control && not (is_sending way.telemetry c.sending)

-- The answer to a command that is done: 1 where its reply leaves, else 2.
abbrev pub done_answer : Bool → ℕ
done_answer leaves = cond leaves 1 2

-- The answer to one that is refused: 3 where its reply leaves, else 4.
abbrev pub refused_answer : Bool → ℕ
refused_answer leaves = cond leaves 3 4

-- What a command comes to on what a call lends.
abbrev pub came_to : Unit → Call → ℕ → List ℕ → Ending Held
came_to u c control field = command_of u.limit (code_of control) (held_of u c.lent) field

-- The call with other bytes in one of the FRAMs, or another EDAC memory, in place of what it names.
abbrev pub lending_fram : Which → Call → List ℕ → Call
lending_fram which c fram =
    let now = c.lent.frams in record { port = c.port; byte = c.byte; sending = c.sending; lent = with_frams c.lent (with_fram which now (kept fram (fram_of which now).sums)) }

abbrev pub lending_edac : Call → List ℕ → Call
lending_edac c edac = record { port = c.port; byte = c.byte; sending = c.sending; lent = with_edac c.lent edac }

-- The ending of a command that changes nothing of what is held, with other data in its reply.
abbrev pub showing : Held → (List ℕ → List ℕ) → Ending Held → Ending Held
showing now f ending = inside (λ _. now) (with_data f ending)

-- 02, T-07: a range by its first and its last address that starts from 0x20000000 to 0x2003FFFF and ends from 0x20040000 to 0x2007FFFF.
pub record OverTheBorder (first last : ℕ) : Type 0 where
  pub starts_from : 0x20000000 ≤ first
  pub starts_to : first ≤ 0x2003FFFF
  pub ends_from : 0x20040000 ≤ last
  pub ends_to : last ≤ 0x2007FFFF

-- Calls one after the other, as demands 2 and 3 speak of them. Assumes nothing.
use Rattle.std.specs.Prelude.{ℕ, ◌+◌, ◌≤◌, ◌<◌, ◌≡◌, List, [], ◌∷◌, Bool, true, false, cond, eqb, length, replicate, Option, Some, None, Ok}
use Rattle.line.specs.declared.receiver.Heard.{Heard}
use Rattle.line.specs.Receiver.{opened}
use Rattle.blocks.specs.Fram.{Kept, fresh_sums}
use Rattle.carrying.specs.Ending.{is_limit, Ending, done, refused, unfitted}
use Rattle.carrying.specs.Held.{Frams, Which, fram_of, Held}
use Rattle.fram_commands.specs.Windows.{first_of}
use Rattle.answer.specs.declared.Answer.{Answer}
use Rattle.answer.specs.declared.Answer.TheVariants.{Taken, Elsewhere}
use Rattle.answer.specs.Answers.{number_of}
use Rattle.ports.specs.declared.Side.{Side}
use Rattle.ports.specs.declared.Side.TheVariants.{Zero, One}
use Rattle.ports.specs.declared.Port.{Port}
use Rattle.ports.specs.declared.Port.TheVariants.{Hearing}
use Rattle.ports.specs.Sides.{number_of_side}
use Rattle.ports.specs.Ports.{Sending, answered_on, with_port, count_of, is_open, is_sending}
use Rattle.judging.specs.declared.Unit.{Unit}
use Rattle.judging.specs.declared.Lengths.{Lengths}
use Rattle.judging.specs.Fitting.{frams_as_set_up, largest_count, lengths_fit}
use Rattle.judging.specs.Judging.{largest_message, verdict_of, with_ports}
use Rattle.replying.specs.Replies.{reply_message}
use Rattle.commanding.specs.World.{World, message_of, lengths_of, Outcome, outcome, with_frams, with_message}
use Rattle.commanding.specs.Commanded.{ordered_of}
use Rattle.unit.specs.Steps.{served_of, step_of}
use Rattle.demands.specs.Leaving.{has_reply}

-- A call: the number of its port, its byte, which ports are sending, and what it lends.
pub record Call : Type 0 where
  pub port : ℕ
  pub byte : ℕ
  pub sending : Sending
  pub lent : World

-- ---- demand 2: bytes on the line of a port, into a message buffer that nobody else alters; bytes of the other port may stand between them

-- What a call lends, with this message buffer of a port in place of the one that it names; all else, the other port's too, may be another thing at
-- each call.
abbrev pub lent_to : Side → List ℕ → Call → World
lent_to side message c = with_message side c.lent message

-- What it comes to on a unit.
abbrev pub call_on : Side → Unit → List ℕ → Call → Outcome
call_on side u message c = step_of u c.port c.byte c.sending (lent_to side message c)

-- Whether it is a call on this port.
abbrev pub is_on : Side → Call → Bool
is_on side c = eqb c.port (number_of_side side)

-- The answers on this port but for the last call, and what the last one leaves.
pub record Fed : Type 0 where
  pub answers : List Answer
  pub last : Outcome

abbrev pub answering : Bool → Answer → Fed → Fed
answering true answer rest = record { answers = answer ∷ rest.answers; last = rest.last }
answering false answer rest = rest

-- Calls one after the other on any port, and one more: the unit and the message buffer of this port pass from call to call.
abbrev pub fed_of : Side → Unit → List ℕ → List Call → Call → Fed
fed_of side u message [] c = record { answers = []; last = call_on side u message c }
fed_of side u message (d ∷ calls) c =
    let o = call_on side u message d in answering (is_on side d) o.answer (fed_of side o.unit (message_of side o.world) calls c)

-- The unit that the last one meets.
abbrev pub reached_by : Side → Unit → List ℕ → List Call → Unit
reached_by side u message [] = u
reached_by side u message (d ∷ calls) = let o = call_on side u message d in reached_by side o.unit (message_of side o.world) calls

-- The bytes on this port.
abbrev pub bytes_on : Side → List Call → List ℕ
bytes_on side [] = []
bytes_on side (d ∷ calls) = cond (is_on side d) (d.byte ∷ bytes_on side calls) (bytes_on side calls)

-- "No reception is claimed across a reply leaving on that port" (02, T-01): none of these calls has a reply that leaves
-- on this port.
abbrev pub SendsNothingOn : Side → Outcome → Type 0
SendsNothingOn side o = has_reply (number_of o.answer) ≡ true → o.port ≡ side → ⊥

abbrev pub NoReplyOn : Side → Unit → List ℕ → List Call → Type 0
NoReplyOn side u message [] = Prim.Unit {0}
NoReplyOn side u message (d ∷ calls) =
    let o = call_on side u message d in SendsNothingOn side o × NoReplyOn side o.unit (message_of side o.world) calls

-- A unit once a FEND came in on a port.
abbrev pub opened_on : Side → Unit → Unit
opened_on side u = with_ports u (with_port side u.ports (Hearing opened))

-- All but the last are only taken.
abbrev pub delivering : ℕ → Outcome → Fed
delivering n o = record { answers = replicate n Taken; last = o }

-- What a call lends by its lengths, with a message buffer of this length on a port.
abbrev pub lent_lengths : Side → ℕ → Call → Lengths
lent_lengths Zero size c =
    let l = lengths_of c.lent in record {
      edac = l.edac;
      bootloader = l.bootloader;
      bootloader_sums = l.bootloader_sums;
      fram = l.fram;
      sums = l.sums;
      diagnostics = l.diagnostics;
      message0 = size;
      reply0 = l.reply0;
      message1 = l.message1;
      reply1 = l.reply1;
    }
lent_lengths One size c =
    let l = lengths_of c.lent in record {
      edac = l.edac;
      bootloader = l.bootloader;
      bootloader_sums = l.bootloader_sums;
      fram = l.fram;
      sums = l.sums;
      diagnostics = l.diagnostics;
      message0 = l.message0;
      reply0 = l.reply0;
      message1 = size;
      reply1 = l.reply1;
    }

-- Lent with the lengths that this unit asks for, by its strap and the two lengths that it was set up with, with a message buffer of this length; and on
-- port 0 or 1.
abbrev pub Suits : Side → Unit → ℕ → Call → Type 0
Suits side u size c =
    (lengths_fit u.strap (frams_as_set_up u (lent_lengths side size c)) (lent_lengths side size c) (Ok tt) ≡ Ok tt) × (c.port ≤ 1)

-- Each call on this port does; one on the other, or on none, may lend anything and be refused.
abbrev pub AllSuit : Side → Unit → ℕ → List Call → Type 0
AllSuit side u size [] = Prim.Unit {0}
AllSuit side u size (d ∷ calls) = (is_on side d ≡ true → Suits side u size d) × AllSuit side u size calls

-- A record that neither 26 nor 29 refuses: its counts are at most 1,034, and its limit 260 to 1,028.
abbrev pub Serves : Unit → Type 0
Serves u = (count_of u.ports.port0 ≤ largest_count) × (count_of u.ports.port1 ≤ largest_count) × (is_limit u.limit ≡ true)

-- No run is open on a port: a FEND would close nothing, or an empty run, or one that is thrown away.
abbrev pub Idle : Port → Type 0
Idle port = is_open port ≡ false

-- What a served byte comes to, by what was heard on a port.
abbrev pub comes_to : Unit → Side → Heard → Sending → World → Outcome
comes_to u side h sending w = served_of u (verdict_of (largest_message u.limit) u.strap side h (message_of side w)) sending (message_of side w) w

-- What a sound message comes to that came in on a port, by its parts: heard there, the command, answered on the port that its address names; else
-- nothing.
abbrev pub answered_by : Option Side → Unit → Sending → ℕ → ℕ → ℕ → List ℕ → World → Outcome
answered_by (Some telemetry) u sending destination source control field w =
    ordered_of u telemetry (is_sending telemetry sending) destination source control field w
answered_by None u sending destination source control field w = outcome u Elsewhere w

abbrev pub addressed_of : Unit → Side → Sending → ℕ → ℕ → ℕ → List ℕ → World → Outcome
addressed_of u side sending destination source control field w =
    answered_by (answered_on u.strap side destination) u sending destination source control field w

-- The message that answers a command: the reply with ACK set, or the command's data with ACK clear; none where memory is not fitted.
abbrev pub answer_message : ℕ → ℕ → ℕ → List ℕ → Ending Held → List ℕ
answer_message destination source control field (done reply changed) = reply_message 1 destination source control reply
answer_message destination source control field refused = reply_message 0 destination source control field
answer_message destination source control field unfitted = []

-- Each of them a byte.
abbrev pub Bytes : List ℕ → Type 0
Bytes [] = Prim.Unit {0}
Bytes (byte ∷ bytes) = (byte < 256) × Bytes bytes

-- ---- demand 3: memory, sums and record are the unit's alone

-- A call with the unit's own FRAMs and sums in place of those that it names, or with those that it names. All that a call names may
-- hold anything and have any length: a call that is refused is a call.
pub data Lending : Type 0 where
  its_memory : Call → Lending
  another : Call → Lending

-- What passes from call to call.
pub record Own : Type 0 where
  pub unit : Unit
  pub frams : Frams

abbrev pub own : Unit → Frams → Own
own u frams = record { unit = u; frams = frams }

abbrev pub own_of : Outcome → Own
own_of o = own o.unit o.world.frams

-- What the unit has after calls one after the other.
abbrev pub called_of : Own → List Lending → Own
called_of s [] = s
called_of s (its_memory c ∷ calls) = called_of (own_of (step_of s.unit c.port c.byte c.sending (with_frams c.lent s.frams))) calls
called_of s (another c ∷ calls) = called_of (own (step_of s.unit c.port c.byte c.sending c.lent).unit s.frams) calls

-- Each kept sum is the CRC of its block as it stands.
abbrev pub Right : Kept → Type 0
Right memory = memory.sums ≡ fresh_sums memory.fram

-- A range inside one of the fitted memories, first byte not after last, by its addresses.
pub record Inside (which : Which) (now : Frams) (first last : ℕ) : Type 0 where
  pub starts : first_of which ≤ first
  pub forward : first ≤ last
  pub ends : last < first_of which + length (fram_of which now).fram

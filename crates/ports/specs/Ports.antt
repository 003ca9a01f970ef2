-- A port, of which a unit has two: 02, T-01. What stands in quotes is 02. Assumes nothing.
use Rattle.std.specs.Prelude.{ℕ, ◌+◌, Bool, true, false, cond, List, eqb, Option, Some, None}
use Rattle.line.specs.Framing.{fend}
use Rattle.line.specs.declared.receiver.Heard.{Heard}
use Rattle.line.specs.declared.receiver.Heard.TheVariants as heard
use Rattle.line.specs.Receiver.{fresh, opened, closed_of, receive_of}
use Rattle.memory.specs.Counts.{counted_up}
use Rattle.ports.specs.declared.Side.{Side}
use Rattle.ports.specs.declared.Side.TheVariants.{Zero, One}
use Rattle.ports.specs.declared.Port.{Port}
use Rattle.ports.specs.declared.Port.TheVariants.{Hearing, Throwing}
use Rattle.ports.specs.declared.Both.{Both}
use Rattle.ports.specs.declared.Counts.{Counts}
use Rattle.ports.specs.declared.Got.{Got}
use Rattle.ports.specs.declared.Fate.{Fate}
use Rattle.ports.specs.declared.Fate.TheVariants.{Nothing, Lost, Leaves}
use Rattle.ports.specs.Sides.{both, of_side, put}

-- ---- addresses

-- Of the two addresses that a port hears, one is answered on port 1 and one on port 0.
abbrev pub by_address : ℕ → ℕ → ℕ → Option Side
by_address destination to1 to0 = cond (eqb destination to1) (Some One) (cond (eqb destination to0) (Some Zero) None)

-- "0x40+s (reply on port 1) and 0x60+s (port 0) on port 0, and 0x50+s (port 1) and 0x70+s (port 0) on port 1"; no other address is heard.
unfoldable pub answered_on : ℕ → Side → ℕ → Option Side
answered_on strap Zero destination = by_address destination (0x40 + strap) (0x60 + strap)
answered_on strap One destination = by_address destination (0x50 + strap) (0x70 + strap)

-- ---- the two of a unit

-- The ports of a unit, and whether each is sending now.
abbrev pub Ports : Type 0
Ports = Both Port

abbrev pub Sending : Type 0
Sending = Both Bool

abbrev pub port_of : Side → Ports → Port
port_of = of_side

abbrev pub with_port : Side → Ports → Port → Ports
with_port = put

abbrev pub is_sending : Side → Sending → Bool
is_sending = of_side

-- Both receivers fresh.
abbrev pub both_fresh : Ports
both_fresh = both (Hearing fresh) (Hearing fresh)

-- ---- one byte

-- The count of a port; while a run is thrown away it stays where it stood.
abbrev pub count_of : Port → ℕ
count_of (Hearing receiver) = receiver.count
count_of (Throwing count) = count

-- What one byte leaves.
pub record AfterByte : Type 0 where
  pub port : Port
  pub heard : Heard
  pub message : List ℕ

abbrev pub hearing : Port → Heard → List ℕ → AfterByte
hearing port heard message = record { port = port; heard = heard; message = message }

-- What `hear` gives back, with the message buffer as it leaves it.
abbrev pub hearing_of : Got → List ℕ → AfterByte
hearing_of r message = hearing r.port r.heard message

-- A byte is received as 01 says (`largest` is the largest message that is taken), unless its run is "thrown away, unstored, up to its FEND, which
-- answers 0" and opens the next run.
unfoldable pub hear_of : ℕ → Port → ℕ → List ℕ → AfterByte
hear_of largest (Hearing receiver) byte message =
    let got = receive_of largest receiver byte message in hearing (Hearing got.receiver) got.heard got.message
hear_of largest (Throwing count) byte message =
    cond (eqb byte fend) (hearing (Hearing opened) heard.Empty message) (hearing (Throwing count) heard.Taken message)

-- What one byte on one of the two ports leaves of both, with both message buffers.
pub record AfterByteOn : Type 0 where
  pub ports : Ports
  pub heard : Heard
  pub messages : Both (List ℕ)

abbrev pub hearing_on : Ports → Heard → Both (List ℕ) → AfterByteOn
hearing_on ports heard messages = record { ports = ports; heard = heard; messages = messages }

-- The port that it came in on hears it; the other, and its buffer, stay.
abbrev pub hear_on_of : Side → ℕ → Ports → ℕ → Both (List ℕ) → AfterByteOn
hear_on_of side largest ports byte messages =
    let got = hear_of largest (port_of side ports) byte (of_side side messages) in
    hearing_on (with_port side ports got.port) got.heard (put side messages got.message)

-- ---- a reply

-- "An unfinished non-empty run": one in which any byte came, so that its FEND would close something that is not empty. A run that is being
-- thrown away already is none.
abbrev pub closes_some : Heard → Bool
closes_some heard.Taken = false
closes_some heard.Empty = false
closes_some heard.Framing = true
closes_some (heard.Message count) = true

unfoldable pub is_open : Port → Bool
is_open (Hearing receiver) = closes_some (closed_of receiver.place receiver.count)
is_open (Throwing count) = false

-- The diagnostics of a port: the first of its four error counts, "0x0C or 0x13" for a run thrown away, "0x0D or 0x14" for a reply lost. "Port 1 errors
-- go to 0x0E to 0x11."
abbrev pub first_count : Side → ℕ
first_count Zero = 0x07
first_count One = 0x0E

abbrev pub thrown_count : Side → ℕ
thrown_count Zero = 0x0C
thrown_count One = 0x13

abbrev pub lost_count : Side → ℕ
lost_count Zero = 0x0D
lost_count One = 0x14

abbrev pub counts_of : Side → Counts
counts_of side = record { first = first_count side; thrown = thrown_count side; lost = lost_count side }

-- The ports and the diagnostics, after what becomes of a reply.
pub record Settlement : Type 0 where
  pub ports : Ports
  pub diagnostics : List ℕ

abbrev pub settlement : Ports → List ℕ → Settlement
settlement ports diagnostics = record { ports = ports; diagnostics = diagnostics }

-- "A reply for a sending port is lost and counted .. Otherwise an unfinished non-empty run on that port is thrown away .. and counted once."
unfoldable pub settle_of : Fate → Side → Ports → List ℕ → Settlement
settle_of Nothing side ports diagnostics = settlement ports diagnostics
settle_of Lost side ports diagnostics = settlement ports (counted_up diagnostics (lost_count side))
settle_of Leaves side ports diagnostics =
    cond (is_open (port_of side ports))
    (settlement (with_port side ports (Throwing (count_of (port_of side ports)))) (counted_up diagnostics (thrown_count side)))
    (settlement ports diagnostics)

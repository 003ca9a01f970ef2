-- 01, "Small examples": P1 to P12, and more for 02, T-01, T-02, T-06, T-07 and T-13, under one statement. Those that a unit can show are run on one, byte by
-- byte.
-- Assumes nothing.
use Rattle.std.specs.Prelude.{◌≡◌, Bool, true, false, List, [], ◌∷◌, ◌++◌, ℕ, take, replicate, set}
use Rattle.crc.specs.Sum.{sum_of}
use Rattle.crc.specs.Joining.{join_of, with_part}
use Rattle.line.specs.Unpacking.{unpack_of}
use Rattle.memory.specs.Bytes.{stored}
use Rattle.blocks.specs.Fram.{Kept, kept}
use Rattle.judging.specs.declared.Unit.{Unit}
use Rattle.answer.specs.Answers.{number_of, sent_of}
use Rattle.answer.specs.declared.Answer.TheVariants.{BadLimit}
use Rattle.carrying.specs.declared.Mode.TheVariants.{Bootloader}
use Rattle.line.specs.declared.receiver.Place.TheVariants.{Fresh}
use Rattle.ports.specs.declared.Side.{Side}
use Rattle.ports.specs.declared.Side.TheVariants.{Zero, One}
use Rattle.ports.specs.declared.Port.TheVariants.{Hearing}
use Rattle.ports.specs.declared.Both.{Both}
use Rattle.ports.specs.Sides.{both}
use Rattle.commanding.specs.World.{World, world, reply_of, outcome}
use Rattle.unit.specs.Steps.{set_up_of}
use Rattle.demands.specs.Arrivals.{Arrival, arriving}

-- What is seen of bytes on the lines of a unit whose memory and buffers nobody else touches: the number of each answer, what each cost, all that is
-- sent on each port, the unit, and what was lent as the last byte leaves it.
pub record Seen : Type 0 where
  pub answers : List ℕ
  pub costs : List ℕ
  pub sent : Both (List ℕ)
  pub unit : Unit
  pub left : World

-- What one answer sends, before what later ones send.
abbrev pub sent_first : Side → List ℕ → Both (List ℕ) → Both (List ℕ)
sent_first Zero bytes rest = both (bytes ++ rest.port0) rest.port1
sent_first One bytes rest = both rest.port0 (bytes ++ rest.port1)

abbrev pub seen_of : Unit → World → List Arrival → Seen
seen_of u w [] = record { answers = []; costs = []; sent = both [] []; unit = u; left = w }
seen_of u w (a ∷ arrivals) =
    let o = arriving u a w in
    let rest = seen_of o.unit o.world arrivals in
    record {
      answers = number_of o.answer ∷ rest.answers;
      costs = o.cost ∷ rest.costs;
      sent = sent_first o.port (take (sent_of o.answer) (reply_of o.port o.world)) rest.sent;
      unit = rest.unit;
      left = rest.left;
    }

-- Bytes on a port, while neither port is sending, or while those are that are said to be.
abbrev pub on_while : Bool → Bool → ℕ → List ℕ → List Arrival
on_while zero one number [] = []
on_while zero one number (byte ∷ bytes) =
    record { port = number; byte = byte; sending = record { port0 = zero; port1 = one } } ∷ on_while zero one number bytes

abbrev pub on : ℕ → List ℕ → List Arrival
on number bytes = on_while false false number bytes

-- A fresh unit with strap 1, which hears 0x41 on port 0 and answers it on port 1, with this limit and this EDAC memory, unlocked, all else being zeros:
-- what bytes show. In 01 the limit is 1,028.
abbrev pub blank : Kept
blank = kept (replicate 256 0) (replicate 1 0)

abbrev pub lent_with : List ℕ → World
lent_with edac = world edac blank blank (replicate 31 0) (replicate 1033 0) (replicate 2068 0) (replicate 1033 0) (replicate 2068 0)

abbrev pub shown_of : ℕ → List ℕ → List Arrival → Seen
shown_of limit edac arrivals = let o = set_up_of 1 limit false (lent_with edac) in seen_of o.unit o.world arrivals

abbrev pub shown_at : ℕ → List ℕ → List ℕ → Seen
shown_at limit edac bytes = shown_of limit edac (on 0 bytes)

abbrev pub shown_by : List ℕ → List ℕ → Seen
shown_by edac bytes = shown_at 1028 edac bytes

abbrev pub zeros : List ℕ
zeros = replicate 1536 0

-- The diagnostics where none moved since set-up, which shows bootloader FRAM unlocked, and where one count moved once: on port 0 channel 0x07 framing, 0x08
-- runt, 0x09 oversize, 0x0C a run thrown away, 0x0D a reply lost; on port 1 0x0F runt, 0x13 and 0x14.
abbrev pub no_counts : List ℕ
no_counts = set (replicate 31 0) 0x06 0x40

abbrev pub once_at : ℕ → List ℕ
once_at channel = set no_counts channel 1

-- Bytes on port 0: the answers, the bytes sent, all on port 1, the diagnostics and EDAC memory afterwards; both FRAMs as they were.
abbrev pub ShowsAt : ℕ → List ℕ → List ℕ → List ℕ → List ℕ → List ℕ → List ℕ → Type 0
ShowsAt limit before bytes answers sent diagnostics edac =
    let s = shown_at limit before bytes in
    (s.answers ≡ answers) × (s.sent ≡ both [] sent) × (s.left.diagnostics ≡ diagnostics) × (s.left.edac ≡ edac) × (s.left.frams.bootloader.fram ≡ replicate 256 0)
    × (s.left.frams.user.fram ≡ replicate 256 0)

abbrev pub Shows : List ℕ → List ℕ → List ℕ → List ℕ → List ℕ → List ℕ → Type 0
Shows before bytes answers sent diagnostics edac = ShowsAt 1028 before bytes answers sent diagnostics edac

-- INIT 0x20050000 to the unit, from 0x11, and its reply: application mode, which the commands on files need.
abbrev pub init : List ℕ
init = 0xC0 ∷ 0x41 ∷ 0x11 ∷ 0x81 ∷ 0x00 ∷ 0x00 ∷ 0x05 ∷ 0x20 ∷ 0x6C ∷ 0xB3 ∷ 0xC0 ∷ []

abbrev pub init_reply : List ℕ
init_reply = 0xC0 ∷ 0x11 ∷ 0x41 ∷ 0xA1 ∷ 0x00 ∷ 0x00 ∷ 0x05 ∷ 0x20 ∷ 0x53 ∷ 0xE1 ∷ 0xC0 ∷ []

abbrev pub init_answers : List ℕ
init_answers = replicate 10 0 ++ (1 ∷ [])

-- EDAC memory with mode 03 and value 00 00 80 3F.
abbrev pub mode_and_value : List ℕ
mode_and_value = set (0x00 ∷ 0x00 ∷ 0x80 ∷ 0x3F ∷ replicate 1532 0) 0x5C3 0x03

-- EDAC memory with 100.0 in SPEED.
abbrev pub with_speed : List ℕ
with_speed = stored zeros 0x054 (0x00 ∷ 0x00 ∷ 0xC8 ∷ 0x42 ∷ [])

pub record WorkedExamples : Type 0 where
  pub p1 : sum_of [] ≡ 0xFFFF
  pub p2 : sum_of (0xFF ∷ []) ≡ 0x00FF
  pub p3 : sum_of (0xFF ∷ 0xFF ∷ []) ≡ 0x0000
  pub p4 : sum_of (0x00 ∷ []) ≡ 0x0F87
  pub p5 : sum_of (0x41 ∷ 0x11 ∷ 0x80 ∷ []) ≡ 0x6DD8
  -- A reply whose message starts 11 41 A0: the whole of it.
  pub p6 : Shows zeros (0xC0 ∷ 0x41 ∷ 0x11 ∷ 0x80 ∷ 0xD8 ∷ 0x6D ∷ 0xC0 ∷ []) (replicate 6 0 ++ (1 ∷ []))
      (0xC0 ∷ 0x11 ∷ 0x41 ∷ 0xA0 ∷ 0x57 ∷ 0x48 ∷ 0x45 ∷ 0x45 ∷ 0x4C ∷ 0x20 ∷ 0x55 ∷ 0x4E ∷ 0x49 ∷ 0x54 ∷ 0x20 ∷ 0x4E ∷ 0x53 ∷ 0x50 ∷ 0x20 ∷ 0x30 ∷ 0x31
      ∷ 0x8A ∷ 0x6D ∷ 0xC0 ∷ [])
      no_counts zeros
  -- C0 and DB stand in the message buffer, as runts of one byte; framing is answer 5.
  pub p7 : (unpack_of (0xDB ∷ 0xDC ∷ []) ≡ record { bytes = 0xC0 ∷ []; fault = false })
      × (unpack_of (0xDB ∷ 0xDD ∷ []) ≡ record { bytes = 0xDB ∷ []; fault = false })
      × (unpack_of (0xDB ∷ 0x00 ∷ []) ≡ record { bytes = []; fault = true })
      × Shows zeros (0xC0 ∷ 0xDB ∷ 0xDC ∷ 0xC0 ∷ []) (0 ∷ 0 ∷ 0 ∷ 6 ∷ []) [] (once_at 0x08) zeros
      × (take 1 (shown_by zeros (0xC0 ∷ 0xDB ∷ 0xDC ∷ 0xC0 ∷ [])).left.buffers.messages.port0 ≡ 0xC0 ∷ [])
      × Shows zeros (0xC0 ∷ 0xDB ∷ 0xDD ∷ 0xC0 ∷ []) (0 ∷ 0 ∷ 0 ∷ 6 ∷ []) [] (once_at 0x08) zeros
      × (take 1 (shown_by zeros (0xC0 ∷ 0xDB ∷ 0xDD ∷ 0xC0 ∷ [])).left.buffers.messages.port0 ≡ 0xDB ∷ [])
      × Shows zeros (0xC0 ∷ 0xDB ∷ 0x00 ∷ 0xC0 ∷ []) (0 ∷ 0 ∷ 0 ∷ 5 ∷ []) [] (once_at 0x07) zeros
  pub p8 : join_of (record { sum = 0x00FF; len = 1 }) (record { sum = 0x00FF; len = 1 }) ≡ with_part (record { sum = 0x0000; len = 2 })
  -- And DIAGNOSTIC 08 then shows the runt.
  pub p9 : Shows zeros (0xC0 ∷ 0xC0 ∷ []) (0 ∷ 0 ∷ []) [] no_counts zeros
      × Shows zeros (0xC0 ∷ 0x01 ∷ 0x02 ∷ 0x03 ∷ 0x04 ∷ 0xC0 ∷ []) (0 ∷ 0 ∷ 0 ∷ 0 ∷ 0 ∷ 6 ∷ []) [] (once_at 0x08) zeros
      × Shows zeros (0xC0 ∷ 0x01 ∷ 0x02 ∷ 0x03 ∷ 0x04 ∷ 0xC0 ∷ 0x41 ∷ 0x11 ∷ 0x84 ∷ 0x08 ∷ 0x80 ∷ 0xB1 ∷ 0xC0 ∷ []) (0 ∷ 0 ∷ 0 ∷ 0 ∷ 0 ∷ 6 ∷ (replicate 6 0 ++ (1 ∷ [])))
      (0xC0 ∷ 0x11 ∷ 0x41 ∷ 0xA4 ∷ 0x08 ∷ 0x01 ∷ 0x00 ∷ 0x00 ∷ 0x00 ∷ 0x6D ∷ 0x28 ∷ 0xC0 ∷ []) (once_at 0x08) zeros
  -- The data of the reply is 00 03 00 00 80 3F.
  pub p10 : Shows mode_and_value (init ++ (0xC0 ∷ 0x41 ∷ 0x11 ∷ 0x87 ∷ 0x00 ∷ 0xA0 ∷ 0x17 ∷ 0xC0 ∷ [])) (init_answers ++ replicate 7 0 ++ (1 ∷ []))
      (init_reply ++ (0xC0 ∷ 0x11 ∷ 0x41 ∷ 0xA7 ∷ 0x00 ∷ 0x03 ∷ 0x00 ∷ 0x00 ∷ 0x80 ∷ 0x3F ∷ 0xCD ∷ 0x62 ∷ 0xC0 ∷ []))
      no_counts mode_and_value
  -- 0x0A0 holds 05 06 07 08; the data of the reply is 28 05 06 07 08 twice.
  pub p11 : Shows zeros
      (init ++ (0xC0 ∷ 0x41 ∷ 0x11 ∷ 0x88 ∷ 0x28 ∷ 0x01 ∷ 0x02 ∷ 0x03 ∷ 0x04 ∷ 0x28 ∷ 0x05 ∷ 0x06 ∷ 0x07 ∷ 0x08 ∷ 0x67 ∷ 0x90 ∷ 0xC0 ∷ []))
      (init_answers ++ replicate 16 0 ++ (1 ∷ []))
      (init_reply
      ++ (0xC0 ∷ 0x11 ∷ 0x41 ∷ 0xA8 ∷ 0x28 ∷ 0x05 ∷ 0x06 ∷ 0x07 ∷ 0x08 ∷ 0x28 ∷ 0x05 ∷ 0x06 ∷ 0x07 ∷ 0x08 ∷ 0x6D ∷ 0x7E ∷ 0xC0 ∷ []))
      no_counts (stored zeros 0x0A0 (0x05 ∷ 0x06 ∷ 0x07 ∷ 0x08 ∷ []))
  -- Refused: answer 3, the NACK has the command's data, and nothing is stored.
  pub p12 : Shows zeros
      (init ++ (0xC0 ∷ 0x41 ∷ 0x11 ∷ 0x88 ∷ 0x28 ∷ 0x01 ∷ 0x02 ∷ 0x03 ∷ 0x04 ∷ 0x29 ∷ 0x05 ∷ 0x0A ∷ 0xFF ∷ 0xC0 ∷ []))
      (init_answers ++ replicate 13 0 ++ (3 ∷ []))
      (init_reply ++ (0xC0 ∷ 0x11 ∷ 0x41 ∷ 0x88 ∷ 0x28 ∷ 0x01 ∷ 0x02 ∷ 0x03 ∷ 0x04 ∷ 0x29 ∷ 0x05 ∷ 0xD4 ∷ 0x65 ∷ 0xC0 ∷ []))
      no_counts zeros
  -- 02, T-01: PINGs to the four addresses of strap 1, each on the port that hears it: 0x41 and 0x61 on port 0, answered on port 1 and on port 0; 0x51 and
  -- 0x71 on port 1, answered on port 1 and on port 0. On the other port each is 9. No diagnostic moves.
  pub t01_addresses : (let s = shown_of 1028 zeros
      (on 0 (0xC0 ∷ 0x41 ∷ 0x11 ∷ 0x80 ∷ 0xD8 ∷ 0x6D ∷ 0xC0 ∷ []) ++ on 0 (0xC0 ∷ 0x61 ∷ 0x11 ∷ 0x80 ∷ 0xE3 ∷ 0x6E ∷ 0xC0 ∷ [])
      ++ on 1 (0xC0 ∷ 0x51 ∷ 0x11 ∷ 0x80 ∷ 0x4D ∷ 0xE8 ∷ 0xC0 ∷ []) ++ on 1 (0xC0 ∷ 0x71 ∷ 0x11 ∷ 0x80 ∷ 0x76 ∷ 0xEB ∷ 0xC0 ∷ [])) in
      (s.answers ≡ replicate 6 0 ++ (1 ∷ replicate 6 0) ++ (1 ∷ replicate 6 0) ++ (1 ∷ replicate 6 0) ++ (1 ∷ []))
      × (s.sent.port0
      ≡ (0xC0 ∷ 0x11 ∷ 0x61 ∷ 0xA0 ∷ 0x57 ∷ 0x48 ∷ 0x45 ∷ 0x45 ∷ 0x4C ∷ 0x20 ∷ 0x55 ∷ 0x4E ∷ 0x49 ∷ 0x54 ∷ 0x20 ∷ 0x4E ∷ 0x53 ∷ 0x50 ∷ 0x20 ∷ 0x30 ∷ 0x31 ∷ 0x98 ∷ 0x95 ∷ 0xC0 ∷ [])
      ++ (0xC0 ∷ 0x11 ∷ 0x71 ∷ 0xA0 ∷ 0x57 ∷ 0x48 ∷ 0x45 ∷ 0x45 ∷ 0x4C ∷ 0x20 ∷ 0x55 ∷ 0x4E ∷ 0x49 ∷ 0x54 ∷ 0x20 ∷ 0x4E ∷ 0x53 ∷ 0x50 ∷ 0x20 ∷ 0x30 ∷ 0x31 ∷ 0x91 ∷ 0xE9 ∷ 0xC0 ∷ []))
      × (s.sent.port1
      ≡ (0xC0 ∷ 0x11 ∷ 0x41 ∷ 0xA0 ∷ 0x57 ∷ 0x48 ∷ 0x45 ∷ 0x45 ∷ 0x4C ∷ 0x20 ∷ 0x55 ∷ 0x4E ∷ 0x49 ∷ 0x54 ∷ 0x20 ∷ 0x4E ∷ 0x53 ∷ 0x50 ∷ 0x20 ∷ 0x30 ∷ 0x31 ∷ 0x8A ∷ 0x6D ∷ 0xC0 ∷ [])
      ++ (0xC0 ∷ 0x11 ∷ 0x51 ∷ 0xA0 ∷ 0x57 ∷ 0x48 ∷ 0x45 ∷ 0x45 ∷ 0x4C ∷ 0x20 ∷ 0x55 ∷ 0x4E ∷ 0x49 ∷ 0x54 ∷ 0x20 ∷ 0x4E ∷ 0x53 ∷ 0x50 ∷ 0x20 ∷ 0x30 ∷ 0x31 ∷ 0x83 ∷ 0x11 ∷ 0xC0 ∷ []))
      × (s.left.diagnostics ≡ no_counts))
      × (let s = shown_of 1028 zeros
      (on 1 (0xC0 ∷ 0x41 ∷ 0x11 ∷ 0x80 ∷ 0xD8 ∷ 0x6D ∷ 0xC0 ∷ []) ++ on 1 (0xC0 ∷ 0x61 ∷ 0x11 ∷ 0x80 ∷ 0xE3 ∷ 0x6E ∷ 0xC0 ∷ [])
      ++ on 0 (0xC0 ∷ 0x51 ∷ 0x11 ∷ 0x80 ∷ 0x4D ∷ 0xE8 ∷ 0xC0 ∷ []) ++ on 0 (0xC0 ∷ 0x71 ∷ 0x11 ∷ 0x80 ∷ 0x76 ∷ 0xEB ∷ 0xC0 ∷ [])) in
      (s.answers ≡ replicate 6 0 ++ (9 ∷ replicate 6 0) ++ (9 ∷ replicate 6 0) ++ (9 ∷ replicate 6 0) ++ (9 ∷ []))
      × (s.sent ≡ both [] []) × (s.left.diagnostics ≡ no_counts))
  -- While C0 41 11 stands open on port 0 a PING to 0x71 is answered there: the run is thrown away and counted in 0x0C. What is left of it, FESC and its FEND
  -- too, is 0 and stores nothing. DIAGNOSTIC 0C 0D to 0x61 then shows one run thrown away and no reply lost.
  pub t01_thrown_away : let s = shown_of 1028 zeros
      (on 0 (0xC0 ∷ 0x41 ∷ 0x11 ∷ []) ++ on 1 (0xC0 ∷ 0x71 ∷ 0x11 ∷ 0x80 ∷ 0x76 ∷ 0xEB ∷ 0xC0 ∷ []) ++ on 0 (0x80 ∷ 0xD8 ∷ 0x6D ∷ 0xDB ∷ 0xC0 ∷ [])
      ++ on 0 (0xC0 ∷ 0x61 ∷ 0x11 ∷ 0x84 ∷ 0x0C ∷ 0x0D ∷ 0xAD ∷ 0x58 ∷ 0xC0 ∷ [])) in
      (s.answers ≡ replicate 9 0 ++ (1 ∷ replicate 5 0) ++ replicate 8 0 ++ (1 ∷ []))
      × (s.sent.port0
      ≡ (0xC0 ∷ 0x11 ∷ 0x71 ∷ 0xA0 ∷ 0x57 ∷ 0x48 ∷ 0x45 ∷ 0x45 ∷ 0x4C ∷ 0x20 ∷ 0x55 ∷ 0x4E ∷ 0x49 ∷ 0x54 ∷ 0x20 ∷ 0x4E ∷ 0x53 ∷ 0x50 ∷ 0x20 ∷ 0x30 ∷ 0x31 ∷ 0x91 ∷ 0xE9 ∷ 0xC0 ∷ [])
      ++ (0xC0 ∷ 0x11 ∷ 0x61 ∷ 0xA4 ∷ 0x0C ∷ 0x01 ∷ 0x00 ∷ 0x00 ∷ 0x00 ∷ 0x0D ∷ 0x00 ∷ 0x00 ∷ 0x00 ∷ 0x00 ∷ 0x14 ∷ 0x50 ∷ 0xC0 ∷ []))
      × (s.sent.port1 ≡ []) × (s.left.diagnostics ≡ once_at 0x0C)
      × (take 4 (shown_of 1028 zeros (on 0 (0xC0 ∷ 0x41 ∷ 0x11 ∷ []) ++ on 1 (0xC0 ∷ 0x71 ∷ 0x11 ∷ 0x80 ∷ 0x76 ∷ 0xEB ∷ 0xC0 ∷ []) ++ on 0 (0x80 ∷ 0xD8 ∷ 0x6D ∷ 0xDB ∷ 0xC0 ∷ []))).left.buffers.messages.port0 ≡ 0x41 ∷ 0x11 ∷ 0x00 ∷ 0x00 ∷ [])
  -- The same the other way round: C0 DB stands open on port 1 while a PING to 0x41 comes on port 0 and is answered on port 1: counted in 0x13.
  pub t01_other_port : let s = shown_of 1028 zeros (on 1 (0xC0 ∷ 0xDB ∷ []) ++ on 0 (0xC0 ∷ 0x41 ∷ 0x11 ∷ 0x80 ∷ 0xD8 ∷ 0x6D ∷ 0xC0 ∷ []) ++ on 1 (0xDC ∷ 0xC0 ∷ [])) in
      (s.answers ≡ replicate 8 0 ++ (1 ∷ 0 ∷ 0 ∷ [])) × (s.left.diagnostics ≡ once_at 0x13)
  -- These counts move after the reply is built: with C0 DB open on port 1, DIAGNOSTIC 13 to 0x41 is answered there with 0, and its own reply moves 0x13 to 1.
  pub t01_built_before : let s = shown_of 1028 zeros (on 1 (0xC0 ∷ 0xDB ∷ []) ++ on 0 (0xC0 ∷ 0x41 ∷ 0x11 ∷ 0x84 ∷ 0x13 ∷ 0xD2 ∷ 0x1F ∷ 0xC0 ∷ [])) in
      (s.answers ≡ replicate 9 0 ++ (1 ∷ []))
      × (s.sent ≡ both [] (0xC0 ∷ 0x11 ∷ 0x41 ∷ 0xA4 ∷ 0x13 ∷ 0x00 ∷ 0x00 ∷ 0x00 ∷ 0x00 ∷ 0x7A ∷ 0xC7 ∷ 0xC0 ∷ []))
      × (s.left.diagnostics ≡ once_at 0x13)
  -- A PING to 0x61 while port 0 is sending is done, and its reply is lost: answer 2, counted in 0x0D, and no reply buffer changes. A runt on port 1 is
  -- counted in 0x0F. On port 2 a byte is 27.
  pub t01_lost : let s = shown_of 1028 zeros (on_while true false 0 (0xC0 ∷ 0x61 ∷ 0x11 ∷ 0x80 ∷ 0xE3 ∷ 0x6E ∷ 0xC0 ∷ [])) in
      (s.answers ≡ replicate 6 0 ++ (2 ∷ [])) × (s.sent ≡ both [] []) × (s.left.diagnostics ≡ once_at 0x0D) × (s.left.buffers.replies ≡ both (replicate 2068 0) (replicate 2068 0))
      × ((shown_of 1028 zeros (on 1 (0xC0 ∷ 0x01 ∷ 0xC0 ∷ []))).answers ≡ 0 ∷ 0 ∷ 6 ∷ [])
      × ((shown_of 1028 zeros (on 1 (0xC0 ∷ 0x01 ∷ 0xC0 ∷ []))).left.diagnostics ≡ once_at 0x0F)
      × ((shown_of 1028 zeros (on 2 (0xC0 ∷ []))).answers ≡ 27 ∷ [])
  -- A command with code 0x05 to 0x51 while port 1 is sending is refused, and its NACK is lost: answer 4, counted in 0x14. A DIAGNOSTIC that loses its own
  -- reply is done, and counted in 0x0D.
  pub t01_lost_nack : ((shown_of 1028 zeros (on_while false true 1 (0xC0 ∷ 0x51 ∷ 0x11 ∷ 0x85 ∷ 0xE0 ∷ 0xBF ∷ 0xC0 ∷ []))).answers ≡ replicate 6 0 ++ (4 ∷ []))
      × ((shown_of 1028 zeros (on_while false true 1 (0xC0 ∷ 0x51 ∷ 0x11 ∷ 0x85 ∷ 0xE0 ∷ 0xBF ∷ 0xC0 ∷ []))).left.diagnostics ≡ once_at 0x14)
      × ((shown_of 1028 zeros (on_while true true 0 (0xC0 ∷ 0x61 ∷ 0x11 ∷ 0x84 ∷ 0x0D ∷ 0x7E ∷ 0x69 ∷ 0xC0 ∷ []))).answers ≡ replicate 7 0 ++ (2 ∷ []))
      × ((shown_of 1028 zeros (on_while true true 0 (0xC0 ∷ 0x61 ∷ 0x11 ∷ 0x84 ∷ 0x0D ∷ 0x7E ∷ 0x69 ∷ 0xC0 ∷ []))).left.diagnostics ≡ once_at 0x0D)
  -- A PING to 0x71 comes on port 1 between the bytes of one to 0x61 on port 0, while port 0 is sending: its reply is lost, which throws nothing away, and the
  -- PING to 0x61 is then answered. Of the counts only 0x0D has moved.
  pub t01_between : let s = shown_of 1028 zeros
      (on 0 (0xC0 ∷ 0x61 ∷ 0x11 ∷ []) ++ on_while true false 1 (0xC0 ∷ 0x71 ∷ 0x11 ∷ 0x80 ∷ 0x76 ∷ 0xEB ∷ 0xC0 ∷ []) ++ on 0 (0x80 ∷ 0xE3 ∷ 0x6E ∷ 0xC0 ∷ [])) in
      (s.answers ≡ replicate 9 0 ++ (2 ∷ 0 ∷ 0 ∷ 0 ∷ 1 ∷ []))
      × (s.sent
      ≡ both (0xC0 ∷ 0x11 ∷ 0x61 ∷ 0xA0 ∷ 0x57 ∷ 0x48 ∷ 0x45 ∷ 0x45 ∷ 0x4C ∷ 0x20 ∷ 0x55 ∷ 0x4E ∷ 0x49 ∷ 0x54 ∷ 0x20 ∷ 0x4E ∷ 0x53 ∷ 0x50 ∷ 0x20 ∷ 0x30 ∷ 0x31 ∷ 0x98 ∷ 0x95 ∷ 0xC0 ∷ []) [])
      × (s.left.diagnostics ≡ once_at 0x0D)
  -- 02, T-02: SPEED holds 100.0. WRITE FILE 15 01 02 03 04: answer 1, the reply shows SPEED as it is, and nothing is stored. WRITE EDAC
  -- 52 00 AA BB CC DD: answer 1, the two bytes before SPEED are stored, and the reply shows those and SPEED's first two.
  pub t02 : Shows with_speed
      (init ++ (0xC0 ∷ 0x41 ∷ 0x11 ∷ 0x88 ∷ 0x15 ∷ 0x01 ∷ 0x02 ∷ 0x03 ∷ 0x04 ∷ 0x7F ∷ 0xC1 ∷ 0xC0 ∷ []))
      (init_answers ++ replicate 11 0 ++ (1 ∷ []))
      (init_reply ++ (0xC0 ∷ 0x11 ∷ 0x41 ∷ 0xA8 ∷ 0x15 ∷ 0x00 ∷ 0x00 ∷ 0xC8 ∷ 0x42 ∷ 0x6A ∷ 0xA8 ∷ 0xC0 ∷ []))
      no_counts with_speed
      × Shows with_speed
      (init ++ (0xC0 ∷ 0x41 ∷ 0x11 ∷ 0x8A ∷ 0x52 ∷ 0x00 ∷ 0xAA ∷ 0xBB ∷ 0xCC ∷ 0xDD ∷ 0x29 ∷ 0xAB ∷ 0xC0 ∷ []))
      (init_answers ++ replicate 12 0 ++ (1 ∷ []))
      (init_reply ++ (0xC0 ∷ 0x11 ∷ 0x41 ∷ 0xAA ∷ 0x52 ∷ 0x00 ∷ 0xAA ∷ 0xBB ∷ 0x00 ∷ 0x00 ∷ 0xB6 ∷ 0x81 ∷ 0xC0 ∷ []))
      no_counts (stored with_speed 0x052 (0xAA ∷ 0xBB ∷ []))
  -- 02, T-06: a set-up at 259 is refused, and hands back a record with strap 8 and else zeros. At a limit of 260 a run of 266 bytes is oversize, and a PEEK of 257 bytes is
  -- refused, which at 1,028 is an access to memory not fitted.
  pub t06 : (set_up_of 1 259 true (lent_with zeros)
      ≡ outcome
      (record {
        strap = 8;
        limit = 0;
        mode = Bootloader;
        locked = false;
        bootloader_len = 0;
        fram_len = 0;
        ports = record { port0 = Hearing (record { place = Fresh; count = 0 }); port1 = Hearing (record { place = Fresh; count = 0 }) };
      })
      BadLimit (lent_with zeros))
      × ShowsAt 260 zeros (0xC0 ∷ (replicate 266 0x55 ++ (0xC0 ∷ []))) (replicate 267 0 ++ (7 ∷ [])) [] (once_at 0x09) zeros
      × ShowsAt 260 zeros (0xC0 ∷ 0x41 ∷ 0x11 ∷ 0x82 ∷ 0x00 ∷ 0x00 ∷ 0x04 ∷ 0x20 ∷ 0x01 ∷ 0x01 ∷ 0x61 ∷ 0xF7 ∷ 0xC0 ∷ []) (replicate 12 0 ++ (3 ∷ []))
      (0xC0 ∷ 0x11 ∷ 0x41 ∷ 0x82 ∷ 0x00 ∷ 0x00 ∷ 0x04 ∷ 0x20 ∷ 0x01 ∷ 0x01 ∷ 0x1F ∷ 0xD0 ∷ 0xC0 ∷ []) no_counts zeros
      × Shows zeros (0xC0 ∷ 0x41 ∷ 0x11 ∷ 0x82 ∷ 0x00 ∷ 0x00 ∷ 0x04 ∷ 0x20 ∷ 0x01 ∷ 0x01 ∷ 0x61 ∷ 0xF7 ∷ 0xC0 ∷ []) (replicate 12 0 ++ (10 ∷ [])) [] no_counts zeros
  -- 02, T-07: POKE 20000000 AA is stored in bootloader FRAM. INIT DEADBEEF is echoed, and diagnostic 0x06 shows CC from then on: POKE 20000000 BB is
  -- echoed, and nothing is stored. A PEEK of the last address of bootloader FRAM and the first of user FRAM is refused, though the first of the two is not fitted.
  pub t07 : let s = shown_by zeros
      ((0xC0 ∷ 0x41 ∷ 0x11 ∷ 0x83 ∷ 0x00 ∷ 0x00 ∷ 0x00 ∷ 0x20 ∷ 0xAA ∷ 0x62 ∷ 0x92 ∷ 0xC0 ∷ [])
      ++ (0xC0 ∷ 0x41 ∷ 0x11 ∷ 0x81 ∷ 0xEF ∷ 0xBE ∷ 0xAD ∷ 0xDE ∷ 0x88 ∷ 0x50 ∷ 0xC0 ∷ [])
      ++ (0xC0 ∷ 0x41 ∷ 0x11 ∷ 0x83 ∷ 0x00 ∷ 0x00 ∷ 0x00 ∷ 0x20 ∷ 0xBB ∷ 0x6A ∷ 0x93 ∷ 0xC0 ∷ [])
      ++ (0xC0 ∷ 0x41 ∷ 0x11 ∷ 0x82 ∷ 0xFF ∷ 0xFF ∷ 0x03 ∷ 0x20 ∷ 0x02 ∷ 0xE7 ∷ 0x60 ∷ 0xC0 ∷ [])) in
      (s.answers ≡ replicate 11 0 ++ (1 ∷ replicate 10 0) ++ (1 ∷ replicate 11 0) ++ (1 ∷ replicate 11 0) ++ (3 ∷ []))
      × (s.sent.port1
      ≡ (0xC0 ∷ 0x11 ∷ 0x41 ∷ 0xA3 ∷ 0x00 ∷ 0x00 ∷ 0x00 ∷ 0x20 ∷ 0xAA ∷ 0x44 ∷ 0x5B ∷ 0xC0 ∷ [])
      ++ (0xC0 ∷ 0x11 ∷ 0x41 ∷ 0xA1 ∷ 0xEF ∷ 0xBE ∷ 0xAD ∷ 0xDE ∷ 0xB7 ∷ 0x02 ∷ 0xC0 ∷ [])
      ++ (0xC0 ∷ 0x11 ∷ 0x41 ∷ 0xA3 ∷ 0x00 ∷ 0x00 ∷ 0x00 ∷ 0x20 ∷ 0xBB ∷ 0x4C ∷ 0x5A ∷ 0xC0 ∷ [])
      ++ (0xC0 ∷ 0x11 ∷ 0x41 ∷ 0x82 ∷ 0xFF ∷ 0xFF ∷ 0x03 ∷ 0x20 ∷ 0x02 ∷ 0xA1 ∷ 0x2C ∷ 0xC0 ∷ []))
      × (s.left.diagnostics ≡ set no_counts 0x06 0xCC) × (s.left.frams.bootloader.fram ≡ 0xAA ∷ replicate 255 0) × (s.left.frams.user.fram ≡ replicate 256 0)
  -- 02, T-13: the CRC of a block of user FRAM costs 1. The same less its last byte costs 255, though poll is clear and nothing is sent. With the last
  -- address before the first it is refused and costs nothing.
  pub t13 : let s = shown_by zeros
      ((0xC0 ∷ 0x41 ∷ 0x11 ∷ 0x86 ∷ 0x00 ∷ 0x00 ∷ 0x04 ∷ 0x20 ∷ 0xFF ∷ 0x00 ∷ 0x04 ∷ 0x20 ∷ 0x8F ∷ 0x05 ∷ 0xC0 ∷ [])
      ++ (0xC0 ∷ 0x41 ∷ 0x11 ∷ 0x06 ∷ 0x00 ∷ 0x00 ∷ 0x04 ∷ 0x20 ∷ 0xFE ∷ 0x00 ∷ 0x04 ∷ 0x20 ∷ 0xE3 ∷ 0xDD ∷ 0xC0 ∷ [])
      ++ (0xC0 ∷ 0x41 ∷ 0x11 ∷ 0x86 ∷ 0x01 ∷ 0x00 ∷ 0x04 ∷ 0x20 ∷ 0x00 ∷ 0x00 ∷ 0x04 ∷ 0x20 ∷ 0xE2 ∷ 0x41 ∷ 0xC0 ∷ [])) in
      (s.answers ≡ replicate 14 0 ++ (1 ∷ replicate 14 0) ++ (2 ∷ replicate 14 0) ++ (3 ∷ []))
      × (s.costs ≡ replicate 14 0 ++ (1 ∷ replicate 14 0) ++ (255 ∷ replicate 15 0))
      × (s.sent.port1
      ≡ (0xC0 ∷ 0x11 ∷ 0x41 ∷ 0xA6 ∷ 0x00 ∷ 0x00 ∷ 0x04 ∷ 0x20 ∷ 0xFF ∷ 0x00 ∷ 0x04 ∷ 0x20 ∷ 0x82 ∷ 0x17 ∷ 0x58 ∷ 0x1A ∷ 0xC0 ∷ [])
      ++ (0xC0 ∷ 0x11 ∷ 0x41 ∷ 0x86 ∷ 0x01 ∷ 0x00 ∷ 0x04 ∷ 0x20 ∷ 0x00 ∷ 0x00 ∷ 0x04 ∷ 0x20 ∷ 0x8B ∷ 0x7E ∷ 0xC0 ∷ []))

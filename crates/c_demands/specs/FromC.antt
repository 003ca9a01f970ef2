-- Calls of the functions of include/wheel.h, as their caller sees them: 01, "The unit and its neighbours" and "One byte in, one answer
-- out"; 02, T-01. Assumes nothing.
use Rattle.std.specs.Prelude.{ℕ, ◌+◌, ◌≤◌, max, ◌≡◌, true, false, cond, ◌||◌, ◌⊎◌, List, [], ◌∷◌, ◌++◌, eqb, length, take, get_or, Some, None}
use Rattle.line.specs.Packing.{pack_of}
use Rattle.memory.specs.Bytes.{begun}
use Rattle.carrying.specs.Held.{Frams}
use Rattle.file_commands.specs.WriteFile.{judge_list_of, storage, store_list_of}
use Rattle.ports.specs.declared.Side.{Side}
use Rattle.ports.specs.Sides.{side_of, number_of_side, of_side}
use Rattle.ports.specs.Ports.{answered_on, is_sending}
use Rattle.replying.specs.Replies.{code_of, polls}
use Rattle.commanding.specs.World.{World, message_of, reply_of}
use Rattle.unit.specs.Steps.{set_up_of, step_of}
use Rattle.face.specs.declared.WheelUnit.{WheelUnit}
use Rattle.face.specs.declared.WheelStepped.{WheelStepped}
use Rattle.face.specs.declared.WheelPacked.{WheelPacked}
use Rattle.face.specs.Face.{yes_out}
use Rattle.face.specs.Records.{lock_in, lock_out, sending_in, unit_in, unit_out, returned, returned_by, packing_by}
use Rattle.demands.specs.Calls.{Call, is_on, bytes_on}
use Rattle.demands.specs.Orders.{Way}
use Rattle.demands.specs.Locking.{locks}
use Rattle.demands.specs.Leaving.{heard_ports, heard_messages, has_reply, is_unsaid, is_commanded, counts_after, shown_locked, ports_after}

-- A call of `wheel_step`, apart from its record: the port, the byte, whether each port was sending, what was lent, what came back, and what was lent as
-- the call left it.
pub record FromC : Type 0 where
  pub port : ℕ
  pub byte : ℕ
  pub sending0 : ℕ
  pub sending1 : ℕ
  pub lent : World
  pub back : WheelStepped
  pub left : World

-- The same call as demands speaks of it.
abbrev pub call_of : FromC → Call
call_of c = record { port = c.port; byte = c.byte; sending = sending_in c.sending0 c.sending1; lent = c.lent }

abbrev pub calls_of : List FromC → List Call
calls_of [] = []
calls_of (c ∷ calls) = call_of c ∷ calls_of calls

-- What the contract of `wheel_step` says of a call with this record, and that of `wheel_set_up` (crates/board/src/lib.rt).
abbrev pub Steps : WheelUnit → FromC → Type 0
Steps u c = returned c.back c.left ≡ returned_by (step_of (unit_in u) c.port c.byte (sending_in c.sending0 c.sending1) c.lent)

abbrev pub SetsUp : ℕ → ℕ → ℕ → World → WheelStepped → World → Type 0
SetsUp strap limit locked lent back left = returned back left ≡ returned_by (set_up_of strap limit (lock_in locked) lent)

-- The port on which bytes are to be sent after a call.
abbrev pub sent_from : FromC → Side
sent_from c = side_of c.back.port

-- ---- demand 1

-- What a call of `wheel_step` leaves, by the number of its answer, for any record at all.
pub record LeavesInC (u : WheelUnit) (c : FromC) : Type 0 where
  -- 20 to 27 and 29 change nothing at all: the record comes back as it was read.
  pub nothing_by_a_refused_call : 20 ≤ c.back.answer → (c.back.unit ≡ unit_out (unit_in u)) × (c.left ≡ c.lent)
  -- All but 1 and 2 leave EDAC, both FRAMs with their sums, mode and lock unchanged.
  pub memory_unless_a_command_is_done : (c.back.answer ≡ 1 → ⊥) → (c.back.answer ≡ 2 → ⊥)
      → (c.left.edac ≡ c.lent.edac) × (c.left.frams ≡ c.lent.frams) × (c.back.unit.mode ≡ (unit_out (unit_in u)).mode)
      × (c.back.unit.locked ≡ (unit_out (unit_in u)).locked)
  -- 5 to 8, runs thrown away and replies lost are counted, each on its port; a byte that completes an order to lock (02, T-07) writes the low byte of 0x06,
  -- and locks. Nothing else moves either.
  pub counts : c.left.diagnostics
      ≡ counts_after u.strap (side_of c.port) (heard_ports (unit_in u) c.port c.byte c.lent) (of_side (side_of c.port) (heard_messages (unit_in u) c.port c.byte c.lent))
      c.back.answer (sent_from c) (shown_locked (locks (unit_in u) c.port c.byte c.lent) c.lent.diagnostics)
  pub lock : c.back.unit.locked ≡ lock_out (lock_in u.locked || locks (unit_in u) c.port c.byte c.lent)
  -- Both ports, and both message buffers.
  pub ports : (unit_in c.back.unit).ports ≡ ports_after c.back.answer (sent_from c) (heard_ports (unit_in u) c.port c.byte c.lent)
  pub stored : c.left.buffers.messages ≡ heard_messages (unit_in u) c.port c.byte c.lent
  -- What is to be sent is the first part of the reply buffer of its port; the rest of it, and all of the other, is as it was.
  pub reply : (side : Side)
      → reply_of side c.left ≡ begun (reply_of side c.lent) (take (cond (eqb (number_of_side side) c.back.port) c.back.sent 0) (reply_of side c.left))
  -- 1 to 4 and 10: the message is for an address that is heard on the byte's port.
  pub ours : is_commanded c.back.answer ≡ true
      → answered_on u.strap (side_of c.port) (get_or (of_side (side_of c.port) (heard_messages (unit_in u) c.port c.byte c.lent)) 0 0) ≡ None → ⊥
  -- 1 and 3: poll is set, and the reply is to be sent on the port that the address names, which was not sending. 2 and 4 with poll set: that port was
  -- sending. Where nothing is to be sent the port is 0.
  pub leaving : has_reply c.back.answer ≡ true
      → let message = of_side (side_of c.port) (heard_messages (unit_in u) c.port c.byte c.lent) in
      (answered_on u.strap (side_of c.port) (get_or message 0 0) ≡ Some (sent_from c)) × (polls (get_or message 2 0) ≡ true)
      × (is_sending (sent_from c) (sending_in c.sending0 c.sending1) ≡ false)
  pub losing : is_unsaid c.back.answer ≡ true
      → let message = of_side (side_of c.port) (heard_messages (unit_in u) c.port c.byte c.lent) in
      polls (get_or message 2 0) ≡ true → (telemetry : Side) → answered_on u.strap (side_of c.port) (get_or message 0 0) ≡ Some telemetry
      → is_sending telemetry (sending_in c.sending0 c.sending1) ≡ true
  pub on_no_port : has_reply c.back.answer ≡ false → c.back.port ≡ 0
  pub strap : c.back.unit.strap ≡ u.strap
  pub bootloader_length : c.back.unit.bootloader_len ≡ u.bootloader_len
  pub fram_length : c.back.unit.fram_len ≡ u.fram_len
  pub limit : c.back.unit.limit ≡ u.limit

-- What it says that it cost (02, T-13): 0 for every answer but a CRC command that is done, which costs something; never more than 508 above the number
-- of blocks of the larger FRAM, and so for one memory at most 1,532.
pub record CostsInC (c : FromC) : Type 0 where
  pub nothing_unless_a_command_is_done : (c.back.answer ≡ 1 → ⊥) → (c.back.answer ≡ 2 → ⊥) → c.back.cost ≡ 0
  pub nothing_unless_it_is_crc : (code_of (get_or (message_of (side_of c.port) c.left) 2 0) ≡ 0x06 → ⊥) → c.back.cost ≡ 0
  pub something_of_a_crc_that_is_done : (c.back.answer ≡ 1) ⊎ (c.back.answer ≡ 2) → code_of (get_or (message_of (side_of c.port) c.left) 2 0) ≡ 0x06 → 1 ≤ c.back.cost
  pub by_the_larger_fram : c.back.cost ≤ max (length c.lent.frams.bootloader.sums) (length c.lent.frams.user.sums) + 508
  pub at_most_1532 : c.back.cost ≤ 1532

-- ---- demand 2: bytes on the line of a port, one by one, and those of the other between

-- Each call has the record that the one before gave back, and the message buffer of this port as the one before left it.
abbrev pub OnTheLine : Side → WheelUnit → List ℕ → List FromC → FromC → Type 0
OnTheLine side u message [] c = (message_of side c.lent ≡ message) × Steps u c
OnTheLine side u message (d ∷ calls) c = (message_of side d.lent ≡ message) × Steps u d × OnTheLine side d.back.unit (message_of side d.left) calls c

-- The way of a command that such calls bring, for an address that is answered on a port.
abbrev pub way_of : Side → WheelUnit → List ℕ → ℕ → Side → List FromC → Way
way_of side u message destination telemetry calls =
    record { side = side; unit = unit_in u; message = message; destination = destination; telemetry = telemetry; calls = calls_of calls }

-- None of these calls has a reply that leaves on this port, as what came back says.
abbrev pub NoReplyFromC : Side → List FromC → Type 0
NoReplyFromC side [] = Prim.Unit {0}
NoReplyFromC side (d ∷ calls) = (has_reply d.back.answer ≡ true → d.back.port ≡ number_of_side side → ⊥) × NoReplyFromC side calls

-- A message packed by `wheel_pack`, as its contract says: what came back, and the reply buffer before and afterwards.
abbrev pub Packs : List ℕ → List ℕ → WheelPacked → List ℕ → Type 0
Packs m before back left = packing_by back left ≡ pack_of m before

-- The bytes on this port of some calls, and of one more.
abbrev pub bytes_from_c : Side → List FromC → FromC → List ℕ
bytes_from_c side calls c = bytes_on side (calls_of calls) ++ (c.byte ∷ [])

-- What is to be sent after a call.
abbrev pub to_be_sent : FromC → List ℕ
to_be_sent c = take c.back.sent (reply_of (sent_from c) c.left)

-- The numbers of the answers on this port.
abbrev pub numbers_on : Side → List FromC → List ℕ
numbers_on side [] = []
numbers_on side (c ∷ calls) = cond (is_on side (call_of c)) (c.back.answer ∷ numbers_on side calls) (numbers_on side calls)

-- ---- demand 3: any calls

-- Each call has the record that the one before gave back, and both FRAMs and their sums as the one before left them; all else may be anything,
-- of any length.
abbrev pub Follow : WheelUnit → Frams → List FromC → Type 0
Follow u now [] = Prim.Unit {0}
Follow u now (c ∷ calls) = (c.lent.frams ≡ now) × Steps u c × Follow c.back.unit c.left.frams calls

-- The record, and the FRAMs and sums, that the last of them leaves.
abbrev pub last_unit : WheelUnit → List FromC → WheelUnit
last_unit u [] = u
last_unit u (c ∷ calls) = last_unit c.back.unit calls

abbrev pub last_frams : Frams → List FromC → Frams
last_frams now [] = now
last_frams now (c ∷ calls) = last_frams c.left.frams calls

-- ---- 02, T-11: a list judged, and a list stored

-- What the contract of `wheel_judge_list` says of a call with this limit and list that answered so.
abbrev pub Judges : ℕ → List ℕ → ℕ → Type 0
Judges limit list answer = answer ≡ yes_out (judge_list_of limit list)

-- What the contract of `wheel_store_list` says of a call with this limit, EDAC memory and list that answered so and left this EDAC memory.
abbrev pub Stores : ℕ → List ℕ → List ℕ → ℕ → List ℕ → Type 0
Stores limit edac list answer left = storage answer left ≡ store_list_of limit edac list

-- ---- 02, T-02 and T-11: any calls on one EDAC memory

-- A call of `wheel_set_up`, with its strap, limit and lock, what was lent, what came back and what was lent as the call left it; one of `wheel_step`,
-- with its record; or one of `wheel_store_list`, with its limit, the EDAC memory and the list that were lent, its answer and the EDAC memory that it left.
pub data AnyFromC : Type 0 where
  setting_up : ℕ → ℕ → ℕ → World → WheelStepped → World → AnyFromC
  stepping : WheelUnit → FromC → AnyFromC
  storing : ℕ → List ℕ → List ℕ → ℕ → List ℕ → AnyFromC

-- Each call is lent EDAC memory as the one before left it; all else may be anything, of any length, and another record at each call.
abbrev pub OnOneEdac : List ℕ → List AnyFromC → Type 0
OnOneEdac edac [] = Prim.Unit {0}
OnOneEdac edac (setting_up strap limit locked lent back left ∷ calls) = (lent.edac ≡ edac) × SetsUp strap limit locked lent back left × OnOneEdac left.edac calls
OnOneEdac edac (stepping u c ∷ calls) = (c.lent.edac ≡ edac) × Steps u c × OnOneEdac c.left.edac calls
OnOneEdac edac (storing limit lent list answer left ∷ calls) = (lent ≡ edac) × Stores limit lent list answer left × OnOneEdac left calls

-- EDAC memory as the last of them leaves it.
abbrev pub last_edac : List ℕ → List AnyFromC → List ℕ
last_edac edac [] = edac
last_edac edac (setting_up strap limit locked lent back left ∷ calls) = last_edac left.edac calls
last_edac edac (stepping u c ∷ calls) = last_edac c.left.edac calls
last_edac edac (storing limit lent list answer left ∷ calls) = last_edac left calls

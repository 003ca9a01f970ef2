-- What each answer leaves: 01, "One byte in, one answer out"; 02, T-01 and T-07. Assumes nothing.
use Rattle.std.specs.Prelude.{◌≡◌, ℕ, ◌+◌, ◌-◌, ◌≤◌, ◌⊎◌, Bool, true, false, cond, ◌&&◌, ◌||◌, List, eqb, leb, take, get_or, Option, Some, None}
use Rattle.memory.specs.Bytes.{begun}
use Rattle.memory.specs.Counts.{counted_up}
use Rattle.memory.specs.Status.{status_written}
use Rattle.carrying.specs.Ending.{is_limit}
use Rattle.ports.specs.declared.Side.{Side}
use Rattle.ports.specs.declared.Side.TheVariants.{Zero}
use Rattle.ports.specs.declared.Port.TheVariants.{Throwing}
use Rattle.ports.specs.declared.Both.{Both}
use Rattle.ports.specs.Sides.{side_of, number_of_side, of_side}
use Rattle.ports.specs.Ports.{Ports, Sending, answered_on, port_of, with_port, both_fresh, count_of, is_open, is_sending, first_count, thrown_count, lost_count}
use Rattle.judging.specs.declared.Unit.{Unit}
use Rattle.judging.specs.Judging.{with_ports, judge_of}
use Rattle.answer.specs.Answers.{number_of, sent_of}
use Rattle.replying.specs.Replies.{polls}
use Rattle.commanding.specs.World.{World, reply_of, lengths_of, Outcome}
use Rattle.unit.specs.Steps.{nobody, somebody, prepared_for}

-- The ports and the message buffers once a byte is received; of a refused call as they were.
abbrev pub heard_ports : Unit → ℕ → ℕ → World → Ports
heard_ports u number byte w = (judge_of u number byte (lengths_of w) w.buffers.messages).unit.ports

abbrev pub heard_messages : Unit → ℕ → ℕ → World → Both (List ℕ)
heard_messages u number byte w = (judge_of u number byte (lengths_of w) w.buffers.messages).message

-- A reply leaves with 1 and 3. With 2 and 4 none does.
abbrev pub has_reply : ℕ → Bool
has_reply number = eqb number 1 || eqb number 3

abbrev pub is_unsaid : ℕ → Bool
is_unsaid number = eqb number 2 || eqb number 4

-- The answers to a command for this unit: done or refused, 1 to 4, and 10.
abbrev pub is_commanded : ℕ → Bool
is_commanded number = has_reply number || is_unsaid number || eqb number 10

-- One more reply lost, on the port on which it should have left.
abbrev pub one_more_lost : Option Side → List ℕ → List ℕ
one_more_lost (Some telemetry) diagnostics = counted_up diagnostics (lost_count telemetry)
one_more_lost None diagnostics = diagnostics

-- The counts by the answer. 5 to 8 each add one to an error count of the byte's port, in that order. 1 and 3 add one to the runs thrown away on the port
-- on which the reply leaves, if a run is open there; 2 and 4 one to the replies lost, if poll was set. No other answer moves a count. `strap` is the
-- unit's, `ports` are the ports once the byte is received and `message` is the message buffer of the byte's port.
abbrev pub counts_after : ℕ → Side → Ports → List ℕ → ℕ → Side → List ℕ → List ℕ
counts_after strap side ports message number port diagnostics =
    cond (leb 5 number && leb number 8) (counted_up diagnostics (first_count side + (number - 5)))
    (cond (has_reply number && is_open (port_of port ports)) (counted_up diagnostics (thrown_count port))
    (cond (is_unsaid number && polls (get_or message 2 0)) (one_more_lost (answered_on strap side (get_or message 0 0)) diagnostics) diagnostics))

-- And an order to lock that is done writes the low byte of 0x06. Nothing else moves a diagnostic.
abbrev pub shown_locked : Bool → List ℕ → List ℕ
shown_locked locking diagnostics = cond locking (status_written true diagnostics) diagnostics

-- The ports by the answer: a run that is open on the port on which a reply leaves is thrown away.
abbrev pub ports_after : ℕ → Side → Ports → Ports
ports_after number port ports =
    cond (has_reply number && is_open (port_of port ports)) (with_port port ports (Throwing (count_of (port_of port ports)))) ports

-- How many bytes of the reply buffer of a port are sent.
abbrev pub sent_on : Side → Outcome → ℕ
sent_on side o = cond (eqb (number_of_side side) (number_of_side o.port)) (sent_of o.answer) 0

-- What any call with a byte leaves, by its answer, and by whether the byte completes an order to lock (`locks`). `heard` are the ports, and `messages` the
-- message buffers, once the byte is received (`heard_ports`, `heard_messages`).
pub record Leaves (u : Unit) (number : ℕ) (sending : Sending) (heard : Ports) (messages : Both (List ℕ)) (locking : Bool) (w : World) (o : Outcome) : Type 0 where
  -- 20 to 27 and 29 change nothing at all.
  pub nothing_by_a_refused_call : 20 ≤ number_of o.answer → (o.unit ≡ u) × (o.world ≡ w)
  -- 3 to 10 leave EDAC, both FRAMs with their sums, mode and lock unchanged, and so do 0, 20 to 27 and 29: all but a command done.
  pub memory_unless_a_command_is_done : (number_of o.answer ≡ 1 → ⊥) → (number_of o.answer ≡ 2 → ⊥)
      → (o.world.edac ≡ w.edac) × (o.world.frams ≡ w.frams) × (o.unit.mode ≡ u.mode) × (o.unit.locked ≡ u.locked)
  pub counts : o.world.diagnostics
      ≡ counts_after u.strap (side_of number) heard (of_side (side_of number) messages) (number_of o.answer) o.port (shown_locked locking w.diagnostics)
  -- What is locked stays so, and nothing but an order to lock locks.
  pub lock : o.unit.locked ≡ (u.locked || locking)
  pub ports : o.unit.ports ≡ ports_after (number_of o.answer) o.port heard
  pub stored : o.world.buffers.messages ≡ messages
  -- A sent reply is the written first part of the reply buffer of its port; the other bytes of that buffer, and the whole of each where nothing is sent,
  -- are unchanged.
  pub reply : (side : Side) → reply_of side o.world ≡ begun (reply_of side w) (take (sent_on side o) (reply_of side o.world))
  -- 1 to 4 and 10: the message is for an address that is heard on the byte's port.
  pub ours : is_commanded (number_of o.answer) ≡ true → answered_on u.strap (side_of number) (get_or (of_side (side_of number) messages) 0 0) ≡ None → ⊥
  -- 1 and 3: poll is set, and the reply leaves on the port that the address names, which is not sending. 2 and 4 with poll set: that port is sending. Where no
  -- reply leaves the port is told as 0.
  pub leaving : has_reply (number_of o.answer) ≡ true
      → (answered_on u.strap (side_of number) (get_or (of_side (side_of number) messages) 0 0) ≡ Some o.port) × (polls (get_or (of_side (side_of number) messages) 2 0) ≡ true)
      × (is_sending o.port sending ≡ false)
  pub losing : is_unsaid (number_of o.answer) ≡ true → polls (get_or (of_side (side_of number) messages) 2 0) ≡ true
      → (telemetry : Side) → answered_on u.strap (side_of number) (get_or (of_side (side_of number) messages) 0 0) ≡ Some telemetry → is_sending telemetry sending ≡ true
  pub on_no_port : has_reply (number_of o.answer) ≡ false → o.port ≡ Zero
  pub strap : o.unit.strap ≡ u.strap
  pub bootloader_length : o.unit.bootloader_len ≡ u.bootloader_len
  pub fram_length : o.unit.fram_len ≡ u.fram_len
  pub limit : o.unit.limit ≡ u.limit

-- The number of an answer if nothing were sent: 2 for 1 and 4 for 3.
abbrev pub without_reply : ℕ → ℕ
without_reply number = cond (has_reply number) (number + 1) number

-- Two outcomes that differ in nothing but what becomes of a reply: its port, its buffer, its counts, and a run that it throws away.
pub record AlikeButForReplies (a b : Outcome) : Type 0 where
  pub answer : without_reply (number_of a.answer) ≡ without_reply (number_of b.answer)
  pub cost : a.cost ≡ b.cost
  pub memory : (a.world.edac ≡ b.world.edac) × (a.world.frams ≡ b.world.frams)
  pub messages : a.world.buffers.messages ≡ b.world.buffers.messages
  pub record_but_its_ports : with_ports a.unit both_fresh ≡ with_ports b.unit both_fresh

-- The refusals of set-up, which has no 26 and no 27: 20 to 25, or 29 where the limit is outside 260 to 1,028.
abbrev pub SetUpRefusal : ℕ → ℕ → Type 0
SetUpRefusal limit number = ((20 ≤ number) × (number ≤ 25)) ⊎ ((number ≡ 29) × (is_limit limit ≡ false))

-- What set-up leaves, by its answer. 0 computes all sums, writes the low byte of 0x06 and changes nothing else that is lent; a refusal changes
-- nothing at all and hands back a record that is never served.
pub record SetUpLeaves (strap limit : ℕ) (locked : Bool) (w : World) (o : Outcome) : Type 0 where
  pub when_set_up : number_of o.answer ≡ 0 → (o.unit ≡ somebody strap limit locked w) × (o.world ≡ prepared_for locked w)
  pub refused : (number_of o.answer ≡ 0 → ⊥) → SetUpRefusal limit (number_of o.answer) × (o.unit ≡ nobody) × (o.world ≡ w)
  -- Neither sends anything.
  pub sends_nothing : (sent_of o.answer ≡ 0) × (o.port ≡ Zero)

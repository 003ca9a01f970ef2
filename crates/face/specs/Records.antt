-- The unit's record and its answers as C has them: numbers for a mode, for where a port stands, for a lock, for a port that is sending and for an
-- answer. Every number of C means something, so that C can lend any record. Assumes nothing.
use Rattle.std.specs.Prelude.{ℕ, Bool, true, false, cond, not, List, eqb, Result}
use Rattle.line.specs.declared.packing.PackError.{PackError}
use Rattle.line.specs.Packing.{Packing, pack_number_of, pack_sent_of}
use Rattle.line.specs.declared.receiver.Place.{Place}
use Rattle.line.specs.declared.receiver.Place.TheVariants.{Fresh, Run, Escape, Fault}
use Rattle.ports.specs.declared.Side.{Side}
use Rattle.ports.specs.declared.Port.{Port}
use Rattle.ports.specs.declared.Port.TheVariants.{Hearing, Throwing}
use Rattle.ports.specs.Sides.{number_of_side}
use Rattle.ports.specs.Ports.{Sending, count_of}
use Rattle.carrying.specs.declared.Mode.{Mode}
use Rattle.carrying.specs.declared.Mode.TheVariants.{Bootloader, Application}
use Rattle.answer.specs.Answers.{number_of, sent_of}
use Rattle.commanding.specs.World.{World, Outcome}
use Rattle.judging.specs.declared.Unit.{Unit}
use Rattle.answer.specs.declared.Answer.{Answer}
use Rattle.face.specs.declared.WheelUnit.{WheelUnit}
use Rattle.face.specs.declared.WheelStepped.{WheelStepped}
use Rattle.streaming.specs.Streams.{Stream}
use Rattle.face.specs.declared.WheelMany.{WheelMany}
use Rattle.face.specs.declared.WheelPacked.{WheelPacked}

-- 0 is bootloader mode, and any other number application mode.
unfoldable pub mode_in : ℕ → Mode
mode_in number = cond (eqb number 0) Bootloader Application

abbrev pub mode_out : Mode → ℕ
mode_out Bootloader = 0
mode_out Application = 1

-- 0 is a fresh receiver, 1 one in a run, 2 one after FESC, and any other number one after a framing fault. (4 does not come here: see `port_in`.)
unfoldable pub place_in : ℕ → Place
place_in number = cond (eqb number 0) Fresh (cond (eqb number 1) Run (cond (eqb number 2) Escape Fault))

abbrev pub place_out : Place → ℕ
place_out Fresh = 0
place_out Run = 1
place_out Escape = 2
place_out Fault = 3

-- A port by its place and its count: 4 is a run that is thrown away, and any other number where its receiver stands.
unfoldable pub port_in : ℕ → ℕ → Port
port_in place count = cond (eqb place 4) (Throwing count) (Hearing (record { place = place_in place; count = count }))

abbrev pub place_out_of : Port → ℕ
place_out_of (Hearing receiver) = place_out receiver.place
place_out_of (Throwing count) = 4

-- 0 is unlocked, and any other number locked.
abbrev pub lock_in : ℕ → Bool
lock_in number = not (eqb number 0)

abbrev pub lock_out : Bool → ℕ
lock_out false = 0
lock_out true = 1

-- Of each port 0 says that it is silent, and any other number that it is sending.
abbrev pub sending_in : ℕ → ℕ → Sending
sending_in sending0 sending1 = record { port0 = not (eqb sending0 0); port1 = not (eqb sending1 0) }

-- A unit's record as it comes from C, and as it goes to C.
abbrev pub unit_in : WheelUnit → Unit
unit_in u = record {
  strap = u.strap;
  limit = u.limit;
  mode = mode_in u.mode;
  locked = lock_in u.locked;
  bootloader_len = u.bootloader_len;
  fram_len = u.fram_len;
  ports = record { port0 = port_in u.place0 u.count0; port1 = port_in u.place1 u.count1 };
}

abbrev pub unit_out : Unit → WheelUnit
unit_out u = record {
  bootloader_len = u.bootloader_len;
  fram_len = u.fram_len;
  count0 = count_of u.ports.port0;
  count1 = count_of u.ports.port1;
  limit = u.limit;
  strap = u.strap;
  mode = mode_out u.mode;
  place0 = place_out_of u.ports.port0;
  place1 = place_out_of u.ports.port1;
  locked = lock_out u.locked;
}

-- An answer with the unit's record as they go to C: 01's number, and the bytes sent, with their port; and beside it what a command cost.
abbrev pub stepped_out : Unit → Answer → ℕ → Side → WheelStepped
stepped_out u answer cost port = record { unit = unit_out u; sent = sent_of answer; answer = number_of answer; port = number_of_side port; cost = cost }

-- What a call leaves, as C has it: what it gives back, and all that was lent.
pub record Returned : Type 0 where
  pub stepped : WheelStepped
  pub world : World

abbrev pub returned : WheelStepped → World → Returned
returned r w = record { stepped = r; world = w }

abbrev pub returned_by : Outcome → Returned
returned_by o = returned (stepped_out o.unit o.answer o.cost o.port) o.world

-- The same of many bytes, with how many were taken.
pub record ReturnedMany : Type 0 where
  pub many : WheelMany
  pub world : World

abbrev pub returned_many : WheelMany → World → ReturnedMany
returned_many r w = record { many = r; world = w }

abbrev pub returned_many_by : Stream → ReturnedMany
returned_many_by s =
    let o = s.last in returned_many (record { last = stepped_out o.unit o.answer o.cost o.port; taken = s.taken }) o.world

-- What packing answers as it goes to C: 01's number, and the bytes sent.
abbrev pub packed_out : Result ℕ PackError → WheelPacked
packed_out packed = record { sent = pack_sent_of packed; answer = pack_number_of packed }

-- What packing gives back, with the reply buffer as it leaves it.
abbrev pub packing_by : WheelPacked → List ℕ → Packing
packing_by r reply = record { answer = r.answer; sent = r.sent; reply = reply }

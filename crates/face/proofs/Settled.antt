-- The contracts of set-up, of a byte, of many bytes and of packing allow one outcome each, and a record that goes to C comes back as it was.
-- Assumes nothing.
use mathlib.Core.Path.{◌≡◌, refl, sym, ap, ◌∙◌}
use mathlib.Core.Bool.{Bool, true, false}
use mathlib.Core.List.{List}
use Prim.Native.Nat.{ℕ}
use Rattle.line.specs.Packing.{Packing}
use Rattle.line.specs.declared.receiver.Place.{Place}
use Rattle.line.specs.declared.receiver.Place.TheVariants.{Fresh, Run, Escape, Fault}
use Rattle.ports.specs.declared.Port.{Port}
use Rattle.ports.specs.declared.Port.TheVariants.{Hearing, Throwing}
use Rattle.ports.specs.Ports.{count_of}
use Rattle.carrying.specs.declared.Mode.{Mode}
use Rattle.carrying.specs.declared.Mode.TheVariants.{Bootloader, Application}
use Rattle.commanding.specs.World.{World, Outcome}
use Rattle.judging.specs.declared.Unit.{Unit}
use Rattle.face.specs.declared.WheelStepped.{WheelStepped}
use Rattle.streaming.specs.Streams.{Stream}
use Rattle.face.specs.declared.WheelMany.{WheelMany}
use Rattle.face.specs.declared.WheelPacked.{WheelPacked}
use Rattle.face.specs.Records.{mode_in, mode_out, place_in, place_out, port_in, place_out_of, lock_in, lock_out, unit_in, unit_out, Returned, returned, returned_by, ReturnedMany, returned_many, returned_many_by, packing_by}

pub a_call_allows_one_outcome
    : (o : Outcome) (r s : WheelStepped) (v w : World)
    → returned r v ≡ returned_by o
    → returned s w ≡ returned_by o
    → (r ≡ s) × (v ≡ w)
a_call_allows_one_outcome o r s v w a b =
    let same = a ∙ sym b in
    (ap (λ (l : Returned). l.stepped) same, ap (λ (l : Returned). l.world) same)

pub many_bytes_allow_one_outcome
    : (o : Stream) (r s : WheelMany) (v w : World)
    → returned_many r v ≡ returned_many_by o
    → returned_many s w ≡ returned_many_by o
    → (r ≡ s) × (v ≡ w)
many_bytes_allow_one_outcome o r s v w a b =
    let same = a ∙ sym b in
    (ap (λ (l : ReturnedMany). l.many) same, ap (λ (l : ReturnedMany). l.world) same)

pub packing_allows_one_outcome
    : (p : Packing) (r s : WheelPacked) (l m : List ℕ)
    → packing_by r l ≡ p
    → packing_by s m ≡ p
    → (r ≡ s) × (l ≡ m)
packing_allows_one_outcome p r s l m a b =
    let same = a ∙ sym b in
    (ap (λ (q : Packing). record { sent = q.sent; answer = q.answer }) same, ap (λ (q : Packing). q.reply) same)

a_mode_comes_back : (mode : Mode) → mode_in (mode_out mode) ≡ mode
unfolding mode_in
a_mode_comes_back Bootloader = refl
a_mode_comes_back Application = refl

a_receiver_comes_back : (place : Place) (count : ℕ) → port_in (place_out place) count ≡ Hearing (record { place = place; count = count })
unfolding port_in place_in
a_receiver_comes_back Fresh count = refl
a_receiver_comes_back Run count = refl
a_receiver_comes_back Escape count = refl
a_receiver_comes_back Fault count = refl

a_port_comes_back : (port : Port) → port_in (place_out_of port) (count_of port) ≡ port
unfolding port_in
a_port_comes_back (Hearing receiver) = a_receiver_comes_back receiver.place receiver.count
a_port_comes_back (Throwing count) = refl

a_lock_comes_back : (locked : Bool) → lock_in (lock_out locked) ≡ locked
a_lock_comes_back false = refl
a_lock_comes_back true = refl

-- C can hand a record from one call to the next: it means the unit that the call left.
pub a_record_comes_back : (u : Unit) → unit_in (unit_out u) ≡ u
a_record_comes_back u =
    rw (a_mode_comes_back u.mode, a_lock_comes_back u.locked, a_port_comes_back u.ports.port0, a_port_comes_back u.ports.port1)

-- 02, T-01, T-06 and T-07 at their edges, each by computation from the definitions. Assumes nothing.
use mathlib.Core.Path.{◌≡◌, refl}
use mathlib.Core.Bool.{false}
use mathlib.Core.List.{List}
use Prim.Native.Nat.{ℕ}
use lib.ListN.{set, replicate}
use Rattle.std.proofs.Common.{Ok, Err}
use Rattle.crc.specs.Sum.{bit_step, bit_steps, byte_step, sum_from, sum_of}
use Rattle.line.specs.declared.receiver.Place.{Place}
use Rattle.line.specs.declared.receiver.Place.TheVariants.{Fresh, Run, Escape, Fault}
use Rattle.line.specs.declared.receiver.Receiver.{Receiver}
use Rattle.line.specs.Packing.{message_size}
use Rattle.line.specs.Receiver.{opened, receive_of, inside_of, after_escape_of, closed_of, stored_of, counted_of}
use Rattle.carrying.specs.declared.Mode.TheVariants.{Bootloader}
use Rattle.answer.specs.declared.Answer.TheVariants.{Taken, Framing, Runt, Oversize, BadCrc, BadStrap, BadFram, BadSums, BadBuffers, BadCount, BadPort, BadLimit}
use Rattle.ports.specs.declared.Side.TheVariants.{Zero}
use Rattle.ports.specs.declared.Port.{Port}
use Rattle.ports.specs.declared.Port.TheVariants.{Hearing, Throwing}
use Rattle.ports.specs.Ports.{hear_of}
use Rattle.judging.specs.declared.Unit.{Unit}
use Rattle.judging.specs.declared.Lengths.{Lengths}
use Rattle.judging.specs.declared.Verdict.{Verdict}
use Rattle.judging.specs.declared.Verdict.TheVariants.{Quiet}
use Rattle.judging.specs.Fitting.{lengths_fit, set_up_fit, step_fit}
use Rattle.judging.specs.Judging.{Judging, judging, dropped, largest_message, run_of, verdict_of, received_of}

-- what is lent, with FRAMs and sums of these lengths and a reply buffer of this one
abbrev lent_with : ℕ → ℕ → ℕ → ℕ → ℕ → Lengths
lent_with bootloader bootloaders fram sums reply = record {
  edac = 1536;
  bootloader = bootloader;
  bootloader_sums = bootloaders;
  fram = fram;
  sums = sums;
  diagnostics = 31;
  message0 = 1033;
  reply0 = reply;
  message1 = 1033;
  reply1 = 2068;
}

-- and with these lengths of the buffers
abbrev short_of : ℕ → ℕ → ℕ → ℕ → Lengths
short_of message0 reply0 message1 reply1 = record {
  edac = 1536;
  bootloader = 512;
  bootloader_sums = 2;
  fram = 256;
  sums = 1;
  diagnostics = 31;
  message0 = message0;
  reply0 = reply0;
  message1 = message1;
  reply1 = reply1;
}

abbrev lent : ℕ → Lengths
lent reply = lent_with 512 2 256 1 reply

abbrev at : Place → ℕ → Receiver
at place count = record { place = place; count = count }

abbrev unit_on : ℕ → ℕ → Port → Port → Unit
unit_on strap limit port0 port1 = record {
  strap = strap;
  limit = limit;
  mode = Bootloader;
  locked = false;
  bootloader_len = 512;
  fram_len = 256;
  ports = record { port0 = port0; port1 = port1 };
}

abbrev unit : ℕ → Receiver → Unit
unit limit receiver = unit_on 1 limit (Hearing receiver) (Hearing opened)

-- at 1,028 the largest message is that of 01
pub the_largest : (largest_message 1028 ≡ message_size) × (largest_message 260 ≡ 265)
the_largest = (refl, refl)

-- Set-up takes 260 to 1,028, and a number that ends like one of them in 16 bits is another number. 29 comes after 25.
pub set_ups : (set_up_fit 1 259 (lent 2068) ≡ Err BadLimit) × (set_up_fit 1 260 (lent 2068) ≡ Ok tt) × (set_up_fit 1 1028 (lent 2068) ≡ Ok tt)
    × (set_up_fit 1 1029 (lent 2068) ≡ Err BadLimit) × (set_up_fit 1 0 (lent 2068) ≡ Err BadLimit) × (set_up_fit 1 66564 (lent 2068) ≡ Err BadLimit)
    × (set_up_fit 1 259 (lent 2067) ≡ Err BadBuffers)
unfolding set_up_fit lengths_fit
set_ups = (refl, refl, refl, refl, refl, refl, refl)

-- So does every byte, with the limit of its record. 26 is above 1,034 under every limit, and comes before 29; 25 comes before both.
pub calls : (step_fit (unit 259 opened) 0 (lent 2068) ≡ Err BadLimit) × (step_fit (unit 260 opened) 0 (lent 2068) ≡ Ok tt) × (step_fit (unit 1028 opened) 0 (lent 2068) ≡ Ok tt)
    × (step_fit (unit 1029 opened) 0 (lent 2068) ≡ Err BadLimit) × (step_fit (unit 260 (at Run 1034)) 0 (lent 2068) ≡ Ok tt)
    × (step_fit (unit 260 (at Run 1035)) 0 (lent 2068) ≡ Err BadCount) × (step_fit (unit 259 (at Run 1035)) 0 (lent 2068) ≡ Err BadCount)
    × (step_fit (unit 259 (at Run 1034)) 0 (lent 2068) ≡ Err BadLimit) × (step_fit (unit 259 opened) 0 (lent 2067) ≡ Err BadBuffers)
    × (step_fit (unit 259 (at Run 1035)) 0 (lent 2067) ≡ Err BadBuffers)
unfolding step_fit lengths_fit
calls = (refl, refl, refl, refl, refl, refl, refl, refl, refl, refl)

-- 02, T-07: 22 is given for either FRAM, before 23 for the sums of either; after set-up for another length than the one that was set up, too.
pub set_ups_of_two : (set_up_fit 1 260 (lent_with 255 1 256 1 2068) ≡ Err BadFram) × (set_up_fit 1 260 (lent_with 256 1 262400 1025 2068) ≡ Err BadFram)
    × (set_up_fit 1 260 (lent_with 256 2 0 0 2068) ≡ Err BadFram) × (set_up_fit 1 260 (lent_with 256 2 256 1 2068) ≡ Err BadSums)
    × (set_up_fit 1 260 (lent_with 256 1 256 0 2067) ≡ Err BadSums) × (set_up_fit 1 260 (lent_with 262144 1024 256 1 2068) ≡ Ok tt)
unfolding set_up_fit lengths_fit
set_ups_of_two = (refl, refl, refl, refl, refl, refl)

pub calls_of_two : (step_fit (unit 260 opened) 0 (lent_with 256 1 256 1 2068) ≡ Err BadFram) × (step_fit (unit 260 opened) 0 (lent_with 512 2 512 2 2068) ≡ Err BadFram)
    × (step_fit (unit 260 opened) 0 (lent_with 512 1 512 2 2068) ≡ Err BadFram) × (step_fit (unit 260 opened) 0 (lent_with 512 1 256 1 2068) ≡ Err BadSums)
    × (step_fit (unit 260 opened) 0 (lent_with 512 2 256 2 2068) ≡ Err BadSums) × (step_fit (unit 260 opened) 0 (lent_with 512 2 256 1 2068) ≡ Ok tt)
unfolding step_fit lengths_fit
calls_of_two = (refl, refl, refl, refl, refl, refl)

-- a message buffer of zeros, and one byte received at a limit of 260
abbrev zeros : List ℕ
zeros = replicate 300 0

abbrev after : Receiver → ℕ → Judging (List ℕ)
after receiver byte = received_of (unit 260 receiver) Zero byte zeros

abbrev shows : Receiver → Verdict → List ℕ → Judging (List ℕ)
shows receiver verdict message = judging (unit 260 receiver) verdict message

-- The 265th byte is stored, the 266th and later ones are not, and the count stops at 266. A higher one that was lent stays.
pub stored_and_counted : (after (at Run 264) 0x55 ≡ shows (at Run 265) (Quiet Taken) (set zeros 264 0x55)) × (after (at Run 265) 0x55 ≡ shows (at Run 266) (Quiet Taken) zeros)
    × (after (at Run 266) 0x55 ≡ shows (at Run 266) (Quiet Taken) zeros) × (after (at Run 280) 0x55 ≡ shows (at Run 280) (Quiet Taken) zeros)
    × (after (at Escape 1034) 0xDC ≡ shows (at Run 1034) (Quiet Taken) zeros)
unfolding received_of hear_of receive_of inside_of after_escape_of stored_of counted_of verdict_of
stored_and_counted = (refl, refl, refl, refl, refl)

-- At the close 266 is oversize, and so is every count from there to 1,034, unless a fault or a FESC makes it framing.
pub closed : (after (at Run 266) 0xC0 ≡ shows opened (dropped Zero Oversize 2) zeros) × (after (at Run 300) 0xC0 ≡ shows opened (dropped Zero Oversize 2) zeros)
    × (after (at Run 1034) 0xC0 ≡ shows opened (dropped Zero Oversize 2) zeros) × (after (at Escape 300) 0xC0 ≡ shows opened (dropped Zero Framing 0) zeros)
    × (after (at Fault 300) 0xC0 ≡ shows opened (dropped Zero Framing 0) zeros) × (after (at Fresh 300) 0xC0 ≡ shows opened (Quiet Taken) zeros)
    × (after (at Run 4) 0xC0 ≡ shows opened (dropped Zero Runt 1) zeros)
unfolding received_of hear_of receive_of closed_of verdict_of run_of
closed = (refl, refl, refl, refl, refl, refl, refl)

-- 265 bytes are a message, which is judged by its CRC.
pub judged_by_its_crc : after (at Run 265) 0xC0 ≡ shows opened (dropped Zero BadCrc 3) zeros
unfolding received_of hear_of receive_of closed_of verdict_of run_of sum_of sum_from byte_step bit_steps bit_step
judged_by_its_crc = refl

-- 02, T-01: 20 is a strap above 7; 25 a short buffer of either port; 26 a count above 1,034 of either port, whichever the byte is for, in a run that is
-- thrown away too; then 27, then 29.
pub both_ports : (set_up_fit 7 260 (lent 2068) ≡ Ok tt) × (set_up_fit 8 260 (lent 2068) ≡ Err BadStrap) × (step_fit (unit_on 7 260 (Hearing opened) (Hearing opened)) 1 (lent 2068) ≡ Ok tt)
    × (step_fit (unit_on 8 260 (Hearing opened) (Hearing opened)) 1 (lent 2068) ≡ Err BadStrap)
    × (step_fit (unit 260 opened) 0 (short_of 1032 2068 1033 2068) ≡ Err BadBuffers) × (step_fit (unit 260 opened) 0 (short_of 1033 2067 1033 2068) ≡ Err BadBuffers)
    × (step_fit (unit 260 opened) 0 (short_of 1033 2068 1032 2068) ≡ Err BadBuffers) × (step_fit (unit 260 opened) 0 (short_of 1033 2068 1033 2067) ≡ Err BadBuffers)
    × (step_fit (unit_on 1 260 (Hearing opened) (Hearing (at Run 1035))) 0 (lent 2068) ≡ Err BadCount) × (step_fit (unit_on 1 260 (Throwing 1035) (Hearing opened)) 1 (lent 2068) ≡ Err BadCount)
    × (step_fit (unit_on 1 260 (Throwing 1034) (Hearing opened)) 1 (lent 2068) ≡ Ok tt) × (step_fit (unit_on 1 259 (Throwing 1035) (Hearing opened)) 2 (lent 2068) ≡ Err BadCount)
    × (step_fit (unit 259 opened) 2 (lent 2068) ≡ Err BadPort) × (step_fit (unit 259 opened) 255 (lent 2067) ≡ Err BadBuffers) × (step_fit (unit 259 opened) 1 (lent 2068) ≡ Err BadLimit)
unfolding set_up_fit step_fit lengths_fit
both_ports = (refl, refl, refl, refl, refl, refl, refl, refl, refl, refl, refl, refl, refl, refl, refl)

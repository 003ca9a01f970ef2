-- Set-up, and one byte in and one answer out: 01, "The unit and its neighbours" and "One byte in, one answer out"; 02, T-01, T-06 and T-07. Assumes
-- nothing.
use Rattle.std.specs.Prelude.{ℕ, Bool, false, List, length, Ok, Err}
use Rattle.memory.specs.Counts.{counted_up}
use Rattle.memory.specs.Status.{status_written}
use Rattle.blocks.specs.Fram.{Kept, kept, fresh_sums}
use Rattle.carrying.specs.declared.Mode.TheVariants.{Bootloader}
use Rattle.carrying.specs.Held.{Frams, frams}
use Rattle.answer.specs.declared.Answer.TheVariants.{Taken}
use Rattle.ports.specs.Sides.{side_of, of_side}
use Rattle.ports.specs.Ports.{Sending, both_fresh, is_sending}
use Rattle.judging.specs.declared.Unit.{Unit}
use Rattle.judging.specs.declared.Verdict.{Verdict}
use Rattle.judging.specs.declared.Verdict.TheVariants.{Quiet, Dropped, Command}
use Rattle.judging.specs.Fitting.{Fit, set_up_fit}
use Rattle.judging.specs.Judging.{judge_of}
use Rattle.commanding.specs.World.{World, lengths_of, Outcome, outcome, with_frams, with_messages, with_diagnostics}
use Rattle.commanding.specs.Commanded.{commanded_of}

-- ---- set-up

-- The record that a refused set-up hands back: strap 8, which no unit has (02, T-01).
abbrev pub nobody : Unit
nobody = record { strap = 8; limit = 0; mode = Bootloader; locked = false; bootloader_len = 0; fram_len = 0; ports = both_fresh }

-- The record of a unit that was set up.
abbrev pub somebody : ℕ → ℕ → Bool → World → Unit
somebody strap limit locked w = record {
  strap = strap;
  limit = limit;
  mode = Bootloader;
  locked = locked;
  bootloader_len = length w.frams.bootloader.fram;
  fram_len = length w.frams.user.fram;
  ports = both_fresh;
}

-- A memory with all its sums computed, and both.
abbrev pub summed : Kept → Kept
summed memory = kept memory.fram (fresh_sums memory.fram)

abbrev pub both_summed : Frams → Frams
both_summed now = frams (summed now.bootloader) (summed now.user)

-- What set-up writes: all sums, and the low byte of diagnostic 0x06.
abbrev pub prepared_for : Bool → World → World
prepared_for locked w = with_diagnostics (with_frams w (both_summed w.frams)) (status_written locked w.diagnostics)

-- A refused set-up changes nothing that is lent.
abbrev pub set_up_as : Fit → ℕ → ℕ → Bool → World → Outcome
set_up_as (Err answer) strap limit locked w = outcome nobody answer w
set_up_as (Ok _) strap limit locked w = outcome (somebody strap limit locked w) Taken (prepared_for locked w)

-- Set-up computes all sums, starts in bootloader mode with both receivers fresh and with bootloader FRAM locked or not as it is told, which it
-- shows in the diagnostics, answers 0 and changes nothing else that is lent.
unfoldable pub set_up_of : ℕ → ℕ → Bool → World → Outcome
set_up_of strap limit locked w = set_up_as (set_up_fit strap limit (lengths_of w)) strap limit locked w

-- ---- one byte in, one answer out

-- What a verdict comes to: an answer alone, a dropped run that is counted, or a command, which stands in the message buffer `message` and is answered
-- on a port that may be sending.
unfoldable pub served_of : Unit → Verdict → Sending → List ℕ → World → Outcome
served_of u (Quiet answer) sending message w = outcome u answer w
served_of u (Dropped answer channel) sending message w = outcome u answer (with_diagnostics w (counted_up w.diagnostics channel))
served_of u (Command count telemetry) sending message w = commanded_of u telemetry (is_sending telemetry sending) count message w

-- One byte that came in on the port of this number, one answer out. `sending` says which ports are sending.
unfoldable pub step_of : Unit → ℕ → ℕ → Sending → World → Outcome
step_of u number byte sending w =
    let j = judge_of u number byte (lengths_of w) w.buffers.messages in
    served_of j.unit j.verdict sending (of_side (side_of number) j.message) (with_messages w j.message)

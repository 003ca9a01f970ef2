-- Whether a byte locks bootloader FRAM: 02, T-07. Assumes nothing.
use Rattle.std.specs.Prelude.{ℕ, ◌-◌, Bool, false, List, get_or}
use Rattle.memory.specs.Bytes.{stretch}
use Rattle.command.specs.Command.{is_locking}
use Rattle.judging.specs.declared.Unit.{Unit}
use Rattle.judging.specs.declared.Verdict.{Verdict}
use Rattle.judging.specs.declared.Verdict.TheVariants.{Quiet, Dropped, Command}
use Rattle.judging.specs.Judging.{judge_of}
use Rattle.replying.specs.Replies.{code_of}
use Rattle.ports.specs.Sides.{side_of, of_side}
use Rattle.commanding.specs.World.{World, lengths_of}

-- Only a command for the unit can: a sound message of so many bytes, INIT 0xDEADBEEF, in bootloader mode.
abbrev pub locks_by : Unit → Verdict → List ℕ → Bool
locks_by u (Quiet answer) message = false
locks_by u (Dropped answer channel) message = false
locks_by u (Command count telemetry) message = is_locking (code_of (get_or message 2 0)) u.mode (stretch 3 (count - 5) message)

-- A byte by which such a message is closed and served, on the port of this number.
unfoldable pub locks : Unit → ℕ → ℕ → World → Bool
locks u number byte w =
    let j = judge_of u number byte (lengths_of w) w.buffers.messages in locks_by j.unit j.verdict (of_side (side_of number) j.message)

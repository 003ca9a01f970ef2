-- A command carried out and answered: 01, "The message", "Commands" and "One byte in, one answer out"; 02, T-01 and T-13. Assumes nothing.
use Rattle.std.specs.Prelude.{ℕ, ◌-◌, Bool, List, get_or}
use Rattle.memory.specs.Bytes.{stretch}
use Rattle.carrying.specs.Ending.{Ending, ended_of}
use Rattle.carrying.specs.Held.{Held, after}
use Rattle.command.specs.Command.{command_of}
use Rattle.command.specs.Cost.{command_cost}
use Rattle.ports.specs.declared.Side.{Side}
use Rattle.ports.specs.declared.Side.TheVariants.{Zero}
use Rattle.ports.specs.declared.Fate.{Fate}
use Rattle.ports.specs.declared.Fate.TheVariants.{Nothing, Lost, Leaves}
use Rattle.ports.specs.Ports.{settle_of}
use Rattle.judging.specs.declared.Unit.{Unit}
use Rattle.judging.specs.Judging.{with_ports}
use Rattle.replying.specs.Replies.{code_of}
use Rattle.replying.specs.Ports.{fate_of, said_on_of}
use Rattle.commanding.specs.World.{World, Outcome, outcome, costing, with_standing, with_diagnostics, with_replies, held_of, with_held}

-- The port on which a reply leaves; port 0 where none does.
abbrev pub leaves_on : Fate → Side → Side
leaves_on Nothing side = Zero
leaves_on Lost side = Zero
leaves_on Leaves side = side

-- A command that came to an ending, answered on the port that its address names, which is sending or not: what it changed, what is said, and what it
-- cost; and after the reply is built what becomes of it, on that port and in the counts. `destination`, `source`, `control` and `field` are the
-- command's.
unfoldable pub answered : Unit → Side → Bool → ℕ → ℕ → ℕ → List ℕ → Ending Held → World → Outcome
answered u telemetry sending destination source control field ending w =
    let held = after (held_of u w) ending in
    let fate = fate_of (ended_of ending) control sending in
    let s = said_on_of fate telemetry destination source control field ending w.buffers.replies in
    let settled = settle_of fate telemetry u.ports held.standing.diagnostics in
    costing (command_cost (code_of control) (ended_of ending) field) (leaves_on fate telemetry)
    (outcome (with_ports (with_standing u held.standing) settled.ports) s.answer
    (with_diagnostics (with_replies (with_held w held) s.replies) settled.diagnostics))

-- A command for this unit, carried out and answered. Its reply has no more data than the unit's limit allows.
abbrev pub ordered_of : Unit → Side → Bool → ℕ → ℕ → ℕ → List ℕ → World → Outcome
ordered_of u telemetry sending destination source control field w =
    answered u telemetry sending destination source control field (command_of u.limit (code_of control) (held_of u w) field) w

-- The same of a sound message in a message buffer: its first `count` bytes are destination, source, control, data and CRC.
unfoldable pub commanded_of : Unit → Side → Bool → ℕ → List ℕ → World → Outcome
commanded_of u telemetry sending count message w =
    ordered_of u telemetry sending (get_or message 0 0) (get_or message 1 0) (get_or message 2 0) (stretch 3 (count - 5) message) w

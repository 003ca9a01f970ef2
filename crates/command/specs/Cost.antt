-- What a command costs, as a count: 02, T-13. Assumes nothing.
use Rattle.std.specs.Prelude.{ℕ, cond, List, eqb}
use Rattle.carrying.specs.Ending.{Ended}
use Rattle.fram_commands.specs.Cost.{crc_cost}

-- By its code, by what it came to, and by its data: a command other than CRC, 0x06, costs nothing.
abbrev pub command_cost : ℕ → Ended → List ℕ → ℕ
command_cost code ended field = cond (eqb code 0x06) (crc_cost ended field) 0

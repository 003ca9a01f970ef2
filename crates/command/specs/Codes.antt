-- The codes of the commands: ICD 11.4, Table 14. Assumes nothing.
use Rattle.std.specs.Prelude.{ℕ, Bool, true, false}
use Rattle.carrying.specs.declared.Mode.{Mode}
use Rattle.carrying.specs.declared.Mode.TheVariants.{Bootloader, Application}
use Rattle.command.specs.declared.code.Command.{Command}
use Rattle.command.specs.declared.code.Command.TheVariants.{Ping, Init, Peek, Poke, Diagnostic, Crc, ReadFile, WriteFile, ReadEdac, WriteEdac, Gather}

-- The code of each command.
abbrev pub code_of : Command → ℕ
code_of Ping = 0x00
code_of Init = 0x01
code_of Peek = 0x02
code_of Poke = 0x03
code_of Diagnostic = 0x04
code_of Crc = 0x06
code_of ReadFile = 0x07
code_of WriteFile = 0x08
code_of ReadEdac = 0x09
code_of WriteEdac = 0x0A
code_of Gather = 0x0B

-- Whether it is carried out in a mode.
abbrev pub is_allowed : Command → Mode → Bool
is_allowed command Application = true
is_allowed Ping Bootloader = true
is_allowed Init Bootloader = true
is_allowed Peek Bootloader = true
is_allowed Poke Bootloader = true
is_allowed Diagnostic Bootloader = true
is_allowed Crc Bootloader = true
is_allowed ReadFile Bootloader = false
is_allowed WriteFile Bootloader = false
is_allowed ReadEdac Bootloader = false
is_allowed WriteEdac Bootloader = false
is_allowed Gather Bootloader = false

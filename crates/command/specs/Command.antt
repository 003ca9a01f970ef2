-- The command that a code names: 01, "Commands"; ICD 11.4, Table 14. Assumes nothing.
use Rattle.std.specs.Prelude.{ℕ, Bool, true, false, cond, ◌&&◌, List, [], ◌∷◌, eqb}
use Rattle.carrying.specs.declared.Mode.{Mode}
use Rattle.carrying.specs.declared.Mode.TheVariants.{Bootloader, Application}
use Rattle.carrying.specs.Ending.{Ending, refused}
use Rattle.carrying.specs.Held.{Held, reading, on_standing, on_edac, on_frams}
use Rattle.command.specs.Ping.{ping_of}
use Rattle.command.specs.Init.{lock_order, orders, init_of}
use Rattle.fram_commands.specs.ByAddress.{peek_by_address, poke_by_address, crc_by_address}
use Rattle.command.specs.Diagnostic.{diagnostic_of}
use Rattle.file_commands.specs.ReadFile.{read_file_of}
use Rattle.file_commands.specs.WriteFile.{write_file_of}
use Rattle.edac_commands.specs.ReadEdac.{read_edac_of}
use Rattle.edac_commands.specs.WriteEdac.{write_edac_of}
use Rattle.edac_commands.specs.Gather.{gather_of}

-- A row of Table 14: the code, whether the command is carried out in bootloader and in application mode, and what it comes to.
pub record Row : Type 0 where
  pub code : ℕ
  pub bootloader : Bool
  pub application : Bool
  pub comes : Ending Held

abbrev pub row : ℕ → Bool → Bool → Ending Held → Row
row code bootloader application comes =
    record { code = code; bootloader = bootloader; application = application; comes = comes }

-- `room` is the longest data field of a reply, the unit's limit.
abbrev pub table : ℕ → Held → List ℕ → List Row
table room now field =
    row 0x00 true true (reading now ping_of)
    ∷ row 0x01 true true (on_standing now (init_of now.standing field))
    ∷ row 0x02 true true (reading now (peek_by_address room now.frams.bootloader.fram now.frams.user.fram field))
    ∷ row 0x03 true true (on_frams now (poke_by_address room now.standing.locked now.frams field))
    ∷ row 0x04 true true (reading now (diagnostic_of room now.standing.diagnostics field))
    ∷ row 0x06 true true (reading now (crc_by_address now.frams field))
    ∷ row 0x07 false true (reading now (read_file_of room now.edac field))
    ∷ row 0x08 false true (on_edac now (write_file_of room now.edac field))
    ∷ row 0x09 false true (reading now (read_edac_of room now.edac field))
    ∷ row 0x0A false true (on_edac now (write_edac_of room now.edac field))
    ∷ row 0x0B false true (reading now (gather_of room now.edac field))
    ∷ []

-- A command is refused in a mode in which its row has no yes.
abbrev pub in_mode : Mode → Row → Ending Held
in_mode Bootloader r = cond r.bootloader r.comes refused
in_mode Application r = cond r.application r.comes refused

-- Codes 0x05 and 0x0C to 0x1F, which no row has, are refused.
abbrev pub found_in : List Row → Mode → ℕ → Ending Held
found_in [] mode code = refused
found_in (r ∷ rows) mode code = cond (eqb code r.code) (in_mode mode r) (found_in rows mode code)

-- What the command of a code comes to, in the mode that is held.
unfoldable pub command_of : ℕ → ℕ → Held → List ℕ → Ending Held
command_of room code now field = found_in (table room now field) now.standing.mode code

-- Whether a command is the order to lock bootloader FRAM (02, T-07): INIT 0xDEADBEEF, in bootloader mode.
abbrev pub is_locking : ℕ → Mode → List ℕ → Bool
is_locking code mode field = eqb code 0x01 && orders lock_order mode field

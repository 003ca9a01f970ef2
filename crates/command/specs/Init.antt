-- INIT 0x01 (01, "Commands"; 02, T-07; ICD 11.6). Assumes nothing.
use Rattle.std.specs.Prelude.{ℕ, Bool, true, false, cond, ◌&&◌, List, [], eqb, length}
use Rattle.memory.specs.Status.{status_written}
use Rattle.carrying.specs.declared.Mode.{Mode}
use Rattle.carrying.specs.declared.Mode.TheVariants.{Bootloader, Application}
use Rattle.carrying.specs.Ending.{Ending, done, refused}
use Rattle.carrying.specs.Held.{Standing, standing}
use Rattle.field.specs.Fields.{word32_at}

abbrev pub application_start : ℕ
application_start = 0x20050000

abbrev pub lock_order : ℕ
lock_order = 0xDEADBEEF

-- Four bytes with this value, in bootloader mode.
abbrev pub orders : ℕ → Mode → List ℕ → Bool
orders value Bootloader field = eqb (length field) 4 && eqb (word32_at field 0) value
orders value Application field = false

-- Bootloader FRAM locked, which the diagnostics show; the mode stays. (Nothing unlocks it.)
abbrev pub locked_from : Standing → Standing
locked_from now = standing now.mode true (status_written true now.diagnostics)

-- No data: empty reply, bootloader mode. The start of the application: echoed, application mode. The order to lock: echoed, bootloader FRAM
-- locked. All else refused.
unfoldable pub init_of : Standing → List ℕ → Ending Standing
init_of now field =
    cond (eqb (length field) 0) (done [] (standing Bootloader now.locked now.diagnostics))
    (cond (orders application_start now.mode field) (done field (standing Application now.locked now.diagnostics))
    (cond (orders lock_order now.mode field) (done field (locked_from now)) refused))

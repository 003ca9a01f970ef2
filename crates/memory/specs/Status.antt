-- Diagnostic 0x06, the FRAM status bytes (ICD 12.3; 02, T-07): its low byte is bootloader FRAM's. Assumes nothing.
use Rattle.std.specs.Prelude.{ℕ, ◌+◌, ◌*◌, ◌/◌, Bool, cond, List, get_or, set}

abbrev pub fram_status : ℕ
fram_status = 0x06

-- 0x40 unlocked, 0xCC locked.
abbrev pub status_byte : Bool → ℕ
status_byte locked = cond locked 0xCC 0x40

-- The diagnostics with the low byte of 0x06 written, and no other byte of it.
unfoldable pub status_written : Bool → List ℕ → List ℕ
status_written locked diagnostics = set diagnostics fram_status (get_or diagnostics fram_status 0 / 256 * 256 + status_byte locked)

-- PEEK, POKE and CRC on the FRAM that their address names (02, T-07): each is one command on one memory with kept sums, used for both. Assumes nothing.
use Rattle.std.specs.Prelude.{ℕ, Bool, false, List}
use Rattle.carrying.specs.Ending.{Ending}
use Rattle.carrying.specs.Held.{Frams, Which, one_of, fram_of, with_fram, inside}
use Rattle.fram_commands.specs.Windows.{first_of, which_of}
use Rattle.fram_commands.specs.Peek.{peek_of}
use Rattle.fram_commands.specs.Poke.{poke_of}
use Rattle.fram_commands.specs.Crc.{crc_of}

-- `bootloader` and `user` are the bytes of the two.
unfoldable pub peek_by_address : ℕ → List ℕ → List ℕ → List ℕ → Ending (Unit {0})
peek_by_address room bootloader user field = let which = which_of field in peek_of room (first_of which) (one_of which bootloader user) field

-- Bootloader FRAM is locked or not; user FRAM never is.
abbrev pub lock_of : Which → Bool → Bool
lock_of which locked = one_of which locked false

unfoldable pub poke_by_address : ℕ → Bool → Frams → List ℕ → Ending Frams
poke_by_address room locked now field =
    let which = which_of field in inside (with_fram which now) (poke_of room (first_of which) (lock_of which locked) (fram_of which now) field)

unfoldable pub crc_by_address : Frams → List ℕ → Ending (Unit {0})
crc_by_address now field = let which = which_of field in crc_of (first_of which) (fram_of which now) field

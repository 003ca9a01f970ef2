-- 02, T-06: both sides of each edge at the least limit, 260, by computation. At 1,028 they are those of 01, in the rooms of the commands. Assumes nothing.
use mathlib.Core.Path.{◌≡◌, refl}
use mathlib.Core.List.{List, [], ◌∷◌, ◌++◌}
use mathlib.Core.Bool.{true, false}
use Prim.Native.Nat.{ℕ}
use lib.ListN.{replicate}
use Rattle.field.specs.Reading.{listed_from}
use Rattle.memory.specs.Edac.{body_size, file_shown}
use Rattle.blocks.specs.Fram.{kept, place_of}
use Rattle.carrying.specs.declared.Mode.TheVariants.{Application}
use Rattle.carrying.specs.Ending.{Ending, unfitted}
use Rattle.carrying.specs.Held.{frams, standing, Held, held}
use Rattle.carrying.proofs.Asking.{is_done, is_refused}
use Rattle.fram_commands.specs.Peek.{peek_of, peek_range_of}
use Rattle.fram_commands.specs.ByAddress.{peek_by_address}
use Rattle.file_commands.specs.ReadFile.{files_shown, files_width, read_file_of}
use Rattle.edac_commands.specs.ReadEdac.{read_edac_of, read_edac_range_of}
use Rattle.edac_commands.specs.Gather.{gather_of}
use Rattle.command.specs.Diagnostic.{all_channels, channels_shown, diagnostic_of}
use Rattle.command.specs.Command.{command_of}

abbrev now : Held
now = held (standing Application false (replicate 31 0)) (replicate 1536 0) (frams (kept (replicate 256 0) (replicate 1 0)) (kept (replicate 512 0) (replicate 2 0)))

-- a command at a limit of 260
abbrev at_260 : ℕ → List ℕ → Ending Held
at_260 code field = command_of 260 code now field

-- PEEK of 256 bytes, and of 257; outside FRAM 256 bytes are an access to memory not fitted, 257 refused all the same
pub peek_256 : (is_done (at_260 0x02 (0x00 ∷ 0x00 ∷ 0x04 ∷ 0x20 ∷ 0x00 ∷ 0x01 ∷ [])) ≡ true) × (is_refused (at_260 0x02 (0x00 ∷ 0x00 ∷ 0x04 ∷ 0x20 ∷ 0x01 ∷ 0x01 ∷ [])) ≡ true)
    × (at_260 0x02 (0x00 ∷ 0x00 ∷ 0x00 ∷ 0x00 ∷ 0x00 ∷ 0x01 ∷ []) ≡ unfitted) × (is_refused (at_260 0x02 (0x00 ∷ 0x00 ∷ 0x00 ∷ 0x00 ∷ 0x01 ∷ 0x01 ∷ [])) ≡ true)
unfolding command_of peek_by_address peek_of peek_range_of place_of
peek_256 = (refl, refl, refl, refl)

-- a one-byte count of 0 asks for 256, which has room under every limit
pub peek_a_count_of_0 : is_done (at_260 0x02 (0x00 ∷ 0x00 ∷ 0x04 ∷ 0x20 ∷ 0x00 ∷ [])) ≡ true
unfolding command_of peek_by_address peek_of peek_range_of place_of
peek_a_count_of_0 = refl

-- 52 channels, and 53; at 264 still 52, at 265 also 53; at 1,028 there are 205, and not 206
pub channels_52 : (is_done (at_260 0x04 (replicate 52 0)) ≡ true) × (is_refused (at_260 0x04 (replicate 53 0)) ≡ true)
    × (is_refused (command_of 264 0x04 now (replicate 53 0)) ≡ true) × (is_done (command_of 265 0x04 now (replicate 53 0)) ≡ true)
    × (is_done (command_of 1028 0x04 now (replicate 205 0)) ≡ true)
    × (is_refused (command_of 1028 0x04 now (replicate 206 0)) ≡ true)
unfolding command_of diagnostic_of all_channels channels_shown
channels_52 = (refl, refl, refl, refl, refl, refl)

-- 52 files of five bytes, and 53; 50 of five bytes and one of six are 256, and 42 of five and 9 of six 264
pub files_52 : (is_done (at_260 0x07 (replicate 52 1)) ≡ true) × (is_refused (at_260 0x07 (replicate 53 1)) ≡ true)
    × (is_done (at_260 0x07 (replicate 50 1 ++ replicate 1 0)) ≡ true) × (is_refused (at_260 0x07 (replicate 42 1 ++ replicate 9 0)) ≡ true)
unfolding command_of read_file_of files_width files_shown file_shown body_size
files_52 = (refl, refl, refl, refl)

-- READ EDAC of 258 bytes, and of 259
pub edac_258 : (is_done (at_260 0x09 (0x00 ∷ 0x00 ∷ 0x02 ∷ 0x01 ∷ [])) ≡ true) × (is_refused (at_260 0x09 (0x00 ∷ 0x00 ∷ 0x03 ∷ 0x01 ∷ [])) ≡ true)
unfolding command_of read_edac_of read_edac_range_of
edac_258 = (refl, refl)

-- GATHER of one range of 256 bytes, and of 257
pub gather_256 : (is_done (at_260 0x0B (0x00 ∷ 0x00 ∷ 0x00 ∷ 0x01 ∷ [])) ≡ true) × (is_refused (at_260 0x0B (0x00 ∷ 0x00 ∷ 0x01 ∷ 0x01 ∷ [])) ≡ true)
unfolding command_of gather_of listed_from
gather_256 = (refl, refl)

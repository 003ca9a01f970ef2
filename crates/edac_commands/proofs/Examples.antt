-- Both sides of each edge of READ EDAC and GATHER, and a write over a read-only byte, by computation. Assumes nothing.
use mathlib.Core.Path.{◌≡◌, refl}
use mathlib.Core.List.{List, [], ◌∷◌}
use mathlib.Core.Bool.{true}
use Prim.Native.Nat.{ℕ}
use lib.ListN.{replicate}
use Rattle.memory.specs.Bytes.{stored}
use Rattle.read_only.specs.ReadOnly.{read_only, keeping, written}
use Rattle.field.specs.Reading.{listed_from}
use Rattle.carrying.specs.Ending.{longest_data, done, refused}
use Rattle.carrying.proofs.Asking.{is_done, is_refused}
use Rattle.edac_commands.specs.ReadEdac.{read_edac_of, read_edac_range_of}
use Rattle.edac_commands.specs.WriteEdac.{write_edac_of}
use Rattle.edac_commands.specs.Gather.{gather_of}

abbrev pub edac : List ℕ
edac = replicate 1536 0

-- 1,026 bytes at 510; 1,027 at 0; 1,026 at 511
pub edac_1026 : (is_done (read_edac_of longest_data edac (0xFE ∷ 0x01 ∷ 0x02 ∷ 0x04 ∷ [])) ≡ true) × (is_refused (read_edac_of longest_data edac (0x00 ∷ 0x00 ∷ 0x03 ∷ 0x04 ∷ [])) ≡ true) × (is_refused (read_edac_of longest_data edac (0xFF ∷ 0x01 ∷ 0x02 ∷ 0x04 ∷ [])) ≡ true)
unfolding read_edac_of read_edac_range_of
edac_1026 = (refl, refl, refl)

pub gather_1024 : (is_done (gather_of longest_data edac (0x00 ∷ 0x00 ∷ 0x00 ∷ 0x04 ∷ [])) ≡ true) × (is_refused (gather_of longest_data edac (0x00 ∷ 0x00 ∷ 0x01 ∷ 0x04 ∷ [])) ≡ true)
unfolding gather_of listed_from
gather_1024 = (refl, refl)

abbrev pub lettered : List ℕ
lettered = 0x0A ∷ 0x0B ∷ 0x0C ∷ 0x0D ∷ replicate 1532 0

-- two ranges, and the list that ends inside the second
pub gather_two : (gather_of longest_data lettered (0x01 ∷ 0x00 ∷ 0x02 ∷ 0x00 ∷ 0x00 ∷ 0x00 ∷ 0x01 ∷ 0x00 ∷ []) ≡ done (0x01 ∷ 0x00 ∷ 0x02 ∷ 0x00 ∷ 0x0B ∷ 0x0C ∷ 0x00 ∷ 0x00 ∷ 0x01 ∷ 0x00 ∷ 0x0A ∷ []) tt) × (gather_of longest_data lettered (0x01 ∷ 0x00 ∷ 0x02 ∷ 0x00 ∷ 0x00 ∷ 0x00 ∷ 0x01 ∷ []) ≡ refused)
unfolding gather_of listed_from
gather_two = (refl, refl)

-- one byte at 1,535 and at 1,536; no byte at 0; no range at all
pub gather_edges : (is_done (gather_of longest_data edac (0xFF ∷ 0x05 ∷ 0x01 ∷ 0x00 ∷ [])) ≡ true) × (is_refused (gather_of longest_data edac (0x00 ∷ 0x06 ∷ 0x01 ∷ 0x00 ∷ [])) ≡ true) × (is_refused (gather_of longest_data edac (0x00 ∷ 0x00 ∷ 0x00 ∷ 0x00 ∷ [])) ≡ true) × (is_refused (gather_of longest_data edac []) ≡ true)
unfolding gather_of listed_from
gather_edges = (refl, refl, refl, refl)

-- 02, T-02: three bytes from 0x5D6 on, of which FLAGS_ACTIVE, 0x5D7, keeps its 00; the reply shows it so
pub t02 : write_edac_of longest_data edac (0xD6 ∷ 0x05 ∷ 0x01 ∷ 0x02 ∷ 0x03 ∷ []) ≡ done (0xD6 ∷ 0x05 ∷ 0x01 ∷ 0x00 ∷ 0x03 ∷ []) (stored edac 0x5D6 (0x01 ∷ 0x00 ∷ 0x03 ∷ []))
unfolding write_edac_of written keeping read_only stored
t02 = refl

-- The small examples of 01 that speak of commands, and both sides of each edge, by computation. Assumes nothing.
use mathlib.Core.Path.{◌≡◌, refl}
use mathlib.Core.List.{List, [], ◌∷◌, ◌++◌}
use mathlib.Core.Bool.{true, false}
use Prim.Native.Nat.{ℕ}
use lib.ListN.{replicate, set, length}
use Rattle.memory.specs.Bytes.{stored}
use Rattle.read_only.specs.ReadOnly.{read_only, keeping, written}
use Rattle.memory.specs.Edac.{body_size, file_shown}
use Rattle.read_only.specs.Files.{file_stored}
use Rattle.field.specs.Reading.{listed_from}
use Rattle.carrying.specs.Ending.{longest_data, done, refused}
use Rattle.carrying.proofs.Asking.{is_done, is_refused, reply_of}
use Rattle.file_commands.specs.ReadFile.{files_shown, files_width, read_file_of}
use Rattle.file_commands.specs.WriteFile.{judge_list_of, storage, store_list_of, write_file_of}

abbrev pub edac : List ℕ
edac = replicate 1536 0

abbrev pub mode_and_value : List ℕ
mode_and_value = set (0x00 ∷ 0x00 ∷ 0x80 ∷ 0x3F ∷ replicate 1532 0) 0x5C3 0x03

pub p10 : read_file_of longest_data mode_and_value (0x00 ∷ []) ≡ done (0x00 ∷ 0x03 ∷ 0x00 ∷ 0x00 ∷ 0x80 ∷ 0x3F ∷ []) tt
unfolding read_file_of files_width files_shown file_shown body_size
p10 = refl

abbrev pub twice : List ℕ
twice = 0x28 ∷ 0x01 ∷ 0x02 ∷ 0x03 ∷ 0x04 ∷ 0x28 ∷ 0x05 ∷ 0x06 ∷ 0x07 ∷ 0x08 ∷ []

pub p11 : write_file_of longest_data edac twice ≡ done (0x28 ∷ 0x05 ∷ 0x06 ∷ 0x07 ∷ 0x08 ∷ 0x28 ∷ 0x05 ∷ 0x06 ∷ 0x07 ∷ 0x08 ∷ []) (stored edac 0x0A0 (0x05 ∷ 0x06 ∷ 0x07 ∷ 0x08 ∷ []))
unfolding write_file_of judge_list_of listed_from body_size files_shown file_shown file_stored written keeping read_only stored
p11 = refl

-- 02, T-02: SPEED (file 0x15) and INERTIA (0x28) in one list, in a memory of zeros: both are shown, SPEED as it was
pub t02 : write_file_of longest_data edac (0x15 ∷ 0x01 ∷ 0x02 ∷ 0x03 ∷ 0x04 ∷ 0x28 ∷ 0x05 ∷ 0x06 ∷ 0x07 ∷ 0x08 ∷ []) ≡ done (0x15 ∷ 0x00 ∷ 0x00 ∷ 0x00 ∷ 0x00 ∷ 0x28 ∷ 0x05 ∷ 0x06 ∷ 0x07 ∷ 0x08 ∷ []) (stored edac 0x0A0 (0x05 ∷ 0x06 ∷ 0x07 ∷ 0x08 ∷ []))
unfolding write_file_of judge_list_of listed_from body_size files_shown file_shown file_stored written keeping read_only stored
t02 = refl

abbrev pub cut_short : List ℕ
cut_short = 0x28 ∷ 0x01 ∷ 0x02 ∷ 0x03 ∷ 0x04 ∷ 0x29 ∷ 0x05 ∷ []

pub p12 : write_file_of longest_data edac cut_short ≡ refused
unfolding write_file_of judge_list_of listed_from body_size
p12 = refl

-- 02, T-11: the lists of P11 and P12, an empty one, and file 0 with and without its mode byte, judged; and the first two stored, in memory of 1,536
-- bytes and of one less
pub judged : (judge_list_of longest_data twice ≡ true) × (judge_list_of longest_data cut_short ≡ false) × (judge_list_of longest_data [] ≡ false)
    × (judge_list_of longest_data (0x00 ∷ 0x03 ∷ 0x00 ∷ 0x00 ∷ 0x80 ∷ 0x3F ∷ []) ≡ true) × (judge_list_of longest_data (0x00 ∷ 0x00 ∷ 0x00 ∷ 0x80 ∷ 0x3F ∷ []) ≡ false)
unfolding judge_list_of listed_from body_size
judged = (refl, refl, refl, refl, refl)

pub stored_or_not : (store_list_of longest_data edac twice ≡ storage 0 (stored edac 0x0A0 (0x05 ∷ 0x06 ∷ 0x07 ∷ 0x08 ∷ [])))
    × (store_list_of longest_data edac cut_short ≡ storage 4 edac)
    × (store_list_of longest_data (replicate 1535 0) twice ≡ storage 21 (replicate 1535 0)) × (store_list_of longest_data (replicate 1535 0) cut_short ≡ storage 21 (replicate 1535 0))
unfolding store_list_of judge_list_of listed_from body_size file_stored written keeping read_only stored
stored_or_not = (refl, refl, refl, refl)

-- ---- both sides of each edge

-- 02, T-11: limits of 260 to 1,028; a list as long as its limit, and one longer; 1,028 bytes of list, and 1,029, which end between two structures
pub limits : (judge_list_of 259 twice ≡ false) × (judge_list_of 260 twice ≡ true) × (judge_list_of 1028 twice ≡ true) × (judge_list_of 1029 twice ≡ false)
unfolding judge_list_of listed_from body_size
limits = (refl, refl, refl, refl)

pub lists_and_limits : (judge_list_of 260 (replicate 260 1) ≡ true) × (judge_list_of 264 (replicate 265 1) ≡ false) × (judge_list_of 265 (replicate 265 1) ≡ true)
    × (judge_list_of 1028 (replicate 1010 1 ++ replicate 18 0) ≡ true) × (judge_list_of 1027 (replicate 1010 1 ++ replicate 18 0) ≡ false)
    × (judge_list_of 1028 (replicate 1005 1 ++ replicate 24 0) ≡ false)
unfolding judge_list_of listed_from body_size
lists_and_limits = (refl, refl, refl, refl, refl, refl)

pub files_205 : (is_done (read_file_of longest_data edac (replicate 205 1)) ≡ true) × (is_refused (read_file_of longest_data edac (replicate 206 1)) ≡ true)
unfolding read_file_of files_width files_shown file_shown body_size
files_205 = (refl, refl)

pub files_0 : (is_done (read_file_of longest_data edac (replicate 171 0)) ≡ true) × (is_refused (read_file_of longest_data edac (replicate 172 0)) ≡ true)
unfolding read_file_of files_width files_shown file_shown body_size
files_0 = (refl, refl)

-- lists that mix file 0 with others reach 1,027 and 1,028
pub files_mixed : (length (reply_of (read_file_of longest_data edac (replicate 203 1 ++ replicate 2 0))) ≡ 1027) × (length (reply_of (read_file_of longest_data edac (replicate 202 1 ++ replicate 3 0))) ≡ 1028)
unfolding read_file_of files_width files_shown file_shown body_size
files_mixed = (refl, refl)

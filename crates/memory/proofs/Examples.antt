-- Worked examples of what the definitions say, by computation. Assumes nothing.
use mathlib.Core.Path.{◌≡◌, refl}
use mathlib.Core.Bool.{true, false}
use mathlib.Core.List.{List, [], ◌∷◌}
use Prim.Native.Nat.{ℕ}
use lib.ListN.{get_or}
use Rattle.memory.specs.Bytes.{stretch}
use Rattle.memory.specs.Counts.{counted_up}
use Rattle.memory.specs.Edac.{mode_place, inside_edac, file_shown}
use Rattle.memory.specs.Status.{status_written}

-- P10, in any memory with that mode and that value.
pub p10 : (edac : List ℕ) → get_or edac mode_place 0 ≡ 0x03 → stretch 0 4 edac ≡ 0x00 ∷ 0x00 ∷ 0x80 ∷ 0x3F ∷ []
    → file_shown edac 0 ≡ 0x00 ∷ 0x03 ∷ 0x00 ∷ 0x00 ∷ 0x80 ∷ 0x3F ∷ []
unfolding file_shown
p10 edac mode value = rw (mode, value)

pub ends_at_the_end : inside_edac 510 1026 ≡ true
ends_at_the_end = refl

pub starts_one_late : inside_edac 511 1026 ≡ false
starts_one_late = refl

pub is_one_too_long : inside_edac 510 1027 ≡ false
is_one_too_long = refl

-- A count reaches its largest value and stays there.
pub the_last_count : counted_up (0 ∷ 0xFFFFFFFE ∷ []) 1 ≡ 0 ∷ 0xFFFFFFFF ∷ []
unfolding counted_up
the_last_count = refl

pub no_count_after_it : counted_up (0 ∷ 0xFFFFFFFF ∷ []) 1 ≡ 0 ∷ 0xFFFFFFFF ∷ []
unfolding counted_up
no_count_after_it = refl

-- 0x06 holds 12 34 56 78, the low byte last here: 78 alone is written.
pub the_status_of_a_locked_one : status_written true (0 ∷ 1 ∷ 2 ∷ 3 ∷ 4 ∷ 5 ∷ 0x12345678 ∷ 7 ∷ []) ≡ 0 ∷ 1 ∷ 2 ∷ 3 ∷ 4 ∷ 5 ∷ 0x123456CC ∷ 7 ∷ []
unfolding status_written
the_status_of_a_locked_one = refl

pub the_status_of_an_unlocked_one : status_written false (0 ∷ 1 ∷ 2 ∷ 3 ∷ 4 ∷ 5 ∷ 0xFFFFFFCC ∷ 7 ∷ []) ≡ 0 ∷ 1 ∷ 2 ∷ 3 ∷ 4 ∷ 5 ∷ 0xFFFFFF40 ∷ 7 ∷ []
unfolding status_written
the_status_of_an_unlocked_one = refl

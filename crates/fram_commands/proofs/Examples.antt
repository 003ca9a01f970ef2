-- Both sides of PEEK's edge, of the border between the FRAMs and of the lock, by computation. Assumes nothing.
use mathlib.Core.Path.{◌≡◌, refl}
use mathlib.Core.List.{List, [], ◌∷◌, ◌++◌}
use mathlib.Core.Bool.{true, false}
use Prim.Native.Nat.{ℕ}
use lib.ListN.{replicate}
use Rattle.blocks.specs.Fram.{Kept, kept, place_of, store_of}
use Rattle.carrying.specs.Ending.{Ending, longest_data, done, refused, unfitted}
use Rattle.carrying.specs.Held.{frams}
use Rattle.carrying.proofs.Asking.{is_done, is_refused}
use Rattle.fram_commands.specs.Peek.{peek_of, peek_range_of}
use Rattle.fram_commands.specs.Poke.{poke_of}
use Rattle.fram_commands.specs.Crc.{crc_of}
use Rattle.fram_commands.specs.ByAddress.{peek_by_address, poke_by_address, crc_by_address}
use Rattle.blocks.specs.Cost.{how_many, range_cost}
use Rattle.std.proofs.Common.{Ok, Err}
use Rattle.carrying.specs.declared.CommandError.TheVariants.{Refused, Unfitted}
use Rattle.fram_commands.specs.Cost.{field_cost, crc_cost}

abbrev pub fram : List ℕ
fram = replicate 1024 0

-- 1,024 bytes from the first; 1,025 even outside FRAM: refused, not 10
pub peek_1024 : (is_done (peek_of longest_data 0x20040000 fram (0x00 ∷ 0x00 ∷ 0x04 ∷ 0x20 ∷ 0x00 ∷ 0x04 ∷ [])) ≡ true) × (is_refused (peek_of longest_data 0x20040000 fram (0x00 ∷ 0x00 ∷ 0x04 ∷ 0x20 ∷ 0x01 ∷ 0x04 ∷ [])) ≡ true) × (is_refused (peek_of longest_data 0x20040000 fram (0x00 ∷ 0x00 ∷ 0x00 ∷ 0x00 ∷ 0x01 ∷ 0x04 ∷ [])) ≡ true)
unfolding peek_of peek_range_of place_of
peek_1024 = (refl, refl, refl)

-- ---- 02, T-07: the border, with two small memories in which none of its ranges lies

abbrev small : List ℕ
small = replicate 256 0

-- from an address to another
abbrev crc : List ℕ → List ℕ → Ending (Unit {0})
crc first last = crc_by_address (frams (kept small (0 ∷ [])) (kept small (0 ∷ []))) (first ++ last)

-- to 0x2003FFFF; to 0x20040000 and to 0x2007FFFF; to 0x20080000: over the border is refused, whatever is fitted, and before and past it is 10
pub where_it_ends : (crc (0xFF ∷ 0xFF ∷ 0x03 ∷ 0x20 ∷ []) (0xFF ∷ 0xFF ∷ 0x03 ∷ 0x20 ∷ []) ≡ unfitted)
    × (crc (0xFF ∷ 0xFF ∷ 0x03 ∷ 0x20 ∷ []) (0x00 ∷ 0x00 ∷ 0x04 ∷ 0x20 ∷ []) ≡ refused)
    × (crc (0x00 ∷ 0x00 ∷ 0x00 ∷ 0x20 ∷ []) (0xFF ∷ 0xFF ∷ 0x07 ∷ 0x20 ∷ []) ≡ refused)
    × (crc (0x00 ∷ 0x00 ∷ 0x00 ∷ 0x20 ∷ []) (0x00 ∷ 0x00 ∷ 0x08 ∷ 0x20 ∷ []) ≡ unfitted)
unfolding crc_by_address crc_of place_of
where_it_ends = (refl, refl, refl, refl)

-- from 0x1FFFFFFF; from 0x20000000 and 0x2003FFFF; from 0x20040000, past the 256 bytes that are fitted there
pub where_it_starts : (crc (0xFF ∷ 0xFF ∷ 0xFF ∷ 0x1F ∷ []) (0x00 ∷ 0x00 ∷ 0x04 ∷ 0x20 ∷ []) ≡ unfitted)
    × (crc (0x00 ∷ 0x00 ∷ 0x00 ∷ 0x20 ∷ []) (0x00 ∷ 0x00 ∷ 0x04 ∷ 0x20 ∷ []) ≡ refused)
    × (crc (0xFF ∷ 0xFF ∷ 0x03 ∷ 0x20 ∷ []) (0xFF ∷ 0xFF ∷ 0x07 ∷ 0x20 ∷ []) ≡ refused)
    × (crc (0x00 ∷ 0x00 ∷ 0x04 ∷ 0x20 ∷ []) (0xFF ∷ 0xFF ∷ 0x07 ∷ 0x20 ∷ []) ≡ unfitted)
unfolding crc_by_address crc_of place_of
where_it_starts = (refl, refl, refl, refl)

-- PEEK and POKE of two bytes from 0x2003FFFF, and of one; a locked POKE too: the border and 10 come before the lock
pub the_others_over_the_border : (peek_by_address longest_data small small (0xFF ∷ 0xFF ∷ 0x03 ∷ 0x20 ∷ 0x02 ∷ []) ≡ refused)
    × (peek_by_address longest_data small small (0xFF ∷ 0xFF ∷ 0x03 ∷ 0x20 ∷ 0x01 ∷ []) ≡ unfitted)
    × (poke_by_address longest_data true (frams (kept small (0 ∷ [])) (kept small (0 ∷ []))) (0xFF ∷ 0xFF ∷ 0x03 ∷ 0x20 ∷ 0xAA ∷ 0xBB ∷ []) ≡ refused)
    × (poke_by_address longest_data true (frams (kept small (0 ∷ [])) (kept small (0 ∷ []))) (0xFF ∷ 0xFF ∷ 0x03 ∷ 0x20 ∷ 0xAA ∷ []) ≡ unfitted)
unfolding peek_by_address poke_by_address peek_of peek_range_of poke_of place_of
the_others_over_the_border = (refl, refl, refl, refl)

-- ---- and the lock

-- A POKE of the first byte of a bootloader FRAM with a wrong sum, 0x1234: locked it is echoed, and neither byte nor sum moves; unlocked both do.
-- The same POKE of user FRAM knows no lock.
abbrev wrong : Kept
wrong = kept small (0x1234 ∷ [])

pub a_locked_poke : poke_by_address longest_data true (frams wrong wrong) (0x00 ∷ 0x00 ∷ 0x00 ∷ 0x20 ∷ 0xAA ∷ [])
    ≡ done (0x00 ∷ 0x00 ∷ 0x00 ∷ 0x20 ∷ 0xAA ∷ []) (frams wrong wrong)
unfolding poke_by_address poke_of place_of
a_locked_poke = refl

pub an_unlocked_poke : poke_by_address longest_data false (frams wrong wrong) (0x00 ∷ 0x00 ∷ 0x00 ∷ 0x20 ∷ 0xAA ∷ [])
    ≡ done (0x00 ∷ 0x00 ∷ 0x00 ∷ 0x20 ∷ 0xAA ∷ []) (frams (store_of wrong 0 (0xAA ∷ [])) wrong)
unfolding poke_by_address poke_of place_of
an_unlocked_poke = refl

pub a_poke_of_user_fram : poke_by_address longest_data true (frams wrong wrong) (0x00 ∷ 0x00 ∷ 0x04 ∷ 0x20 ∷ 0xAA ∷ [])
    ≡ done (0x00 ∷ 0x00 ∷ 0x04 ∷ 0x20 ∷ 0xAA ∷ []) (frams wrong (store_of wrong 0 (0xAA ∷ [])))
unfolding poke_by_address poke_of place_of
a_poke_of_user_fram = refl

-- ---- 02, T-13: what a CRC command costs, by places in the FRAM that its address names

-- Of user FRAM: its first block; from its second byte to the last of that block; and two bytes across the block's edge.
pub costs_of_user_fram : (crc_cost (Ok 10) (0x00 ∷ 0x00 ∷ 0x04 ∷ 0x20 ∷ 0xFF ∷ 0x00 ∷ 0x04 ∷ 0x20 ∷ []) ≡ 1)
    × (crc_cost (Ok 10) (0x01 ∷ 0x00 ∷ 0x04 ∷ 0x20 ∷ 0xFF ∷ 0x00 ∷ 0x04 ∷ 0x20 ∷ []) ≡ 255)
    × (crc_cost (Ok 10) (0xFF ∷ 0x00 ∷ 0x04 ∷ 0x20 ∷ 0x00 ∷ 0x01 ∷ 0x04 ∷ 0x20 ∷ []) ≡ 2)
unfolding field_cost range_cost how_many
costs_of_user_fram = (refl, refl, refl)

-- Of bootloader FRAM: two blocks and three bytes; the same not done.
pub costs_of_bootloader_fram : (crc_cost (Ok 10) (0x00 ∷ 0x00 ∷ 0x00 ∷ 0x20 ∷ 0x02 ∷ 0x02 ∷ 0x00 ∷ 0x20 ∷ []) ≡ 5)
    × (crc_cost (Err Refused) (0x00 ∷ 0x00 ∷ 0x00 ∷ 0x20 ∷ 0x02 ∷ 0x02 ∷ 0x00 ∷ 0x20 ∷ []) ≡ 0)
    × (crc_cost (Err Unfitted) (0x00 ∷ 0x00 ∷ 0x00 ∷ 0x20 ∷ 0x02 ∷ 0x02 ∷ 0x00 ∷ 0x20 ∷ []) ≡ 0)
unfolding field_cost range_cost how_many
costs_of_bootloader_fram = (refl, refl, refl)

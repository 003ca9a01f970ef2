-- Where the two FRAMs lie (ICD 12.2, Table 15), and the border between them (02, T-07). Assumes nothing.
use Rattle.std.specs.Prelude.{ℕ, ◌+◌, Bool, cond, ◌&&◌, List, leb, ltb}
use Rattle.field.specs.Fields.{word32_at}
use Rattle.blocks.specs.Fram.{place_of}
use Rattle.carrying.specs.Ending.{Ending, refused, at_place}
use Rattle.carrying.specs.Held.{Which, of_bootloader, of_user, one_of}

-- Bootloader FRAM has the addresses 0x20000000 to 0x2003FFFF.
abbrev pub first_of_bootloader : ℕ
first_of_bootloader = 0x20000000

-- User FRAM has the addresses 0x20040000 to 0x2007FFFF.
abbrev pub first_of_user : ℕ
first_of_user = 0x20040000

abbrev pub end_of_user : ℕ
end_of_user = 0x20080000

abbrev pub first_of : Which → ℕ
first_of which = one_of which first_of_bootloader first_of_user

-- A range that starts from 0x20000000 to 0x2003FFFF and ends from 0x20040000 to 0x2007FFFF. Its last byte is the one before address + count.
abbrev pub over_border : ℕ → ℕ → Bool
over_border address count =
    (leb first_of_bootloader address && ltb address first_of_user) && (ltb first_of_user (address + count) && leb (address + count) end_of_user)

-- A range of an FRAM whose first byte has the address `first`: over the border it is refused, whatever is fitted; then it must be fitted.
abbrev pub in_fram : {M : Type 0} → ℕ → ℕ → ℕ → ℕ → (ℕ → Ending M) → Ending M
in_fram first len address count f = cond (over_border address count) refused (at_place (place_of first len address count) f)

-- The FRAM that a data field's address names: bootloader FRAM below the first address of user FRAM, else user FRAM. (Where the address is in
-- neither, neither has the range.)
abbrev pub which_of : List ℕ → Which
which_of field = cond (ltb (word32_at field 0) first_of_user) of_bootloader of_user

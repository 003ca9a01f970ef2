-- The replies of PEEK, POKE and CRC have room. Assumes nothing.
use mathlib.Core.Path.{◌≡◌}
use mathlib.Core.Bool.{Bool, cond}
use mathlib.Core.List.{List, ◌++◌}
use Prim.Native.Nat.{ℕ, ◌+◌, ◌-◌, ◌≤◌}
use native.Mathlib.Omega.{arith}
use borrow.Author.Tests.{ltb-false, eqb-true}
use lib.Dec.{eqb, ltb}
use lib.ListN.{length, take, drop, get_or, length-append}
use Rattle.field.specs.Fields.{word16_at, word32_at, bytes16, short_count}
use Rattle.memory.specs.Bytes.{stretch}
use Rattle.std.proofs.Common.{Option, Some, None}
use Rattle.blocks.specs.Fram.{Kept, place_of, store_of, range_sum}
use Rattle.carrying.specs.Ending.{Ending, done, refused, at_place}
use Rattle.carrying.specs.Held.{Frams, one_of, fram_of, with_fram}
use Rattle.carrying.proofs.Room.{either_way, Roomy, roomy_inside, part}
use Rattle.fram_commands.specs.Windows.{first_of, which_of, over_border, in_fram}
use Rattle.fram_commands.specs.Peek.{peek_range_of, peek_of}
use Rattle.fram_commands.specs.Poke.{poke_of}
use Rattle.fram_commands.specs.Crc.{range_size, crc_of}
use Rattle.fram_commands.specs.ByAddress.{peek_by_address, lock_of, poke_by_address, crc_by_address}

module _ (room : ℕ) where
  -- wherever a range of FRAM lies
  of_a_range : {M : Type 0} (first len address count : ℕ) (f : ℕ → Ending M) → ((at : ℕ) → Roomy room (f at)) → Roomy room (in_fram first len address count f)
  of_a_range {M} first len address count f each =
      either_way (Roomy room) (over_border address count) refused _ (λ _. omega arith) (λ _. placed (place_of first len address count))
    where
      placed : (p : Option ℕ) → Roomy room (at_place p f)
      placed None = omega arith
      placed (Some at) = each at

  peek_range_fits : (first : ℕ) (fram field : List ℕ) (count : ℕ) → Roomy room (peek_range_of room first fram field count)
  unfolding peek_range_of
  peek_range_fits first fram field count =
      either_way (Roomy room) (eqb count 0) refused _ (λ _. omega arith)
      (λ _. either_way (Roomy room) (ltb room (4 + count)) refused _ (λ _. omega arith)
      (λ e. of_a_range first (length fram) (word32_at field 0) count _ (placed (ltb-false room (4 + count) e))))
    where
      placed : 4 + count ≤ room → (at : ℕ) → Roomy {M = Prim.Unit {0}} room (done (take 4 field ++ stretch at count fram) tt)
      placed h at =
          let one = part 4 field in
          let two = part count (drop at fram) in
          let both = length-append (take 4 field) (stretch at count fram) in
          omega arith

  pub peek_fits : (first : ℕ) (fram field : List ℕ) → Roomy room (peek_of room first fram field)
  unfolding peek_of
  peek_fits first fram field =
      either_way (Roomy room) (eqb (length field) 5) (peek_range_of room first fram field (short_count (get_or field 4 0))) _
      (λ _. peek_range_fits first fram field (short_count (get_or field 4 0)))
      (λ _. either_way (Roomy room) (eqb (length field) 6) (peek_range_of room first fram field (word16_at field 4)) refused
      (λ _. peek_range_fits first fram field (word16_at field 4)) (λ _. omega arith))

  pub poke_fits : (first : ℕ) (locked : Bool) (memory : Kept) (field : List ℕ) → Roomy room (poke_of room first locked memory field)
  unfolding poke_of
  poke_fits first locked memory field =
      either_way (Roomy room) (ltb (length field) 5) refused _ (λ _. omega arith)
      (λ _. either_way (Roomy room) (ltb room (length field)) refused _ (λ _. omega arith)
      (λ e. of_a_range first (length memory.fram) (word32_at field 0) (length field - 4)
      (λ at. done field (cond locked memory (store_of memory at (drop 4 field)))) (λ _. ltb-false room (length field) e)))

  pub crc_fits : 10 ≤ room → (first : ℕ) (memory : Kept) (field : List ℕ) → Roomy room (crc_of first memory field)
  unfolding crc_of
  crc_fits enough first memory field =
      either_way (Roomy room) (eqb (length field) 8) _ refused
      (λ e. either_way (Roomy room) (ltb (word32_at field 4) (word32_at field 0)) refused _ (λ _. omega arith)
      (λ _. of_a_range first (length memory.fram) (word32_at field 0) (range_size (word32_at field 0) (word32_at field 4)) _ (placed (eqb-true (length field) 8 e))))
      (λ _. omega arith)
    where
      placed : length field ≡ 8 → (at : ℕ)
          → Roomy {M = Prim.Unit {0}} room (done (field ++ bytes16 (range_sum memory at (at + range_size (word32_at field 0) (word32_at field 4)))) tt)
      placed e at = let both = length-append field (bytes16 (range_sum memory at (at + range_size (word32_at field 0) (word32_at field 4)))) in omega arith

  -- and on the FRAM that the address names
  pub peek_by_address_fits : (bootloader user field : List ℕ) → Roomy room (peek_by_address room bootloader user field)
  unfolding peek_by_address
  peek_by_address_fits bootloader user field = peek_fits (first_of (which_of field)) (one_of (which_of field) bootloader user) field

  pub poke_by_address_fits : (locked : Bool) (now : Frams) (field : List ℕ) → Roomy room (poke_by_address room locked now field)
  unfolding poke_by_address
  poke_by_address_fits locked now field =
      let which = which_of field in
      roomy_inside room (with_fram which now) (poke_of room (first_of which) (lock_of which locked) (fram_of which now) field)
      (poke_fits (first_of which) (lock_of which locked) (fram_of which now) field)

  pub crc_by_address_fits : 10 ≤ room → (now : Frams) (field : List ℕ) → Roomy room (crc_by_address now field)
  unfolding crc_by_address
  crc_by_address_fits enough now field = crc_fits enough (first_of (which_of field)) (fram_of (which_of field) now) field

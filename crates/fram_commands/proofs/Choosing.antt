-- Each command on the FRAM that its address names. Assumes nothing.
use mathlib.Core.Path.{◌≡◌, sym, ap, ap₂}
use mathlib.Core.Bool.{Bool, true, false}
use mathlib.Core.List.{List}
use Prim.Native.Nat.{ℕ}
use lib.Dec.{ltb}
use Rattle.blocks.specs.Fram.{Kept}
use Rattle.field.specs.Fields.{word32_at}
use Rattle.carrying.specs.Held.{Frams, Which, of_bootloader, of_user, one_of, fram_of, with_fram, inside}
use Rattle.fram_commands.specs.Windows.{first_of_user, first_of, which_of}
use Rattle.fram_commands.specs.Peek.{peek_of}
use Rattle.fram_commands.specs.Poke.{poke_of}
use Rattle.fram_commands.specs.Crc.{crc_of}
use Rattle.fram_commands.specs.ByAddress.{peek_by_address, lock_of, poke_by_address, crc_by_address}

-- by the code's one test
pub names_bootloader : (field : List ℕ) → ltb (word32_at field 0) first_of_user ≡ true → which_of field ≡ of_bootloader
names_bootloader field below = simp below

pub names_user : (field : List ℕ) → ltb (word32_at field 0) first_of_user ≡ false → which_of field ≡ of_user
names_user field above = simp above

module _ (field : List ℕ) (which : Which) (named : which_of field ≡ which) where
  pub a_peek_where_it_is_named : (room : ℕ) (bootloader user : List ℕ)
      → peek_by_address room bootloader user field ≡ peek_of room (first_of which) (one_of which bootloader user) field
  unfolding peek_by_address
  a_peek_where_it_is_named room bootloader user = ap (λ (x : Which). peek_of room (first_of x) (one_of x bootloader user) field) named

  pub a_poke_where_it_is_named : (room : ℕ) (locked : Bool) (now : Frams)
      → poke_by_address room locked now field ≡ inside (with_fram which now) (poke_of room (first_of which) (lock_of which locked) (fram_of which now) field)
  unfolding poke_by_address
  a_poke_where_it_is_named room locked now = ap (λ (x : Which). inside (with_fram x now) (poke_of room (first_of x) (lock_of x locked) (fram_of x now) field)) named

  pub a_crc_where_it_is_named : (now : Frams) → crc_by_address now field ≡ crc_of (first_of which) (fram_of which now) field
  unfolding crc_by_address
  a_crc_where_it_is_named now = ap (λ (x : Which). crc_of (first_of x) (fram_of x now) field) named

-- by the code's one choice: what is read of the one that is chosen is the one of what is read of both
pub read_of_the_one : {A B : Type 0} (read : A → B) (which : Which) (one : A) (bootloader's user's : A) → one ≡ one_of which bootloader's user's
    → read one ≡ one_of which (read bootloader's) (read user's)
read_of_the_one read of_bootloader one bootloader's user's e = ap read e
read_of_the_one read of_user one bootloader's user's e = ap read e

module _ (field : List ℕ) (first : ℕ) (starts : first ≡ first_of (which_of field)) where
  pub a_peek_of_the_one : (room : ℕ) (fram bootloader user : List ℕ) → fram ≡ one_of (which_of field) bootloader user
      → peek_by_address room bootloader user field ≡ peek_of room first fram field
  unfolding peek_by_address
  a_peek_of_the_one room fram bootloader user e = ap₂ (λ (n : ℕ) held. peek_of room n held field) (sym starts) (sym e)

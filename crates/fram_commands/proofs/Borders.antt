-- The border between the two FRAMs: which ranges are over it. Assumes nothing.
use mathlib.Core.Path.{◌≡◌}
use mathlib.Core.Bool.{false}
use Prim.Native.Nat.{ℕ, ◌+◌, ◌≤◌, ◌<◌}
use native.Mathlib.Omega.{arith}
use borrow.Author.Tests.{le-leb, lt-ltb, le-ltb}
use Rattle.fram_commands.specs.Windows.{first_of_bootloader, first_of_user, over_border}

module _ (address count : ℕ) where
  pub starts_in_the_second : first_of_user ≤ address → over_border address count ≡ false
  starts_in_the_second h = simp (le-leb first_of_bootloader address (omega arith), le-ltb address first_of_user h)

  module _ (from : first_of_bootloader ≤ address) (below : address < first_of_user) where
    pub ends_in_the_first : address + count ≤ first_of_user → over_border address count ≡ false
    ends_in_the_first h =
        simp (le-leb first_of_bootloader address from, lt-ltb address first_of_user below, le-ltb first_of_user (address + count) h)

-- A range inside one of the two FRAMs: its address names that one, and it is not over the border. Assumes nothing.
use mathlib.Core.Path.{◌≡◌}
use mathlib.Core.Bool.{false}
use mathlib.Core.List.{List}
use Prim.Native.Nat.{ℕ, ◌+◌, ◌≤◌}
use native.Mathlib.Omega.{arith}
use borrow.Author.Tests.{lt-ltb, le-ltb}
use Rattle.field.specs.Fields.{word32_at}
use Rattle.carrying.specs.Held.{Which, of_bootloader, of_user}
use Rattle.fram_commands.specs.Windows.{first_of_user, first_of, which_of, over_border}
use Rattle.fram_commands.proofs.Borders.{starts_in_the_second, ends_in_the_first}
use Rattle.fram_commands.proofs.Choosing.{names_bootloader, names_user}

-- where the addresses of the two end
pub ends_by : (which : Which) → first_of which + 262144 ≤ 0x20080000
ends_by of_bootloader = omega arith
ends_by of_user = omega arith

pub a_range_inside_names_its_fram : (which : Which) (field : List ℕ) (count size : ℕ) → first_of which ≤ word32_at field 0 → 1 ≤ count
    → word32_at field 0 + count ≤ first_of which + size → size ≤ 262144
    → (which_of field ≡ which) × (over_border (word32_at field 0) count ≡ false)
a_range_inside_names_its_fram of_bootloader field count size starts some ends small = (
  names_bootloader field (lt-ltb (word32_at field 0) first_of_user (omega arith)),
  ends_in_the_first (word32_at field 0) count starts (omega arith) (omega arith),
)
a_range_inside_names_its_fram of_user field count size starts some ends small = (
  names_user field (le-ltb (word32_at field 0) first_of_user starts),
  starts_in_the_second (word32_at field 0) count starts,
)

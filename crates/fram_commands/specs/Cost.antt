-- What a CRC command costs, as a count: 02, T-13. Assumes nothing.
use Rattle.std.specs.Prelude.{ℕ, ◌+◌, ◌-◌, List, Ok, Err}
use Rattle.blocks.specs.Cost.{range_cost}
use Rattle.carrying.specs.Ending.{Ended}
use Rattle.field.specs.Fields.{word32_at}
use Rattle.fram_commands.specs.Windows.{first_of, which_of}
use Rattle.fram_commands.specs.Crc.{range_size}

-- What the range of a data field costs, by its place in the FRAM that its address names.
unfoldable pub field_cost : List ℕ → ℕ
field_cost field =
    let at = word32_at field 0 - first_of (which_of field) in range_cost at (at + range_size (word32_at field 0) (word32_at field 4))

-- A CRC command that is done costs what its range does, and any other nothing.
abbrev pub crc_cost : Ended → List ℕ → ℕ
crc_cost (Ok size) field = field_cost field
crc_cost (Err error) field = 0

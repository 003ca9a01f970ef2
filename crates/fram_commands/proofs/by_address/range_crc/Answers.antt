-- `fram_commands::by_address::range_crc` meets its contract: the command on the FRAM that its address names. Assumes nothing.
use mathlib.Core.Path.{sym, ◌∙◌}
use Rattle.carrying.proofs.Writing.{is_the_same}
use Rattle.fram_commands.proofs.Choosing.{names_bootloader, names_user, a_crc_where_it_is_named}
use Rattle.carrying.specs.Held.{of_bootloader, of_user}
use Rattle.fram_commands.proofs.by_address.range_crc.Goals as goal

pub returns-then-is_bootloaders : goal.returns-then-is_bootloaders
returns-then-is_bootloaders c =
    let a = c.args in
    is_the_same _ _ _ _ tt (a_crc_where_it_is_named a.field.now of_bootloader (names_bootloader a.field.now (sym c.is_bootloaders.ensures ∙ c.if-is_bootloaders.true)) _) c.range_crc.ensures

pub returns-else-is_bootloaders : goal.returns-else-is_bootloaders
returns-else-is_bootloaders c =
    let a = c.args in
    is_the_same _ _ _ _ tt (a_crc_where_it_is_named a.field.now of_user (names_user a.field.now (sym c.is_bootloaders.ensures ∙ c.if-is_bootloaders.false)) _) c.range_crc-else-is_bootloaders.ensures

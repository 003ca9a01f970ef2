-- `fram_commands::by_address::poke` meets its contract: the command on the FRAM that its address names. Assumes nothing.
use Rattle.std.proofs.Common.{false, sym}
use Rattle.blocks.specs.Lent.{kept_in}
use Rattle.carrying.specs.Held.{frams, of_bootloader, of_user}
use Rattle.carrying.proofs.Writing.{is_the_same}
use Rattle.carrying.proofs.Parts.{on_a_part}
use Rattle.fram_commands.specs.Windows.{first_of_bootloader, first_of_user}
use Rattle.fram_commands.specs.Poke.{poke_of}
use Rattle.fram_commands.proofs.Choosing.{names_bootloader, names_user, a_poke_where_it_is_named}
use Rattle.fram_commands.proofs.by_address.poke.Goals as goal

pub returns-then-is_bootloaders-clause-leaves : goal.returns-then-is_bootloaders-clause-leaves
returns-then-is_bootloaders-clause-leaves c =
    let a = c.args in
    is_the_same _ _ _ _ _ (a_poke_where_it_is_named a.field.now of_bootloader (names_bootloader a.field.now (sym c.if-is_bootloaders.ensures)) _ _ _)
    (on_a_part (λ bootloader. frams bootloader (kept_in a.user.now)) (poke_of a.room first_of_bootloader a.locked (kept_in a.bootloader.now) a.field.now) _ _
    a.reply.now _ _ c.poke.ensures.leaves)

pub returns-else-is_bootloaders-clause-leaves : goal.returns-else-is_bootloaders-clause-leaves
returns-else-is_bootloaders-clause-leaves c =
    let a = c.args in
    is_the_same _ _ _ _ _ (a_poke_where_it_is_named a.field.now of_user (names_user a.field.now (sym c.if-is_bootloaders.ensures)) _ _ _)
    (on_a_part (λ user. frams (kept_in a.bootloader.now) user) (poke_of a.room first_of_user false (kept_in a.user.now) a.field.now) _ _
    a.reply.now _ _ c.poke-else-is_bootloaders.ensures.leaves)

-- `fram_commands::by_address::peek` meets its contract: the command on the FRAM that its address names. Assumes nothing.
use Rattle.fram_commands.specs.Windows.{which_of}
use Rattle.carrying.proofs.Writing.{is_the_same}
use Rattle.fram_commands.proofs.Choosing.{read_of_the_one, a_peek_of_the_one}
use Rattle.fram_commands.proofs.by_address.peek.Goals as goal

pub returns : goal.returns
returns c =
    let a = c.args in
    let is = c.chosen-first.ensures in
    is_the_same _ _ _ _ tt
    (a_peek_of_the_one a.field.now _ is.first a.room _ _ _ (read_of_the_one (λ fram. fram.now) (which_of a.field.now) c.chosen-first.result.1 a.bootloader a.user is.one))
    c.peek.ensures

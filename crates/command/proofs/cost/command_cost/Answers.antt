-- `command::cost::command_cost` meets its contract, by the code. Assumes nothing.
use Rattle.std.proofs.Common.{cond, sym, ap}
use Rattle.std.proofs.lemmas.Result.{MatchResult-at_err}
use borrow.Author.Tests.{ne_eqb}
use Rattle.fram_commands.specs.Cost.{crc_cost}
use Rattle.command.specs.declared.code.Command.TheVariants.{Crc}
use Rattle.command.proofs.cost.command_cost.Goals as goal

pub returns-in_default-2 : goal.returns-in_default-2
returns-in_default-2 c =
    let a = c.args in
    let none = MatchResult-at_err _ _ _ c.in_default.is c.try_from.ensures in
    sym (ap (λ t. cond t (crc_cost a.ended a.field.now) 0) (ne_eqb a.code 0x06 (none.1 Crc)))

-- `command::diagnostic::are_channels` meets its contract: all of the list are channels. Assumes nothing.
use Rattle.std.proofs.Common.{leb, ◌∙◌, rules, tests}
use Rattle.std.proofs.lemmas.Iterator.{YieldsList-from_slice}
use Rattle.std.proofs.lemmas.Iterator.Search.{all_from_yields_List}
use Rattle.command.specs.Diagnostic.{last_channel}
use Rattle.command.proofs.Channels.{each_is_a_channel}
use Rattle.command.proofs.diagnostic.are_channels.Goals as goal

pub returns : goal.returns
returns c =
    let field = c.args.field.now in
    all_from_yields_List (λ channel. leb channel last_channel) _ _ _ c.all.ensures.ran (YieldsList-from_slice field cc) (λ x b q k. search (rules, tests))
    ∙ each_is_a_channel field

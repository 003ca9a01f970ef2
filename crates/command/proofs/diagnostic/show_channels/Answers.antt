-- `command::diagnostic::show_channels` meets its contract. Assumes nothing.
use Rattle.std.proofs.Common.{ℕ, ◌*◌, ◌∷◌, get_or, ap, ◌∙◌, arith}
use Rattle.memory.specs.Bytes.{stored}
use Rattle.field.specs.Fields.{bytes32}
use Rattle.carrying.proofs.Writing.{nothing_written, more_of_it, end_of_it}
use Rattle.command.proofs.Channels.{a_channel_stands, shown_channels_turn, shown_channels_end}
use Rattle.command.proofs.diagnostic.show_channels.Goals as goal

pub loop-i-init : goal.loop-i-init
loop-i-init c = (c.requires.1, nothing_written _ _)

pub bounds-diagnostics-from : goal.bounds-diagnostics-from
bounds-diagnostics-from c = omega (arith, (a_channel_stands _ _ c.loop-i-test.true c.loop-i.invariant.0).0)

pub loop-i-preserved : goal.loop-i-preserved
loop-i-preserved c =
    let here = a_channel_stands _ _ c.loop-i-test.true c.loop-i.invariant.0 in
    (here.1, more_of_it _ _ _ _ _ _ _ _ _ c.loop-i.invariant.1 (shown_channels_turn _ _ _ c.loop-i-test.true) (c.show_channel.ensures ∙ ap (λ (n : ℕ). stored c.loop-i.reply (5 * c.loop-i.i) (get_or c.args.field.now c.loop-i.i 0 ∷ bytes32 (get_or c.args.diagnostics.now n 0))) c.from.ensures) (omega arith))

pub returns : goal.returns
returns c = end_of_it _ _ _ _ _ c.loop-i.invariant.1 (shown_channels_end _ _ _ c.loop-i-test.false)

-- `unit::step` meets its contract, by the verdict. Assumes nothing.
use Rattle.std.proofs.Common.{rules}
use native.Mathlib.Omega.{arith}
use Rattle.blocks.specs.Fram.{kept}
use Rattle.carrying.proofs.Limits.{within_both_ends}
use Rattle.ports.specs.Sides.{both}
use Rattle.ports.specs.declared.Side.TheVariants.{Zero, One}
use Rattle.commanding.specs.World.{world}
use Rattle.judging.proofs.Ways.{long_enough_of}
use Rattle.unit.proofs.Serving.{guaranteed_by, an_answer_alone, a_drop_is_counted, a_command_is_served}
use Rattle.unit.proofs.step.Goals as goal

pub invariant_of-bootloader : goal.invariant_of-bootloader
invariant_of-bootloader c =
    let a = c.args in
    let g = guaranteed_by a.unit a.port a.byte a.sending (world a.edac.now (kept a.bootloader.now a.bootloader_sums.now) (kept a.fram.now a.sums.now) a.diagnostics.now a.message0.now a.reply0.now a.message1.now a.reply1.now) c.judge-judged.result (both _ _) c.judge-judged.ensures _ c.in-Command.is in
    record { fits = g.0.bootloader_sums_fit }

pub invariant_of-user : goal.invariant_of-user
invariant_of-user c =
    let a = c.args in
    let g = guaranteed_by a.unit a.port a.byte a.sending (world a.edac.now (kept a.bootloader.now a.bootloader_sums.now) (kept a.fram.now a.sums.now) a.diagnostics.now a.message0.now a.reply0.now a.message1.now a.reply1.now) c.judge-judged.result (both _ _) c.judge-judged.ensures _ c.in-Command.is in
    record { fits = g.0.the_sums_fit }

pub commanded-requires : goal.commanded-requires
commanded-requires c =
    let a = c.args in
    let g = guaranteed_by a.unit a.port a.byte a.sending (world a.edac.now (kept a.bootloader.now a.bootloader_sums.now) (kept a.fram.now a.sums.now) a.diagnostics.now a.message0.now a.reply0.now a.message1.now a.reply1.now) c.judge-judged.result (both _ _) c.judge-judged.ensures _ c.in-Command.is in (
      g.0.edac_fits,
      g.0.diagnostics_fit,
      long_enough_of c.from.result _ _ _ _ _ g.0.message_fits c.judge-judged.auto.message0 c.judge-judged.auto.message1 c.heard_by-message.ensures,
      g.0.reply_fits Zero,
      g.0.reply_fits One,
      g.1,
      g.2,
      omega (arith, g.3, (within_both_ends c.judge-judged.result.unit.limit g.1).1),
    )

pub returns-in-Quiet : goal.returns-in-Quiet
returns-in-Quiet c =
    let a = c.args in
    rw c.quiet.ensures
    (an_answer_alone a.unit a.port a.byte a.sending (world a.edac.now (kept a.bootloader.now a.bootloader_sums.now) (kept a.fram.now a.sums.now) a.diagnostics.now a.message0.now a.reply0.now a.message1.now a.reply1.now) c.judge-judged.result (both _ _) c.judge-judged.ensures _ c.in-Quiet.is)

pub returns-in-Dropped : goal.returns-in-Dropped
returns-in-Dropped c =
    let a = c.args in
    rw c.quiet-in-Dropped.ensures
    (a_drop_is_counted a.unit a.port a.byte a.sending (world a.edac.now (kept a.bootloader.now a.bootloader_sums.now) (kept a.fram.now a.sums.now) a.diagnostics.now a.message0.now a.reply0.now a.message1.now a.reply1.now) c.judge-judged.result (both _ _) c.judge-judged.ensures _ _ _ c.in-Dropped.is c.count_up.ensures)

pub returns-in-Command : goal.returns-in-Command
returns-in-Command c =
    let a = c.args in
    let served = a_command_is_served a.unit a.port a.byte a.sending (world a.edac.now (kept a.bootloader.now a.bootloader_sums.now) (kept a.fram.now a.sums.now) a.diagnostics.now a.message0.now a.reply0.now a.message1.now a.reply1.now) c.judge-judged.result (both _ _) c.judge-judged.ensures _ _ c.from.result c.of.result _ _ c.in-Command.is c.from.ensures c.heard_by-message.ensures c.of.ensures (c.commanded.ensures.outcome _ _) in
    search (rules, served)

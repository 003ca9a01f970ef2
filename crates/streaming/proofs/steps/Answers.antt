-- `streaming::steps` meets its contract: refused, or bytes that are only heard and the step at which they end, if they do. Assumes nothing.
use mathlib.Core.Path.{◌≡◌, sym, ap, ◌∙◌}
use Prim.Native.Nat.{◌≤◌, ◌<◌}
use lib.ListN.{length, get_or}
use Rattle.std.proofs.Common.{rules}
use Rattle.blocks.specs.Fram.{kept}
use Rattle.ports.specs.Sides.{both}
use Rattle.commanding.specs.World.{world, with_messages}
use Rattle.unit.specs.Steps.{step_of}
use Rattle.unit.proofs.Serving.{served_where_not_refused}
use Rattle.streaming.proofs.Streaming.{no_longer_than_any, a_refused_call, up_to_an_answer, up_to_the_end}
use Rattle.streaming.proofs.steps.Goals as goal

pub returns-in-Err : goal.returns-in-Err
returns-in-Err c =
    let a = c.args in
    a_refused_call a.port a.sending a.unit a.bytes.now (world a.edac.now (kept a.bootloader.now a.bootloader_sums.now) (kept a.fram.now a.sums.now) a.diagnostics.now a.message0.now a.reply0.now a.message1.now a.reply1.now) _ _ (sym c.step_fit.ensures ∙ c.in-Err.is) c.refused.ensures

pub quietly-heard-requires : goal.quietly-heard-requires
quietly-heard-requires c =
    let a = c.args in
    no_longer_than_any a.unit a.port _ (sym c.step_fit.ensures ∙ served_where_not_refused _ c.in_default.not-Err)

pub returns-in_default-get : goal.returns-in_default-get
returns-in_default-get c =
    let a = c.args in
    let none : length a.bytes.now ≤ c.quietly-heard.result.taken = search rules in
    up_to_the_end a.port a.sending a.unit a.bytes.now (world a.edac.now (kept a.bootloader.now a.bootloader_sums.now) (kept a.fram.now a.sums.now) a.diagnostics.now a.message0.now a.reply0.now a.message1.now a.reply1.now) (sym c.step_fit.ensures ∙ served_where_not_refused _ c.in_default.not-Err) c.quietly-heard.result (both _ _) c.quietly-heard.ensures _ none c.only_taken.ensures

pub returns : goal.returns
returns c =
    let a = c.args in
    let heard = c.quietly-heard.result in
    let some : heard.taken < length a.bytes.now = search rules in
    let next : c.in-Some.byte.now ≡ get_or a.bytes.now heard.taken 0 = search rules in
    up_to_an_answer a.port a.sending a.unit a.bytes.now (world a.edac.now (kept a.bootloader.now a.bootloader_sums.now) (kept a.fram.now a.sums.now) a.diagnostics.now a.message0.now a.reply0.now a.message1.now a.reply1.now) (sym c.step_fit.ensures ∙ served_where_not_refused _ c.in_default.not-Err) heard (both _ _) c.quietly-heard.ensures _ some
    (c.step-last.ensures
    ∙ ap (λ byte. step_of heard.unit a.port byte a.sending (with_messages (world a.edac.now (kept a.bootloader.now a.bootloader_sums.now) (kept a.fram.now a.sums.now) a.diagnostics.now a.message0.now a.reply0.now a.message1.now a.reply1.now) (both c.quietly-heard.new.message0 c.quietly-heard.new.message1))) next)

-- `judging::judge` meets its contract: refused, or heard on one of the ports and judged. Assumes nothing.
use mathlib.Core.Path.{sym, ◌∙◌}
use native.Mathlib.Omega.{arith}
use Rattle.carrying.proofs.Limits.{within_both_ends}
use Rattle.ports.specs.Sides.{both}
use Rattle.judging.proofs.Serving.{a_served_step_fits, a_served_record_is_sound}
use Rattle.judging.proofs.Ways.{long_enough_of, refused_quietly, received_and_judged}
use Rattle.judging.proofs.judge.Goals as goal

pub overflow_add-largest : goal.overflow_add-largest
overflow_add-largest c =
    let a = c.args in
    let served = sym c.step_fit.ensures ∙ c.in-Ok.is in
    let most = (within_both_ends a.unit.limit (a_served_record_is_sound a.unit a.port a.lengths served).limit).1 in
    omega (arith, most)

pub verdict_of-verdict-requires : goal.verdict_of-verdict-requires
verdict_of-verdict-requires c =
    let a = c.args in
    let served = sym c.step_fit.ensures ∙ c.in-Ok.is in
    let room = (a_served_step_fits a.unit a.port a.lengths served).message_fits in
    let most = (within_both_ends a.unit.limit (a_served_record_is_sound a.unit a.port a.lengths served).limit).1 in
    (omega (arith, most), long_enough_of c.from-side.result _ _ _ _ _ room (c.hear_on-got.auto.message0 ∙ sym c.requires.0) (c.hear_on-got.auto.message1 ∙ sym c.requires.1) c.heard_by-message.ensures)

pub returns-in-Err : goal.returns-in-Err
returns-in-Err c = let a = c.args in
    refused_quietly a.unit a.port a.byte a.lengths (both a.message0.now a.message1.now) _ (sym c.step_fit.ensures ∙ c.in-Err.is)

pub returns-in-Ok : goal.returns-in-Ok
returns-in-Ok c = let a = c.args in
    received_and_judged a.unit a.port a.byte a.lengths (both a.message0.now a.message1.now) _ c.hear_on-got.result _ _ _ (sym c.step_fit.ensures ∙ c.in-Ok.is) c.from-side.ensures c.hear_on-got.ensures c.heard_by-message.ensures c.verdict_of-verdict.ensures

-- `unit::set_up` meets its contract: refused, or all sums computed. Assumes nothing.
use mathlib.Core.Path.{sym, ◌∙◌}
use native.Mathlib.Omega.{arith}
use Rattle.blocks.specs.Fram.{kept}
use Rattle.carrying.proofs.Limits.{within_both_ends}
use Rattle.judging.proofs.Serving.{a_served_set_up_fits, a_served_set_up_is_limited}
use Rattle.commanding.specs.World.{world, lengths_of}
use Rattle.unit.proofs.Serving.{served_where_not_refused, set_up_refused, set_up_served}
use Rattle.unit.proofs.set_up.Goals as goal

pub returns-in-Err : goal.returns-in-Err
returns-in-Err c =
    let a = c.args in
    rw c.quiet.ensures
    (set_up_refused a.strap a.limit a.locked (world a.edac.now (kept a.bootloader.now a.bootloader_sums.now) (kept a.fram.now a.sums.now) a.diagnostics.now a.message0.now a.reply0.now a.message1.now a.reply1.now) _ _ (sym c.set_up_fit.ensures ∙ c.in-Err.is) c.both_fresh-ports.ensures)

pub compute_sums-requires : goal.compute_sums-requires
compute_sums-requires c =
    let a = c.args in
    (a_served_set_up_fits a.strap a.limit (lengths_of (world a.edac.now (kept a.bootloader.now a.bootloader_sums.now) (kept a.fram.now a.sums.now) a.diagnostics.now a.message0.now a.reply0.now a.message1.now a.reply1.now)) (sym c.set_up_fit.ensures ∙ served_where_not_refused _ c.in_default.not-Err)).bootloader_sums_fit

pub compute_sums-requires-2 : goal.compute_sums-requires-2
compute_sums-requires-2 c =
    let a = c.args in
    (a_served_set_up_fits a.strap a.limit (lengths_of (world a.edac.now (kept a.bootloader.now a.bootloader_sums.now) (kept a.fram.now a.sums.now) a.diagnostics.now a.message0.now a.reply0.now a.message1.now a.reply1.now)) (sym c.set_up_fit.ensures ∙ served_where_not_refused _ c.in_default.not-Err)).the_sums_fit

pub overflow_cast-unit : goal.overflow_cast-unit
overflow_cast-unit c =
    let a = c.args in
    let limited = a_served_set_up_is_limited a.strap a.limit (lengths_of (world a.edac.now (kept a.bootloader.now a.bootloader_sums.now) (kept a.fram.now a.sums.now) a.diagnostics.now a.message0.now a.reply0.now a.message1.now a.reply1.now)) (sym c.set_up_fit.ensures ∙ served_where_not_refused _ c.in_default.not-Err) in
    omega (arith, (within_both_ends a.limit limited).1)

pub returns : goal.returns
returns c =
    let a = c.args in
    rw c.quiet-2.ensures
    (set_up_served a.strap a.limit a.locked (world a.edac.now (kept a.bootloader.now a.bootloader_sums.now) (kept a.fram.now a.sums.now) a.diagnostics.now a.message0.now a.reply0.now a.message1.now a.reply1.now) _ _ _ _ (sym c.set_up_fit.ensures ∙ served_where_not_refused _ c.in_default.not-Err) c.both_fresh-ports.ensures c.compute_sums.ensures c.compute_sums-2.ensures c.write_status.ensures)

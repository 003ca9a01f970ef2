-- `command::init::init` meets its contract, by one law for each of its four ways. Assumes nothing.
use Rattle.std.proofs.Common.{true, refl, sym, ap, ◌∙◌, arith}
use Rattle.memory.specs.Bytes.{begun}
use Rattle.carrying.specs.Held.{standing}
use Rattle.carrying.proofs.Writing.{it_is_done, is_done_storing, it_is_refused, one_write}
use Rattle.command.specs.Init.{application_start, lock_order}
use Rattle.command.proofs.Ways.{init_resets, init_starts, init_locks, init_refuses, four_to_order}
use Rattle.command.proofs.init.init.Goals as goal

pub returns-then-is_empty : goal.returns-then-is_empty
unfolding begun
returns-then-is_empty c =
    let a = c.args in
    it_is_done _ _ _ a.reply.now 0 _ _ (init_resets (standing a.mode a.locked a.diagnostics.now) a.field.now (grind arith)) refl refl

pub returns-then-is_order : goal.returns-then-is_order
returns-then-is_order c =
    let a = c.args in
    let starting = sym c.if-is_order.ensures in
    it_is_done _ _ _ _ 4 _ _
    (init_starts (standing a.mode a.locked a.diagnostics.now) a.field.now (grind arith) starting)
    (four_to_order application_start a.mode a.field.now starting)
    (c.put.ensures ∙ one_write _ _)

pub returns-then-is_order-2 : goal.returns-then-is_order-2
returns-then-is_order-2 c =
    let a = c.args in
    let locking = sym c.if-is_order-2.ensures in
    is_done_storing _ _ _ _ 4 _ _ _
    (init_locks (standing a.mode a.locked a.diagnostics.now) a.field.now (grind arith) (sym c.if-is_order.ensures) locking)
    (ap (standing a.mode true) c.write_status.ensures)
    (four_to_order lock_order a.mode a.field.now locking)
    (c.put-then-is_order-2.ensures ∙ one_write _ _)

pub returns-else-is_order-2 : goal.returns-else-is_order-2
returns-else-is_order-2 c =
    let a = c.args in
    it_is_refused _ _ _
    (init_refuses (standing a.mode a.locked a.diagnostics.now) a.field.now (grind arith) (sym c.if-is_order.ensures) (sym c.if-is_order-2.ensures))

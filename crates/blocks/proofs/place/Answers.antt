-- `blocks::place` meets its contract, by one law for each answer. Assumes nothing.
use native.Mathlib.Omega.{arith}
use Rattle.blocks.proofs.Tests.{before_the_memory, past_the_memory, in_the_memory}
use Rattle.blocks.proofs.place.Goals as goal

pub returns-in_err-at : goal.returns-in_err-at
returns-in_err-at c = rw c.from_residual.ensures (before_the_memory _ _ _ _ (omega (arith, c.in_err-at.ensures)))

pub returns-in_err-last : goal.returns-in_err-last
returns-in_err-last c =
    let at = c.in_ok-at.ensures in
    rw c.from_residual-in_err-last.ensures (past_the_memory _ _ _ _ at.0 (omega (arith, c.in_err-last.ensures)))

pub returns-then-at-last : goal.returns-then-at-last
returns-then-at-last c =
    let at = c.in_ok-at.ensures in
    let last = c.in_ok-last.ensures in
    in_the_memory _ _ _ _ _ at.0 (omega (arith, at, last)) at.1

pub returns-else-at-last : goal.returns-else-at-last
returns-else-at-last c =
    let at = c.in_ok-at.ensures in
    let last = c.in_ok-last.ensures in
    past_the_memory _ _ _ _ at.0 (omega (arith, at, last))

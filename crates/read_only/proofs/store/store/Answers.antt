-- `read_only::store::store` meets its contract: a store under way goes on with what stands alike, whether that is stored or left. Assumes nothing.
use mathlib.Core.Path.{◌∙◌}
use native.Mathlib.Omega.{arith}
use borrow.Author.Rules.{rules}
use Prim.Native.Nat.{◌<◌}
use lib.ListN.{length}
use Rattle.read_only.proofs.Runs.{goes_past}
use Rattle.read_only.proofs.Turns.{store_starts, steps_on, a_writable_turn, a_read_only_turn}
use Rattle.read_only.proofs.store.store.Goals as goal
use Rattle.read_only.proofs.store.store.Goals.{then-not-run, else-not-run}

pub loop-rest-init : goal.loop-rest-init
loop-rest-init c = store_starts _ _ _

pub overflow_sub-run : goal.overflow_sub-run
overflow_sub-run c =
    let some : 0 < length c.loop-rest.rest.now = search rules in
    omega (arith, c.loop-rest.invariant.left, goes_past _ _ c.run_from-run.ensures (omega (arith, c.loop-rest.invariant.left)))

pub loop-rest-smaller : goal.loop-rest-smaller
loop-rest-smaller c =
    let some : 0 < length c.loop-rest.rest.now = search rules in
    omega (arith, c.split_at.ensures.back_len, steps_on _ _ _ _ _ _ c.loop-rest.invariant c.requires.1 c.requires.0 some _ c.run_from-run.ensures _ c.min.ensures)

pub loop-rest-preserved : goal.loop-rest-preserved
loop-rest-preserved c =
    let some : 0 < length c.loop-rest.rest.now = search rules in
    elim c.if-not-run.branch [
      | then-not-run w ↦ a_writable_turn _ _ _ _ _ _ c.loop-rest.invariant c.requires.1 c.requires.0 some _ c.run_from-run.ensures _ c.min.ensures _ _ _ c.split_at.ensures.front c.split_at.ensures.back w.if-not-run.true (w.edac-is ∙ w.put.ensures)
      | else-not-run w ↦ a_read_only_turn _ _ _ _ _ _ c.loop-rest.invariant c.requires.1 c.requires.0 some _ c.run_from-run.ensures _ c.min.ensures _ _ _ c.split_at.ensures.front c.split_at.ensures.back w.if-not-run.false w.edac-is
    ]

-- `read_only::rows::walked` meets its contract: `Walked` is kept, turn for turn, and each way out has its law. Assumes nothing.
use native.Mathlib.Omega.{arith}
use Rattle.read_only.proofs.Listed.{walk_starts, the_last_apart, found_in_a_row, found_between, walks_on, found_before}
use Rattle.read_only.proofs.rows.walked.Goals as goal

pub loop-rest-init : goal.loop-rest-init
loop-rest-init c = walk_starts _ _ _ c.requires.1

pub returns-then-read_only : goal.returns-then-read_only
returns-then-read_only c =
    found_in_a_row _ _ _ _ _ _ _ _ c.requires.0 c.loop-rest.invariant (the_last_apart _ c.in-len1-up.len_at_least) _ _ _
    c.from-first.ensures c.from-last.ensures c.touching_end-stop.ensures c.if-first-at.true c.if-read_only.true

pub returns-else-read_only : goal.returns-else-read_only
returns-else-read_only c =
    found_between _ _ _ _ _ _ _ _ c.requires.0 c.loop-rest.invariant (the_last_apart _ c.in-len1-up.len_at_least) _ _ _
    c.from-first.ensures c.from-last.ensures c.touching_end-stop.ensures c.if-first-at.true c.if-read_only.false

pub loop-rest-preserved : goal.loop-rest-preserved
loop-rest-preserved c =
    walks_on _ _ _ _ _ _ _ _ c.requires.0 c.loop-rest.invariant (the_last_apart _ c.in-len1-up.len_at_least) _ _ _
    c.from-first.ensures c.from-last.ensures c.touching_end-stop.ensures c.if-first-at.false

pub returns : goal.returns
returns c = found_before _ _ _ _ _ _ c.loop-rest.invariant (omega (arith, c.in_default.len_below))

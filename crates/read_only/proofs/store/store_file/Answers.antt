-- `read_only::store::store_file` meets its contract, by one law for file 0 and two for any other. Assumes nothing.
use mathlib.Core.Path.{◌∙◌}
use borrow.Author.Rules.{rules}
use native.Mathlib.Omega.{arith}
use borrow.Author.Tests.{not-true, not-false}
use lib.ListN.{length-set, length-take, length-drop}
use Rattle.memory.proofs.Files.{size_of_file_0, size_of_another}
use Rattle.read_only.proofs.Files.{store_file_0, store_another, leave_another}
use Rattle.read_only.proofs.Runs.{asked_of_a_run}
use Rattle.read_only.proofs.store.store_file.Goals as goal

pub bounds-body-0 : goal.bounds-body-0
bounds-body-0 c = omega (arith, size_of_file_0 _ c.if-file-eq0.true)

pub slice_bounds-put-count : goal.slice_bounds-put-count
slice_bounds-put-count c = omega (arith, size_of_file_0 _ c.if-file-eq0.true)

pub slice_bounds-put-start : goal.slice_bounds-put-start
slice_bounds-put-start c = omega (arith, size_of_file_0 _ c.if-file-eq0.true)

pub put-requires : goal.put-requires
put-requires c =
    simp (length-set, length-take, length-drop) (omega (arith, size_of_file_0 _ c.if-file-eq0.true))

pub returns-then-file-eq0 : goal.returns-then-file-eq0
returns-then-file-eq0 c = c.put.ensures ∙ store_file_0 _ _ _ c.requires.0 c.requires.1 c.if-file-eq0.true

pub run_from-requires : goal.run_from-requires
run_from-requires c = omega arith

pub put-requires-then-not-run_from : goal.put-requires-then-not-run_from
put-requires-then-not-run_from c = omega (arith, size_of_another _ c.if-file-eq0.false)

pub returns-then-not-run_from : goal.returns-then-not-run_from
returns-then-not-run_from c =
    c.put-then-not-run_from.ensures
    ∙ store_another _ _ _ _ _ c.requires.0 (omega arith) c.requires.1 c.if-file-eq0.false (search rules) (asked_of_a_run _ _ c.run_from.ensures) (not-true _ c.if-not-run_from.true)

pub returns-else-not-run_from : goal.returns-else-not-run_from
returns-else-not-run_from c = leave_another _ _ _ _ _ c.requires.0 (omega arith) c.requires.1 c.if-file-eq0.false (search rules) (asked_of_a_run _ _ c.run_from.ensures) (not-false _ c.if-not-run_from.false)

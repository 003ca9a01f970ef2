-- `file_commands::read_file::files_fit` meets its contract. The invariant: what is left of the list fits in what is free if the whole
-- fits in the room. Assumes nothing.
use mathlib.Core.Path.{sym, ap, ◌∙◌}
use native.Mathlib.Omega.{arith}
use lib.ListN.{length}
use Rattle.field.proofs.Places.{place_behind}
use Rattle.file_commands.proofs.Lists.{fit_turn, the_first_does_not_fit, nothing_fits}
use Rattle.file_commands.proofs.read_file.files_fit.Goals as goal

pub returns-then-free-size : goal.returns-then-free-size
returns-then-free-size c =
    sym (the_first_does_not_fit c.loop-reader.reader.field.now c.loop-reader.reader.at _ _ c.loop-reader-test.true c.width-size.ensures c.if-free-size.true)
    ∙ c.loop-reader.invariant

pub loop-reader-smaller : goal.loop-reader-smaller
loop-reader-smaller c =
    let on = place_behind c.loop-reader.reader.field.now c.loop-reader.reader.at 1 (omega arith) in
    let same = ap (λ f. length f.now) c.next-reader.ensures.0 in
    omega arith

pub loop-reader-preserved : goal.loop-reader-preserved
loop-reader-preserved c =
    fit_turn c.loop-reader.reader.field.now c.loop-reader.reader.at _ _ c.loop-reader-test.true c.width-size.ensures _ _ (ap (λ f. f.now) c.next-reader.ensures.0) c.next-reader.ensures.1 c.if-free-size.false
    ∙ c.loop-reader.invariant

pub returns : goal.returns
returns c = sym (nothing_fits c.loop-reader.reader.field.now c.loop-reader.reader.at _ c.loop-reader-test.false) ∙ c.loop-reader.invariant

-- `edac_commands::gather::ranges_taken` meets its contract. The invariant: what is left of the list is taken with what is free if the
-- whole is with the room. Assumes nothing.
use mathlib.Core.Path.{refl, sym, ap, ◌∙◌}
use native.Mathlib.Omega.{arith}
use Rattle.field.proofs.Places.{the_list_is_cut}
use Rattle.edac_commands.specs.Gather.{range_holds}
use Rattle.edac_commands.proofs.Lists.{at_least_one, a_range_stands, taken, taken_turn, a_range_that_does_not_hold, a_range_without_room, nothing_is_taken}
use Rattle.edac_commands.proofs.gather.ranges_taken.Goals as goal

pub returns-in_default : goal.returns-in_default
returns-in_default c =
    let reader = c.loop-reader.reader in
    sym (ap (taken c.loop-reader.free) (the_list_is_cut (λ _. 4) at_least_one reader.field.now reader.at 4 c.loop-reader-test.true refl c.in_default.ensures))
    ∙ c.loop-reader.invariant

pub returns-then-not-range_holds : goal.returns-then-not-range_holds
returns-then-not-range_holds c =
    let reader = c.loop-reader.reader in
    let next = c.in-Some.ensures in
    let here = a_range_stands reader.field.now c.in-Some.next.field.now reader.at c.in-Some.next.at c.loop-reader-test.true (ap (λ f. f.now) next.0) next.1 next.2 in
    sym (a_range_that_does_not_hold _ _ _ c.loop-reader.free _ here c.word16-count.ensures _ c.word16.ensures _ c.range_holds.ensures c.if-not-range_holds.true)
    ∙ c.loop-reader.invariant

pub returns-then-free-size : goal.returns-then-free-size
returns-then-free-size c =
    let reader = c.loop-reader.reader in
    let next = c.in-Some.ensures in
    let here = a_range_stands reader.field.now c.in-Some.next.field.now reader.at c.in-Some.next.at c.loop-reader-test.true (ap (λ f. f.now) next.0) next.1 next.2 in
    sym (a_range_without_room _ _ _ c.loop-reader.free _ here c.word16-count.ensures (omega arith))
    ∙ c.loop-reader.invariant

pub loop-reader-preserved : goal.loop-reader-preserved
loop-reader-preserved c =
    let reader = c.loop-reader.reader in
    let next = c.in-Some.ensures in
    let here = a_range_stands reader.field.now c.in-Some.next.field.now reader.at c.in-Some.next.at c.loop-reader-test.true (ap (λ f. f.now) next.0) next.1 next.2 in
    taken_turn _ _ _ c.loop-reader.free _ here (c.from-size.ensures ∙ c.word16-count.ensures) _ c.word16.ensures _ (c.range_holds.ensures ∙ ap (range_holds c.word16.result) (sym c.from-size.ensures)) c.if-not-range_holds.false (omega arith)
    ∙ c.loop-reader.invariant

pub returns : goal.returns
returns c = sym (nothing_is_taken c.loop-reader.reader.field.now c.loop-reader.reader.at c.loop-reader.free c.loop-reader-test.false) ∙ c.loop-reader.invariant

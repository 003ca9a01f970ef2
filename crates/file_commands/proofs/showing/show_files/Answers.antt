-- `file_commands::showing::show_files` meets its contract. The invariant: of the whole reply so much is written as of the list is passed.
-- Assumes nothing.
use mathlib.Core.Path.{refl, sym, ap, ◌∙◌}
use Prim.Native.Nat.{◌+◌, ◌<◌}
use native.Mathlib.Omega.{arith}
use lib.ListN.{get_or}
use Rattle.memory.proofs.Files.{a_file_is_shown_in_its_size}
use Rattle.field.proofs.Places.{the_list_is_cut}
use Rattle.carrying.proofs.Writing.{nothing_written, more_of_it, end_of_it, size_of_it}
use Rattle.file_commands.proofs.Lists.{files_width_turn, files_shown_turn, no_files_left, no_files_in_a_cut_list}
use Rattle.file_commands.proofs.showing.show_files.Goals as goal

pub loop-reader-init : goal.loop-reader-init
loop-reader-init g c = (refl, omega (arith, c.requires.1), nothing_written _ _)

pub returns-in_default : goal.returns-in_default
returns-in_default g c =
    let field = c.loop-reader.reader.field.now in
    let at = c.loop-reader.reader.at in
    let cut = the_list_is_cut g.S.Structure.wide g.met.S.Structure.some field at _ c.loop-reader-test.true c.width.ensures c.in_default.ensures in
    let none = no_files_in_a_cut_list g.S.Structure.wide c.args.edac.now field at cut in
    (size_of_it _ _ _ _ _ c.loop-reader.invariant.2 none, end_of_it _ _ _ _ _ c.loop-reader.invariant.2 none)

pub show_file-place-requires : goal.show_file-place-requires
show_file-place-requires g c =
    let field = c.loop-reader.reader.field.now in
    let at = c.loop-reader.reader.at in
    let next = c.in-Some.ensures in
    let turn = files_width_turn g.S.Structure.wide g.met.S.Structure.some field c.in-Some.next.field.now at _ c.in-Some.next.at c.loop-reader-test.true c.width.ensures (ap (λ f. f.now) next.0) next.1 next.2 in
    (c.requires.0, omega arith)

pub loop-reader-preserved : goal.loop-reader-preserved
loop-reader-preserved g c =
    let edac = c.args.edac.now in
    let field = c.loop-reader.reader.field.now in
    let at = c.loop-reader.reader.at in
    let small : get_or field at 0 < 256 = omega arith in
    let next = c.in-Some.ensures in
    let turn = files_width_turn g.S.Structure.wide g.met.S.Structure.some field c.in-Some.next.field.now at _ c.in-Some.next.at c.loop-reader-test.true c.width.ensures (ap (λ f. f.now) next.0) next.1 next.2 in
    let shown = files_shown_turn g.S.Structure.wide g.met.S.Structure.some field c.in-Some.next.field.now at _ c.in-Some.next.at c.loop-reader-test.true c.width.ensures (ap (λ f. f.now) next.0) next.1 next.2 edac in
    let length_shown = a_file_is_shown_in_its_size edac (get_or field at 0) c.requires.0 small in (
      omega arith,
      omega arith,
      more_of_it _ _ _ _ _ _ _ _ _ c.loop-reader.invariant.2 shown c.show_file-place.ensures.1 (ap (λ n. c.loop-reader.place + n) length_shown ∙ sym c.show_file-place.ensures.0),
    )

pub returns : goal.returns
returns g c =
    let none = no_files_left g.S.Structure.wide c.args.edac.now c.loop-reader.reader.field.now c.loop-reader.reader.at c.loop-reader-test.false in
    (size_of_it _ _ _ _ _ c.loop-reader.invariant.2 none, end_of_it _ _ _ _ _ c.loop-reader.invariant.2 none)

-- `edac_commands::gather::show_ranges` meets its contract. The invariant: of the whole reply so much is written. Assumes nothing.
use mathlib.Core.Path.{refl, sym, ap}
use Prim.Native.Nat.{◌-◌}
use native.Mathlib.Omega.{arith}
use lib.ListN.{take, drop}
use Rattle.field.specs.Fields.{word16_at}
use Rattle.field.proofs.Lists.{list_ends}
use Rattle.field.proofs.Places.{the_list_is_cut}
use Rattle.carrying.proofs.Room.{part}
use Rattle.carrying.proofs.Writing.{nothing_written, more_of_it, end_of_it, size_of_it}
use Rattle.edac_commands.specs.Gather.{ranges_width, ranges_shown}
use Rattle.edac_commands.proofs.Lists.{at_least_one, a_range_stands}
use Rattle.edac_commands.proofs.Room.{head_then_bytes}
use Rattle.edac_commands.proofs.gather.show_ranges.Goals as goal

pub loop-reader-init : goal.loop-reader-init
loop-reader-init c = (refl, omega arith, nothing_written _ _)

pub returns-in_default : goal.returns-in_default
returns-in_default c =
    let reader = c.loop-reader.reader in
    let none = ap (ranges_shown c.args.edac.now) (the_list_is_cut (λ _. 4) at_least_one reader.field.now reader.at 4 c.loop-reader-test.true refl c.in_default.ensures) in
    (size_of_it _ _ _ _ _ c.loop-reader.invariant.2 none, end_of_it _ _ _ _ _ c.loop-reader.invariant.2 none)

pub show_range-place-requires : goal.show_range-place-requires
show_range-place-requires c =
    let reader = c.loop-reader.reader in
    let next = c.in-Some.ensures in
    let turn = ap ranges_width (a_range_stands reader.field.now c.in-Some.next.field.now reader.at c.in-Some.next.at c.loop-reader-test.true (ap (λ f. f.now) next.0) next.1 next.2) in
    let head = part (c.in-Some.next.at - reader.at) (drop reader.at reader.field.now) in
    omega arith

pub loop-reader-preserved : goal.loop-reader-preserved
loop-reader-preserved c =
    let edac = c.args.edac.now in
    let reader = c.loop-reader.reader in
    let next = c.in-Some.ensures in
    let here = a_range_stands reader.field.now c.in-Some.next.field.now reader.at c.in-Some.next.at c.loop-reader-test.true (ap (λ f. f.now) next.0) next.1 next.2 in
    let turn = ap ranges_width here in
    let range = take (c.in-Some.next.at - reader.at) (drop reader.at reader.field.now) in
    let size = head_then_bytes (c.in-Some.next.at - reader.at) (word16_at range 2) (drop reader.at reader.field.now) (drop (word16_at range 0) edac) in (
      omega arith,
      omega arith,
      more_of_it _ _ _ _ _ _ _ _ _ c.loop-reader.invariant.2 (ap (ranges_shown edac) here) c.show_range-place.ensures.1 (sym c.show_range-place.ensures.0),
    )

pub returns : goal.returns
returns c =
    let none = ap (ranges_shown c.args.edac.now) (list_ends (λ _. 4) c.loop-reader.reader.field.now c.loop-reader.reader.at c.loop-reader-test.false) in
    (size_of_it _ _ _ _ _ c.loop-reader.invariant.2 none, end_of_it _ _ _ _ _ c.loop-reader.invariant.2 none)

-- `file_commands::write_file::store_files` meets its contract. The invariant: storing what is left gives what the list shall store.
-- Assumes nothing.
use mathlib.Core.Path.{sym, ap, ◌∙◌}
use native.Mathlib.Omega.{arith}
use Rattle.memory.specs.Edac.{shown_size}
use Rattle.field.proofs.Lists.{list_ends}
use Rattle.field.proofs.Places.{the_list_is_cut}
use lib.ListN.{drop}
use Rattle.file_commands.specs.WriteFile.{listed, files_stored}
use Rattle.file_commands.proofs.Lists.{at_least_one, a_file_stands}
use Rattle.file_commands.proofs.write_file.store_files.Goals as goal

pub returns-in_default : goal.returns-in_default
returns-in_default c =
    sym (ap (files_stored c.loop-reader.edac) (the_list_is_cut shown_size at_least_one c.loop-reader.reader.field.now c.loop-reader.reader.at _ c.loop-reader-test.true c.width.ensures c.in_default.ensures))
    ∙ c.loop-reader.invariant.1

pub loop-reader-preserved : goal.loop-reader-preserved
loop-reader-preserved c =
    let next = c.in-Some.ensures in (
      omega arith,
      ap (λ l. files_stored l (listed (drop c.in-Some.next.at c.in-Some.next.field.now))) c.store_file.ensures
          ∙ sym (ap (files_stored c.loop-reader.edac) (a_file_stands c.loop-reader.reader.field.now c.in-Some.next.field.now c.loop-reader.reader.at _ _ c.loop-reader-test.true c.width.ensures (ap (λ f. f.now) next.0) next.1 next.2))
          ∙ c.loop-reader.invariant.1,
    )

pub returns : goal.returns
returns c = sym (ap (files_stored c.loop-reader.edac) (list_ends shown_size c.loop-reader.reader.field.now c.loop-reader.reader.at c.loop-reader-test.false)) ∙ c.loop-reader.invariant.1

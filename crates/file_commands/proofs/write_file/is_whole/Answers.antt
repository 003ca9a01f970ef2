-- `file_commands::write_file::is_whole` meets its contract. The invariant: what is left of the list decides the whole. Assumes nothing.
use mathlib.Core.Path.{sym, ap, ◌∙◌}
use Rattle.memory.specs.Edac.{shown_size}
use Rattle.field.specs.Reading.{is_whole}
use Rattle.field.proofs.Lists.{list_ends}
use Rattle.field.proofs.Places.{a_structure_stands, the_list_is_cut}
use Rattle.file_commands.proofs.Lists.{at_least_one}
use Rattle.file_commands.proofs.write_file.is_whole.Goals as goal

pub returns-in_default : goal.returns-in_default
returns-in_default c =
    sym (ap is_whole (the_list_is_cut shown_size at_least_one c.loop-reader.reader.field.now c.loop-reader.reader.at _ c.loop-reader-test.true c.width.ensures c.in_default.ensures))
    ∙ c.loop-reader.invariant

pub loop-reader-preserved : goal.loop-reader-preserved
loop-reader-preserved c =
    let next = c.in-Some.ensures in
    sym (ap is_whole (a_structure_stands shown_size at_least_one c.loop-reader.reader.field.now c.loop-reader.reader.at _ c.loop-reader-test.true c.width.ensures c.in-Some.next.field.now _ (ap (λ f. f.now) next.0) next.1 next.2))
    ∙ c.loop-reader.invariant

pub returns : goal.returns
returns c = sym (ap is_whole (list_ends shown_size c.loop-reader.reader.field.now c.loop-reader.reader.at c.loop-reader-test.false)) ∙ c.loop-reader.invariant

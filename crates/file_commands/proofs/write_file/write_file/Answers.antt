-- `file_commands::write_file::write_file` meets its contract: a list that was stored is shown in as many bytes as it has. Assumes nothing.
use mathlib.Core.Path.{ap, ◌∙◌}
use native.Mathlib.Omega.{arith}
use Rattle.field.proofs.Places.{from_the_start}
use Rattle.file_commands.specs.ReadFile.{files_width}
use Rattle.file_commands.specs.WriteFile.{listed, files_of, store_list_of}
use Rattle.file_commands.proofs.Ways.{room_for_the_list}
use Rattle.file_commands.proofs.write_file.write_file.Goals as goal

pub show_files-requires : goal.show_files-requires
show_files-requires c =
    let a = c.args in
    let list = from_the_start a.field.now c.new-list.result.field.now c.new-list.result.at (ap (λ f. f.now) c.new-list.ensures.0) c.new-list.ensures.1 in
    let room = room_for_the_list a.room a.edac.now a.field.now a.reply.now c.store_list.new.edac (c.in-Ok.ensures ∙ ap (store_list_of a.room a.edac.now) list) c.requires.0 in
    let long = ap (λ l. files_width (files_of (listed l))) list in
    (omega arith, omega arith)

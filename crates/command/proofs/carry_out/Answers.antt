-- `command::carry_out` meets its contract: the handler leaves what its command comes to. Assumes nothing.
use Rattle.blocks.specs.Lent.{kept_in}
use Rattle.carrying.specs.Held.{frams, standing, held}
use Rattle.carrying.proofs.Writing.{is_the_same, it_is_refused}
use Rattle.carrying.proofs.Parts.{on_a_part}
use Rattle.fram_commands.specs.ByAddress.{peek_by_address, poke_by_address, crc_by_address}
use Rattle.file_commands.specs.ReadFile.{read_file_of}
use Rattle.file_commands.specs.WriteFile.{write_file_of}
use Rattle.edac_commands.specs.ReadEdac.{read_edac_of}
use Rattle.edac_commands.specs.WriteEdac.{write_edac_of}
use Rattle.edac_commands.specs.Gather.{gather_of}
use Rattle.command.specs.declared.code.Command.TheVariants.{Ping, Init, Peek, Poke, Diagnostic, Crc, ReadFile, WriteFile, ReadEdac, WriteEdac, Gather}
use Rattle.command.specs.Ping.{ping_of}
use Rattle.command.specs.Init.{init_of}
use Rattle.command.specs.Diagnostic.{diagnostic_of}
use Rattle.command.proofs.Codes.{what_is_allowed_comes, what_is_not_allowed_is_refused}
use Rattle.command.proofs.carry_out.Goals as goal

pub returns-in-Ok-Init-clause-leaves : goal.returns-in-Ok-Init-clause-leaves
returns-in-Ok-Init-clause-leaves c =
    let a = c.args in
    let both = frams (kept_in a.bootloader.now) (kept_in a.user.now) in
    let here = standing a.mode a.locked a.diagnostics.now in
    let now = held here a.edac.now both in
    is_the_same _ _ _ _ _ (what_is_allowed_comes a.room now a.field.now a.code _ Init c.in-Ok-Init.ensures c.in-Ok-Init.field-0-is)
    (on_a_part (λ s. held s a.edac.now both) (init_of here a.field.now) _ _ a.reply.now _ here c.init.ensures)

pub returns-in-Ok-Ping-clause-leaves : goal.returns-in-Ok-Ping-clause-leaves
returns-in-Ok-Ping-clause-leaves c =
    let a = c.args in
    let both = frams (kept_in a.bootloader.now) (kept_in a.user.now) in
    let here = standing a.mode a.locked a.diagnostics.now in
    let now = held here a.edac.now both in
    is_the_same _ _ _ _ _ (what_is_allowed_comes a.room now a.field.now a.code _ Ping c.in-Ok-Ping.ensures c.in-Ok-Ping.field-0-is)
    (on_a_part (λ _. now) ping_of _ _ a.reply.now _ tt c.ping-ended.ensures)

pub returns-in-Ok-Peek-clause-leaves : goal.returns-in-Ok-Peek-clause-leaves
returns-in-Ok-Peek-clause-leaves c =
    let a = c.args in
    let both = frams (kept_in a.bootloader.now) (kept_in a.user.now) in
    let here = standing a.mode a.locked a.diagnostics.now in
    let now = held here a.edac.now both in
    is_the_same _ _ _ _ _ (what_is_allowed_comes a.room now a.field.now a.code _ Peek c.in-Ok-Peek.ensures c.in-Ok-Peek.field-0-is)
    (on_a_part (λ _. now) (peek_by_address a.room a.bootloader.now.bytes.now a.user.now.bytes.now a.field.now) _ _ a.reply.now _ tt c.peek-ended.ensures)

pub returns-in-Ok-Poke-clause-leaves : goal.returns-in-Ok-Poke-clause-leaves
returns-in-Ok-Poke-clause-leaves c =
    let a = c.args in
    let both = frams (kept_in a.bootloader.now) (kept_in a.user.now) in
    let here = standing a.mode a.locked a.diagnostics.now in
    let now = held here a.edac.now both in
    is_the_same _ _ _ _ _ (what_is_allowed_comes a.room now a.field.now a.code _ Poke c.in-Ok-Poke.ensures c.in-Ok-Poke.field-0-is)
    (on_a_part (λ m. held here a.edac.now m) (poke_by_address a.room a.locked both a.field.now) _ _ a.reply.now _ both c.poke-ended.ensures.leaves)

pub returns-in-Ok-Diagnostic-clause-leaves : goal.returns-in-Ok-Diagnostic-clause-leaves
returns-in-Ok-Diagnostic-clause-leaves c =
    let a = c.args in
    let both = frams (kept_in a.bootloader.now) (kept_in a.user.now) in
    let here = standing a.mode a.locked a.diagnostics.now in
    let now = held here a.edac.now both in
    is_the_same _ _ _ _ _ (what_is_allowed_comes a.room now a.field.now a.code _ Diagnostic c.in-Ok-Diagnostic.ensures c.in-Ok-Diagnostic.field-0-is)
    (on_a_part (λ _. now) (diagnostic_of a.room a.diagnostics.now a.field.now) _ _ a.reply.now _ tt c.diagnostic-ended.ensures)

pub returns-in-Ok-Crc-clause-leaves : goal.returns-in-Ok-Crc-clause-leaves
returns-in-Ok-Crc-clause-leaves c =
    let a = c.args in
    let both = frams (kept_in a.bootloader.now) (kept_in a.user.now) in
    let here = standing a.mode a.locked a.diagnostics.now in
    let now = held here a.edac.now both in
    is_the_same _ _ _ _ _ (what_is_allowed_comes a.room now a.field.now a.code _ Crc c.in-Ok-Crc.ensures c.in-Ok-Crc.field-0-is)
    (on_a_part (λ _. now) (crc_by_address both a.field.now) _ _ a.reply.now _ tt c.range_crc-ended.ensures)

pub returns-in-Ok-ReadFile-clause-leaves : goal.returns-in-Ok-ReadFile-clause-leaves
returns-in-Ok-ReadFile-clause-leaves c =
    let a = c.args in
    let both = frams (kept_in a.bootloader.now) (kept_in a.user.now) in
    let here = standing a.mode a.locked a.diagnostics.now in
    let now = held here a.edac.now both in
    is_the_same _ _ _ _ _ (what_is_allowed_comes a.room now a.field.now a.code _ ReadFile c.in-Ok-ReadFile.ensures c.in-Ok-ReadFile.field-0-is)
    (on_a_part (λ _. now) (read_file_of a.room a.edac.now a.field.now) _ _ a.reply.now _ tt c.read_file-ended.ensures)

pub returns-in-Ok-WriteFile-clause-leaves : goal.returns-in-Ok-WriteFile-clause-leaves
returns-in-Ok-WriteFile-clause-leaves c =
    let a = c.args in
    let both = frams (kept_in a.bootloader.now) (kept_in a.user.now) in
    let here = standing a.mode a.locked a.diagnostics.now in
    let now = held here a.edac.now both in
    is_the_same _ _ _ _ _ (what_is_allowed_comes a.room now a.field.now a.code _ WriteFile c.in-Ok-WriteFile.ensures c.in-Ok-WriteFile.field-0-is)
    (on_a_part (λ e. held here e both) (write_file_of a.room a.edac.now a.field.now) _ _ a.reply.now _ a.edac.now c.write_file-ended.ensures)

pub returns-in-Ok-ReadEdac-clause-leaves : goal.returns-in-Ok-ReadEdac-clause-leaves
returns-in-Ok-ReadEdac-clause-leaves c =
    let a = c.args in
    let both = frams (kept_in a.bootloader.now) (kept_in a.user.now) in
    let here = standing a.mode a.locked a.diagnostics.now in
    let now = held here a.edac.now both in
    is_the_same _ _ _ _ _ (what_is_allowed_comes a.room now a.field.now a.code _ ReadEdac c.in-Ok-ReadEdac.ensures c.in-Ok-ReadEdac.field-0-is)
    (on_a_part (λ _. now) (read_edac_of a.room a.edac.now a.field.now) _ _ a.reply.now _ tt c.read_edac-ended.ensures)

pub returns-in-Ok-WriteEdac-clause-leaves : goal.returns-in-Ok-WriteEdac-clause-leaves
returns-in-Ok-WriteEdac-clause-leaves c =
    let a = c.args in
    let both = frams (kept_in a.bootloader.now) (kept_in a.user.now) in
    let here = standing a.mode a.locked a.diagnostics.now in
    let now = held here a.edac.now both in
    is_the_same _ _ _ _ _ (what_is_allowed_comes a.room now a.field.now a.code _ WriteEdac c.in-Ok-WriteEdac.ensures c.in-Ok-WriteEdac.field-0-is)
    (on_a_part (λ e. held here e both) (write_edac_of a.room a.edac.now a.field.now) _ _ a.reply.now _ a.edac.now c.write_edac-ended.ensures)

pub returns-in-Ok-Gather-clause-leaves : goal.returns-in-Ok-Gather-clause-leaves
returns-in-Ok-Gather-clause-leaves c =
    let a = c.args in
    let both = frams (kept_in a.bootloader.now) (kept_in a.user.now) in
    let here = standing a.mode a.locked a.diagnostics.now in
    let now = held here a.edac.now both in
    is_the_same _ _ _ _ _ (what_is_allowed_comes a.room now a.field.now a.code _ Gather c.in-Ok-Gather.ensures c.in-Ok-Gather.field-0-is)
    (on_a_part (λ _. now) (gather_of a.room a.edac.now a.field.now) _ _ a.reply.now _ tt c.gather-ended.ensures)

pub returns-in-Err-clause-leaves : goal.returns-in-Err-clause-leaves
returns-in-Err-clause-leaves c =
    let a = c.args in
    let both = frams (kept_in a.bootloader.now) (kept_in a.user.now) in
    let here = standing a.mode a.locked a.diagnostics.now in
    let now = held here a.edac.now both in
    let known = c.in-Err.ensures in
    rw known.0 (it_is_refused _ _ _ (what_is_not_allowed_is_refused a.room now a.field.now a.code known.1))

-- No command's reply is longer than a message has room for. Assumes nothing.
use mathlib.Core.List.{List, []}
use Prim.Native.Nat.{ℕ, ◌*◌, ◌≤◌}
use native.Mathlib.Omega.{arith}
use borrow.Author.Tests.{ltb-false}
use lib.Dec.{eqb, ltb}
use lib.ListN.{length}
use Rattle.carrying.specs.declared.Mode.TheVariants.{Bootloader, Application}
use Rattle.carrying.specs.Ending.{done, refused}
use Rattle.carrying.specs.Held.{Standing, standing, Held}
use Rattle.carrying.proofs.Room.{either_way, Roomy, roomy_inside}
use Rattle.fram_commands.specs.ByAddress.{peek_by_address, poke_by_address, crc_by_address}
use Rattle.fram_commands.proofs.Room.{peek_by_address_fits, poke_by_address_fits, crc_by_address_fits}
use Rattle.file_commands.specs.ReadFile.{read_file_of}
use Rattle.file_commands.specs.WriteFile.{write_file_of}
use Rattle.file_commands.proofs.Room.{read_file_fits, write_file_fits}
use Rattle.edac_commands.specs.ReadEdac.{read_edac_of}
use Rattle.edac_commands.specs.WriteEdac.{write_edac_of}
use Rattle.edac_commands.specs.Gather.{gather_of}
use Rattle.edac_commands.proofs.Room.{read_edac_fits, write_edac_fits, gather_fits}
use Rattle.command.specs.Init.{application_start, lock_order, orders, locked_from, init_of}
use Rattle.command.specs.Diagnostic.{all_channels, channels_shown, diagnostic_of}
use Rattle.command.specs.Command.{command_of}
use Rattle.command.proofs.Codes.{of_any_command}
use Rattle.command.proofs.Ways.{four_to_order}
use Rattle.command.proofs.Channels.{length_of_shown_channels}

module _ (room : ℕ) where
  init_fits : 4 ≤ room → (now : Standing) (field : List ℕ) → Roomy room (init_of now field)
  unfolding init_of
  init_fits enough now field =
      either_way (Roomy room) (eqb (length field) 0) (done [] (standing Bootloader now.locked now.diagnostics)) _ (λ _. omega arith)
      (λ _. either_way (Roomy room) (orders application_start now.mode field) (done field (standing Application now.locked now.diagnostics)) _
      (λ e. let four = four_to_order application_start now.mode field e in omega arith)
      (λ _. either_way (Roomy room) (orders lock_order now.mode field) (done field (locked_from now)) refused
      (λ e. let four = four_to_order lock_order now.mode field e in omega arith) (λ _. omega arith)))

  diagnostic_fits : (diagnostics field : List ℕ) → Roomy room (diagnostic_of room diagnostics field)
  unfolding diagnostic_of
  diagnostic_fits diagnostics field =
      either_way (Roomy room) (eqb (length field) 0) refused _ (λ _. omega arith)
      (λ _. either_way (Roomy room) (ltb room (5 * length field)) refused _ (λ _. omega arith)
      (λ e. either_way (Roomy room) (all_channels field) (done (channels_shown diagnostics field) tt) refused
      (λ _. shown (ltb-false room (5 * length field) e)) (λ _. omega arith)))
    where
      shown : 5 * length field ≤ room → length (channels_shown diagnostics field) ≤ room
      shown h = let e = length_of_shown_channels diagnostics field in omega arith

pub every_reply_has_room : (room : ℕ) → 17 ≤ room → (code : ℕ) (now : Held) (field : List ℕ) → Roomy room (command_of room code now field)
every_reply_has_room room enough code now field =
    of_any_command (Roomy room) room code now field (omega arith) (
      enough,
      (
        roomy_inside room _ (init_of now.standing field) (init_fits room (omega arith) now.standing field),
        (
          roomy_inside room _ (peek_by_address room now.frams.bootloader.fram now.frams.user.fram field) (peek_by_address_fits room now.frams.bootloader.fram now.frams.user.fram field),
          (
            roomy_inside room _ (poke_by_address room now.standing.locked now.frams field) (poke_by_address_fits room now.standing.locked now.frams field),
            (
              roomy_inside room _ (diagnostic_of room now.standing.diagnostics field) (diagnostic_fits room now.standing.diagnostics field),
              (
                roomy_inside room _ (crc_by_address now.frams field) (crc_by_address_fits room (omega arith) now.frams field),
                (
                  roomy_inside room _ (read_file_of room now.edac field) (read_file_fits room now.edac field),
                  (
                    roomy_inside room _ (write_file_of room now.edac field) (write_file_fits room now.edac field),
                    (
                      roomy_inside room _ (read_edac_of room now.edac field) (read_edac_fits room now.edac field),
                      (
                        roomy_inside room _ (write_edac_of room now.edac field) (write_edac_fits room now.edac field),
                        (roomy_inside room _ (gather_of room now.edac field) (gather_fits room now.edac field), tt),
                      ),
                    ),
                  ),
                ),
              ),
            ),
          ),
        ),
      ),
    )

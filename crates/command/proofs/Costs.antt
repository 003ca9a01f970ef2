-- What a command costs. Assumes nothing.
use mathlib.Core.Path.{◌≡◌, refl, ap, subst, sym, ◌∙◌}
use mathlib.Core.List.{List}
use Prim.Native.Nat.{ℕ, ◌+◌, ◌≤◌, max}
use native.Mathlib.Omega.{arith}
use borrow.Author.Tests.{eqb-true}
use lib.Dec.{eqb}
use lib.ListN.{length}
use Rattle.blocks.specs.Fram.{block_start}
use Rattle.carrying.specs.Ending.{Ended, Ending, done, refused, unfitted, ended_of}
use Rattle.carrying.specs.Held.{Which, of_bootloader, of_user, fram_of, Held, inside, reading}
use Rattle.carrying.proofs.Room.{either_way}
use Rattle.fram_commands.specs.Windows.{which_of}
use Rattle.fram_commands.specs.ByAddress.{crc_by_address}
use Rattle.fram_commands.specs.Cost.{crc_cost}
use Rattle.fram_commands.proofs.Costs.{what_a_crc_costs_at_most}
use Rattle.command.specs.Command.{command_of}
use Rattle.command.specs.Cost.{command_cost}
use Rattle.command.proofs.Codes.{in_either_mode}

-- an ending of a part of what is held is the same of the whole
ended_inside : {M N : Type 0} (f : M → N) (o : Ending M) → ended_of (inside f o) ≡ ended_of o
ended_inside f (done bytes after) = refl
ended_inside f refused = refl
ended_inside f unfitted = refl

-- A command costs at most 508 above the number of blocks of the larger FRAM.
pub what_a_command_costs_at_most : (room code : ℕ) (now : Held) (field : List ℕ)
    → length now.frams.bootloader.fram ≡ block_start (length now.frams.bootloader.sums) → length now.frams.user.fram ≡ block_start (length now.frams.user.sums)
    → command_cost code (ended_of (command_of room code now field)) field
    ≤ max (length now.frams.bootloader.sums) (length now.frams.user.sums) + 508
what_a_command_costs_at_most room code now field one two =
    either_way (λ n. n ≤ max (length now.frams.bootloader.sums) (length now.frams.user.sums) + 508) (eqb code 0x06) _ 0
    (λ is.
    let came : ended_of (command_of room code now field) ≡ ended_of (crc_by_address now.frams field)
    = ap ended_of (in_either_mode room code now field 0x06 (reading now (crc_by_address now.frams field)) (eqb-true code 0x06 is) refl)
    ∙ ended_inside (λ _. now) (crc_by_address now.frams field) in
    let most = what_a_crc_costs_at_most now.frams field one two in
    let larger = by (which_of field) in
    subst (λ (e : Ended). crc_cost e field ≤ max (length now.frams.bootloader.sums) (length now.frams.user.sums) + 508) (sym came) (omega arith))
    (λ _. omega arith)
  where
    by : (which : Which) → length (fram_of which now.frams).sums ≤ max (length now.frams.bootloader.sums) (length now.frams.user.sums)
    by of_bootloader = omega arith
    by of_user = omega arith

-- The FRAM status: what a write of it changes. Assumes nothing.
use mathlib.Core.Path.{◌≡◌}
use mathlib.Core.Bool.{Bool, true, false}
use mathlib.Core.List.{List}
use Prim.Native.Nat.{ℕ, ◌+◌, ◌*◌, ◌/◌, ◌%◌, ◌<◌}
use native.Mathlib.Omega.{arith}
use lib.ListN.{length, get_or, length-set}
use lib.Seq.{get_or-set_same, get_or-set_other}
use Rattle.memory.specs.Status.{fram_status, status_byte, status_written}

pub the_status_is_a_byte : (locked : Bool) → status_byte locked < 256
the_status_is_a_byte true = omega arith
the_status_is_a_byte false = omega arith

-- The low byte of 0x06 is what was written, its other bytes are what they were, and no other diagnostic moves.
pub what_a_status_writes : (locked : Bool) (diagnostics : List ℕ) → fram_status < length diagnostics
    → (get_or (status_written locked diagnostics) fram_status 0 % 256 ≡ status_byte locked)
    × (get_or (status_written locked diagnostics) fram_status 0 / 256 ≡ get_or diagnostics fram_status 0 / 256)
unfolding status_written
what_a_status_writes locked diagnostics there =
    let byte = the_status_is_a_byte locked in
    let held = get_or-set_same diagnostics fram_status (get_or diagnostics fram_status 0 / 256 * 256 + status_byte locked) 0 there in
    (omega (arith, held), omega (arith, held))

pub a_status_moves_no_other_diagnostic : (locked : Bool) (diagnostics : List ℕ) (channel : ℕ) → (channel ≡ fram_status → ⊥)
    → get_or (status_written locked diagnostics) channel 0 ≡ get_or diagnostics channel 0
unfolding status_written
a_status_moves_no_other_diagnostic locked diagnostics channel other = get_or-set_other diagnostics fram_status channel (get_or diagnostics fram_status 0 / 256 * 256 + status_byte locked) 0 other

pub a_status_keeps_the_length : (locked : Bool) (diagnostics : List ℕ) → length (status_written locked diagnostics) ≡ length diagnostics
unfolding status_written
a_status_keeps_the_length locked diagnostics = simp length-set

-- One law for each way through a command's function. Assumes nothing.
use mathlib.Core.Path.{◌≡◌, refl}
use mathlib.Core.Bool.{Bool, true, false, ◌&&◌, false≢true}
use mathlib.Core.List.{List, []}
use Prim.Native.Nat.{ℕ, ◌*◌, ◌/◌, ◌≤◌, ◌<◌}
use native.Mathlib.Omega.{arith}
use borrow.Author.Tests.{lt-ltb, le-ltb, eq-eqb, ne_eqb, eqb-true}
use lib.Dec.{eqb}
use lib.ListN.{length}
use Rattle.carrying.specs.declared.Mode.{Mode}
use Rattle.carrying.specs.declared.Mode.TheVariants.{Bootloader, Application}
use Rattle.carrying.specs.Ending.{done, refused}
use Rattle.field.specs.Fields.{word32_at}
use Rattle.carrying.specs.Held.{Standing, standing}
use Rattle.command.specs.Init.{application_start, lock_order, orders, locked_from, init_of}
use Rattle.command.specs.Diagnostic.{all_channels, channels_shown, diagnostic_of}

-- ---- INIT

pub init_resets : (now : Standing) (field : List ℕ) → length field ≡ 0 → init_of now field ≡ done [] (standing Bootloader now.locked now.diagnostics)
unfolding init_of
init_resets now field none = simp (eq-eqb (length field) 0 none)

module _ (now : Standing) (field : List ℕ) (some : length field ≡ 0 → ⊥) where
  pub init_starts : orders application_start now.mode field ≡ true → init_of now field ≡ done field (standing Application now.locked now.diagnostics)
  unfolding init_of
  init_starts starting = simp (ne_eqb (length field) 0 some, starting)

  pub init_locks : orders application_start now.mode field ≡ false → orders lock_order now.mode field ≡ true → init_of now field ≡ done field (locked_from now)
  unfolding init_of
  init_locks other locking = simp (ne_eqb (length field) 0 some, other, locking)

  pub init_refuses : orders application_start now.mode field ≡ false → orders lock_order now.mode field ≡ false → init_of now field ≡ refused
  unfolding init_of
  init_refuses other another = simp (ne_eqb (length field) 0 some, other, another)

both_first : (a b : Bool) → (a && b) ≡ true → a ≡ true
both_first true b h = refl
both_first false b h = h

pub four_to_order : (value : ℕ) (mode : Mode) (field : List ℕ) → orders value mode field ≡ true → length field ≡ 4
four_to_order value Bootloader field h = eqb-true (length field) 4 (both_first (eqb (length field) 4) (eqb (word32_at field 0) value) h)
four_to_order value Application field h = let z : false ≡ true = h in absurd (false≢true z)

-- ---- DIAGNOSTIC

pub no_channels : (room : ℕ) (diagnostics field : List ℕ) → length field ≡ 0 → diagnostic_of room diagnostics field ≡ refused
unfolding diagnostic_of
no_channels room diagnostics field none = simp (eq-eqb (length field) 0 none)

pub channels_without_room : (room : ℕ) (diagnostics field : List ℕ) → (length field ≡ 0 → ⊥) → room / 5 < length field → diagnostic_of room diagnostics field ≡ refused
unfolding diagnostic_of
channels_without_room room diagnostics field some lacks = simp (ne_eqb (length field) 0 some, lt-ltb room (5 * length field) (omega arith))

module _ (room : ℕ) (diagnostics field : List ℕ) (some : length field ≡ 0 → ⊥) (fits : length field ≤ room / 5) where
  pub channels_are_shown : all_channels field ≡ true → diagnostic_of room diagnostics field ≡ done (channels_shown diagnostics field) tt
  unfolding diagnostic_of
  channels_are_shown all = simp (ne_eqb (length field) 0 some, le-ltb room (5 * length field) (omega arith), all)

  pub another_channel : all_channels field ≡ false → diagnostic_of room diagnostics field ≡ refused
  unfolding diagnostic_of
  another_channel other = simp (ne_eqb (length field) 0 some, le-ltb room (5 * length field) (omega arith), other)

-- What commands can change (01, "Commands"), and the ending of a command that changes a part of it. Assumes nothing.
use Rattle.std.specs.Prelude.{ℕ, Bool, List}
use Rattle.blocks.specs.Fram.{Kept}
use Rattle.carrying.specs.declared.Mode.{Mode}
use Rattle.carrying.specs.Ending.{Ending, done, refused, unfitted}

-- The two memories with kept sums: bootloader FRAM (02, T-07) and user FRAM.
pub record Frams : Type 0 where
  pub bootloader : Kept
  pub user : Kept

abbrev pub frams : Kept → Kept → Frams
frams bootloader user = record { bootloader = bootloader; user = user }

-- One of the two.
pub data Which : Type 0 where
  of_bootloader : Which
  of_user : Which

abbrev pub one_of : {A : Type 0} → Which → A → A → A
one_of of_bootloader bootloader's user's = bootloader's
one_of of_user bootloader's user's = user's

abbrev pub fram_of : Which → Frams → Kept
fram_of which now = one_of which now.bootloader now.user

-- The two, with one of them changed.
abbrev pub with_fram : Which → Frams → Kept → Frams
with_fram of_bootloader now memory = frams memory now.user
with_fram of_user now memory = frams now.bootloader memory

-- What INIT can change: the mode, whether bootloader FRAM is locked, and the diagnostics, which show that.
pub record Standing : Type 0 where
  pub mode : Mode
  pub locked : Bool
  pub diagnostics : List ℕ

abbrev pub standing : Mode → Bool → List ℕ → Standing
standing mode locked diagnostics = record { mode = mode; locked = locked; diagnostics = diagnostics }

-- All that commands can change.
pub record Held : Type 0 where
  pub standing : Standing
  pub edac : List ℕ
  pub frams : Frams

abbrev pub held : Standing → List ℕ → Frams → Held
held standing edac frams = record { standing = standing; edac = edac; frams = frams }

-- The ending of a command that changes a part of what is held, as one of the whole.
abbrev pub inside : {M N : Type 0} → (M → N) → Ending M → Ending N
inside around (done reply after) = done reply (around after)
inside around refused = refused
inside around unfitted = unfitted

-- A command that changes nothing, what INIT changes, EDAC memory, or the two FRAMs with their sums.
abbrev pub reading : Held → Ending (Unit {0}) → Ending Held
reading now = inside (λ _. now)

abbrev pub on_standing : Held → Ending Standing → Ending Held
on_standing now = inside (λ standing. held standing now.edac now.frams)

abbrev pub on_edac : Held → Ending (List ℕ) → Ending Held
on_edac now = inside (λ edac. held now.standing edac now.frams)

abbrev pub on_frams : Held → Ending Frams → Ending Held
on_frams now = inside (λ frams. held now.standing now.edac frams)

-- What is held after a command: as it was, unless the command is done.
abbrev pub after : Held → Ending Held → Held
after now (done reply changed) = changed
after now refused = now
after now unfitted = now

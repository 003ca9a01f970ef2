-- The row of the table that a code finds: one law for each way through `carry_out`. Assumes nothing.
use mathlib.Core.Path.{◌≡◌, refl, ap, ap₂, ◌∙◌}
use mathlib.Core.Bool.{Bool, true, false, cond}
use mathlib.Core.List.{List, [], ◌∷◌}
use Prim.Native.Nat.{ℕ, ◌≤◌}
use native.Mathlib.Omega.{arith}
use borrow.Author.Tests.{ne_eqb, eqb-true}
use lib.Dec.{eqb}
use Rattle.carrying.specs.declared.Mode.{Mode}
use Rattle.carrying.specs.declared.Mode.TheVariants.{Bootloader, Application}
use Rattle.carrying.specs.Ending.{Ending, refused}
use Rattle.carrying.specs.Held.{Held, reading, on_standing, on_edac, on_frams}
use Rattle.carrying.proofs.Room.{either_way}
use Rattle.fram_commands.specs.ByAddress.{peek_by_address, poke_by_address, crc_by_address}
use Rattle.file_commands.specs.ReadFile.{read_file_of}
use Rattle.file_commands.specs.WriteFile.{write_file_of}
use Rattle.edac_commands.specs.ReadEdac.{read_edac_of}
use Rattle.edac_commands.specs.WriteEdac.{write_edac_of}
use Rattle.edac_commands.specs.Gather.{gather_of}
use Rattle.command.specs.declared.code.Command.{Command}
use Rattle.command.specs.declared.code.Command.TheVariants.{Ping, Init, Peek, Poke, Diagnostic, Crc, ReadFile, WriteFile, ReadEdac, WriteEdac, Gather}
use Rattle.command.specs.Codes.{code_of, is_allowed}
use Rattle.command.specs.Ping.{ping_of}
use Rattle.command.specs.Init.{init_of}
use Rattle.command.specs.Diagnostic.{diagnostic_of}
use Rattle.command.specs.Command.{Row, row, table, in_mode, found_in, command_of}

-- a row with yes in both modes
either : (mode : Mode) (n : ℕ) (comes : Ending Held) → in_mode mode (row n true true comes) ≡ comes
either Bootloader n comes = refl
either Application n comes = refl

-- whichever test is met, it is refused
all_refused : {A : Type 0} (x : A) (a b c d e : Bool) → cond a x (cond b x (cond c x (cond d x (cond e x x)))) ≡ x
all_refused x true b c d e = refl
all_refused x false true c d e = refl
all_refused x false false true d e = refl
all_refused x false false false true e = refl
all_refused x false false false false true = refl
all_refused x false false false false false = refl

module _ (room code : ℕ) (now : Held) (field : List ℕ) where
  -- a code that is a row's number comes to what the row has
  pub in_either_mode : (n : ℕ) (comes : Ending Held) → code ≡ n
      → found_in (table room now field) now.standing.mode n ≡ in_mode now.standing.mode (row n true true comes)
      → command_of room code now field ≡ comes
  unfolding command_of
  in_either_mode n comes e found = ap (found_in (table room now field) now.standing.mode) e ∙ found ∙ either now.standing.mode n comes

  pub in_application : (n : ℕ) (comes : Ending Held) → code ≡ n → now.standing.mode ≡ Application → found_in (table room now field) Application n ≡ comes
      → command_of room code now field ≡ comes
  unfolding command_of
  in_application n comes e mode found = ap₂ (found_in (table room now field)) mode e ∙ found

  -- 0x07 and all below it in the table are refused in bootloader mode
  pub not_in_bootloader : 0x07 ≤ code → now.standing.mode ≡ Bootloader → command_of room code now field ≡ refused
  unfolding command_of
  not_in_bootloader above mode =
      ap (λ m. found_in (table room now field) m code) mode
      ∙ simp (
        ne_eqb code 0x00 (λ e. omega arith),
        ne_eqb code 0x01 (λ e. omega arith),
        ne_eqb code 0x02 (λ e. omega arith),
        ne_eqb code 0x03 (λ e. omega arith),
        ne_eqb code 0x04 (λ e. omega arith),
        ne_eqb code 0x06 (λ e. omega arith),
      )
      (all_refused refused (eqb code 0x07) (eqb code 0x08) (eqb code 0x09) (eqb code 0x0A) (eqb code 0x0B))

-- ---- each command, by its code and mode

-- what a command comes to that is carried out in its mode
abbrev pub comes_of : ℕ → Held → List ℕ → Command → Ending Held
comes_of room now field Ping = reading now ping_of
comes_of room now field Init = on_standing now (init_of now.standing field)
comes_of room now field Peek = reading now (peek_by_address room now.frams.bootloader.fram now.frams.user.fram field)
comes_of room now field Poke = on_frams now (poke_by_address room now.standing.locked now.frams field)
comes_of room now field Diagnostic = reading now (diagnostic_of room now.standing.diagnostics field)
comes_of room now field Crc = reading now (crc_by_address now.frams field)
comes_of room now field ReadFile = reading now (read_file_of room now.edac field)
comes_of room now field WriteFile = on_edac now (write_file_of room now.edac field)
comes_of room now field ReadEdac = reading now (read_edac_of room now.edac field)
comes_of room now field WriteEdac = on_edac now (write_edac_of room now.edac field)
comes_of room now field Gather = reading now (gather_of room now.edac field)

module _ (room : ℕ) (now : Held) (field : List ℕ) where
  -- its row, in a mode
  row_of : (command : Command) (mode : Mode) → found_in (table room now field) mode (code_of command) ≡ cond (is_allowed command mode) (comes_of room now field command) refused
  row_of Ping Bootloader = refl
  row_of Ping Application = refl
  row_of Init Bootloader = refl
  row_of Init Application = refl
  row_of Peek Bootloader = refl
  row_of Peek Application = refl
  row_of Poke Bootloader = refl
  row_of Poke Application = refl
  row_of Diagnostic Bootloader = refl
  row_of Diagnostic Application = refl
  row_of Crc Bootloader = refl
  row_of Crc Application = refl
  row_of ReadFile Bootloader = refl
  row_of ReadFile Application = refl
  row_of WriteFile Bootloader = refl
  row_of WriteFile Application = refl
  row_of ReadEdac Bootloader = refl
  row_of ReadEdac Application = refl
  row_of WriteEdac Bootloader = refl
  row_of WriteEdac Application = refl
  row_of Gather Bootloader = refl
  row_of Gather Application = refl

  pub what_is_allowed_comes : (code : ℕ) (named command : Command) → (code ≡ code_of named) × (is_allowed named now.standing.mode ≡ true) → named ≡ command
      → command_of room code now field ≡ comes_of room now field command
  unfolding command_of
  what_is_allowed_comes code named command allowed is =
      ap (found_in (table room now field) now.standing.mode) allowed.0 ∙ row_of named now.standing.mode
      ∙ ap (λ (b : Bool). cond b (comes_of room now field named) refused) allowed.1 ∙ ap (comes_of room now field) is

-- where each row of the code is refused in the mode, so is the code
abbrev EachRefused : Mode → ℕ → List Row → Type 0
EachRefused mode code [] = Prim.Unit {0}
EachRefused mode code (r ∷ rows) = (code ≡ r.code → in_mode mode r ≡ refused) × EachRefused mode code rows

none_is_found : (rows : List Row) (mode : Mode) (code : ℕ) → EachRefused mode code rows → found_in rows mode code ≡ refused
none_is_found [] mode code each = refl
none_is_found (r ∷ rows) mode code each =
    either_way (λ e. e ≡ refused) (eqb code r.code) (in_mode mode r) (found_in rows mode code) (λ e. each.0 (eqb-true code r.code e))
    (λ _. none_is_found rows mode code each.1)

-- a code is refused whose command, if it has one, is not carried out in the mode
pub what_is_not_allowed_is_refused : (room : ℕ) (now : Held) (field : List ℕ) (code : ℕ)
    → ((command : Command) → code ≡ code_of command → is_allowed command now.standing.mode ≡ false) → command_of room code now field ≡ refused
unfolding command_of
what_is_not_allowed_is_refused room now field code none =
    none_is_found (table room now field) now.standing.mode code (
      refuses Ping,
      (
        refuses Init,
        (
          refuses Peek,
          (
            refuses Poke,
            (
              refuses Diagnostic,
              (
                refuses Crc,
                (refuses ReadFile, (refuses WriteFile, (refuses ReadEdac, (refuses WriteEdac, (refuses Gather, tt))))),
              ),
            ),
          ),
        ),
      ),
    )
  where
    refuses : (command : Command) → code ≡ code_of command → found_in (table room now field) now.standing.mode (code_of command) ≡ refused
    refuses command e =
        row_of room now field command now.standing.mode ∙ ap (λ (b : Bool). cond b (comes_of room now field command) refused) (none command e)

-- what holds of a refusal and of what each row comes to, where the code is the row's, holds of every command
abbrev pub EachRowAt : (Ending Held → Type 0) → ℕ → List Row → Type 0
EachRowAt P code [] = Prim.Unit {0}
EachRowAt P code (r ∷ rows) = (code ≡ r.code → P r.comes) × EachRowAt P code rows

of_a_row : (P : Ending Held → Type 0) (mode : Mode) (r : Row) → P refused → P r.comes → P (in_mode mode r)
of_a_row P Bootloader r otherwise allowed = either_way P r.bootloader r.comes refused (λ _. allowed) (λ _. otherwise)
of_a_row P Application r otherwise allowed = either_way P r.application r.comes refused (λ _. allowed) (λ _. otherwise)

of_its_row : (P : Ending Held → Type 0) (rows : List Row) (mode : Mode) (code : ℕ) → P refused → EachRowAt P code rows → P (found_in rows mode code)
of_its_row P [] mode code otherwise each = otherwise
of_its_row P (r ∷ rows) mode code otherwise each =
    either_way P (eqb code r.code) (in_mode mode r) (found_in rows mode code) (λ e. of_a_row P mode r otherwise (each.0 (eqb-true code r.code e)))
    (λ _. of_its_row P rows mode code otherwise each.1)

pub of_the_command : (P : Ending Held → Type 0) (room code : ℕ) (now : Held) (field : List ℕ) → P refused
    → EachRowAt P code (table room now field) → P (command_of room code now field)
unfolding command_of
of_the_command P room code now field otherwise each = of_its_row P (table room now field) now.standing.mode code otherwise each

-- and so does what holds of each row, whatever the code
abbrev pub EachRow : (Ending Held → Type 0) → List Row → Type 0
EachRow P [] = Prim.Unit {0}
EachRow P (r ∷ rows) = P r.comes × EachRow P rows

whatever_the_code : (P : Ending Held → Type 0) (code : ℕ) (rows : List Row) → EachRow P rows → EachRowAt P code rows
whatever_the_code P code [] each = tt
whatever_the_code P code (r ∷ rows) each = ((λ _. each.0), whatever_the_code P code rows each.1)

pub of_any_command : (P : Ending Held → Type 0) (room code : ℕ) (now : Held) (field : List ℕ) → P refused
    → EachRow P (table room now field) → P (command_of room code now field)
of_any_command P room code now field otherwise each = of_the_command P room code now field otherwise (whatever_the_code P code (table room now field) each)

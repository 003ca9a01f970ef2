-- What a command leaves of the lock and of the diagnostics: the order to lock sets both, and no other command either. Assumes nothing.
use mathlib.Core.Path.{◌≡◌, refl, sym, ap, ap₂, ◌∙◌, subst}
use mathlib.Core.Bool.{Bool, true, false, cond, ◌&&◌, ◌||◌, false≢true}
use mathlib.Core.List.{List}
use Prim.Native.Nat.{ℕ}
use native.Mathlib.Omega.{arith}
use borrow.Author.Tests.{eq-eqb, ne_eqb, eqb-true}
use lib.Dec.{eqb}
use lib.ListN.{length}
use Rattle.field.specs.Fields.{word32_at}
use Rattle.memory.specs.Status.{status_written}
use Rattle.carrying.specs.declared.Mode.{Mode}
use Rattle.carrying.specs.declared.Mode.TheVariants.{Bootloader, Application}
use Rattle.carrying.specs.Ending.{Ending, done, refused, unfitted}
use Rattle.carrying.specs.Held.{Standing, Held, held, inside, reading, on_standing, on_edac, after}
use Rattle.carrying.proofs.Room.{either_way}
use Rattle.fram_commands.specs.ByAddress.{peek_by_address, poke_by_address, crc_by_address}
use Rattle.file_commands.specs.ReadFile.{read_file_of}
use Rattle.file_commands.specs.WriteFile.{write_file_of}
use Rattle.edac_commands.specs.ReadEdac.{read_edac_of}
use Rattle.edac_commands.specs.WriteEdac.{write_edac_of}
use Rattle.edac_commands.specs.Gather.{gather_of}
use Rattle.command.specs.Ping.{ping_of}
use Rattle.command.specs.Diagnostic.{diagnostic_of}
use Rattle.command.specs.Init.{application_start, lock_order, orders, locked_from, init_of}
use Rattle.command.specs.Command.{command_of, is_locking}
use Rattle.command.proofs.Codes.{of_the_command, in_either_mode}
use Rattle.command.proofs.Ways.{four_to_order, init_locks}

-- the lock and the diagnostics, with the order to lock carried out or not
abbrev pub Marked : Bool → Standing → Standing → Type 0
Marked locking before now =
    (now.locked ≡ (before.locked || locking)) × (now.diagnostics ≡ cond locking (status_written true before.diagnostics) before.diagnostics)

abbrev pub Marks : Bool → Held → Ending Held → Type 0
Marks locking before e = Marked locking before.standing (after before e).standing

pub or_not : (b : Bool) → b ≡ (b || false)
or_not true = refl
or_not false = refl

pub or_true : (b : Bool) → (b || true) ≡ true
or_true true = refl
or_true false = refl

unmoved : (s : Standing) → Marked false s s
unmoved s = (or_not s.locked, refl)

both_so : (a b : Bool) → (a && b) ≡ true → (a ≡ true) × (b ≡ true)
both_so true b h = (refl, h)
both_so false b h = let z : false ≡ true = h in absurd (false≢true z)

-- a command that changes another part, or nothing
elsewhere : {M : Type 0} (now : Held) (f : M → Held) → ((m : M) → (f m).standing ≡ now.standing) → (o : Ending M) → Marks false now (inside f o)
elsewhere now f same (done reply changed) = subst (Marked false now.standing) (sym (same changed)) (unmoved now.standing)
elsewhere now f same refused = unmoved now.standing
elsewhere now f same unfitted = unmoved now.standing

-- the two orders are two numbers
not_both : (mode : Mode) (field : List ℕ) → orders lock_order mode field ≡ true → orders application_start mode field ≡ false
not_both Bootloader field locks =
    let parts = both_so (eqb (length field) 4) (eqb (word32_at field 0) lock_order) locks in
    let is = eqb-true (word32_at field 0) lock_order parts.1 in
    ap₂ (λ (a b : Bool). a && b) parts.0 (ne_eqb (word32_at field 0) application_start (λ other. omega arith))
not_both Application field locks = let z : false ≡ true = locks in absurd (false≢true z)

module _ (room code : ℕ) (now : Held) (field : List ℕ) where
  locks_so : is_locking code now.standing.mode field ≡ true → Marks true now (command_of room code now field)
  locks_so is =
      let parts = both_so (eqb code 0x01) (orders lock_order now.standing.mode field) is in
      let four = four_to_order lock_order now.standing.mode field parts.1 in
      let came : command_of room code now field ≡ on_standing now (done field (locked_from now.standing))
      = in_either_mode room code now field 0x01 (on_standing now (init_of now.standing field)) (eqb-true code 0x01 parts.0) refl
      ∙ ap (on_standing now) (init_locks now.standing field (λ none. omega arith) (not_both now.standing.mode field parts.1) parts.1) in
      subst (Marks true now) (sym came) (sym (or_true now.standing.locked), refl)

  init_leaves : orders lock_order now.standing.mode field ≡ false → Marks false now (on_standing now (init_of now.standing field))
  unfolding init_of
  init_leaves other =
      either_way (λ (e : Ending Standing). Marks false now (on_standing now e)) (eqb (length field) 0) _ _ (λ _. (or_not now.standing.locked, refl))
      (λ _. either_way (λ (e : Ending Standing). Marks false now (on_standing now e)) (orders application_start now.standing.mode field) _ _
      (λ _. (or_not now.standing.locked, refl))
      (λ _. subst (λ (b : Bool). Marks false now (on_standing now (cond b (done field (locked_from now.standing)) refused))) (sym other) (unmoved now.standing)))

  leaves_so : is_locking code now.standing.mode field ≡ false → Marks false now (command_of room code now field)
  leaves_so not =
      of_the_command (Marks false now) room code now field (unmoved now.standing) (
        (λ _. still ping_of),
        (
          (λ is. init_leaves (sym (ap (λ (b : Bool). b && orders lock_order now.standing.mode field) (eq-eqb code 0x01 is)) ∙ not)),
          (
            (λ _. still (peek_by_address room now.frams.bootloader.fram now.frams.user.fram field)),
            (
              (λ _. elsewhere now (λ both. held now.standing now.edac both) (λ m. refl) (poke_by_address room now.standing.locked now.frams field)),
              (
                (λ _. still (diagnostic_of room now.standing.diagnostics field)),
                (
                  (λ _. still (crc_by_address now.frams field)),
                  (
                    (λ _. still (read_file_of room now.edac field)),
                    (
                      (λ _. in_edac (write_file_of room now.edac field)),
                      (
                        (λ _. still (read_edac_of room now.edac field)),
                        ((λ _. in_edac (write_edac_of room now.edac field)), ((λ _. still (gather_of room now.edac field)), tt)),
                      ),
                    ),
                  ),
                ),
              ),
            ),
          ),
        ),
      )
    where
      still : (o : Ending (Prim.Unit {0})) → Marks false now (reading now o)
      still o = elsewhere now (λ _. now) (λ m. refl) o

      in_edac : (o : Ending (List ℕ)) → Marks false now (on_edac now o)
      in_edac o = elsewhere now (λ edac. held now.standing edac now.frams) (λ m. refl) o

  -- A command locks bootloader FRAM, and writes the low byte of diagnostic 0x06, exactly where it is INIT 0xDEADBEEF in bootloader mode. No
  -- other moves either.
  pub what_a_command_marks : Marks (is_locking code now.standing.mode field) now (command_of room code now field)
  what_a_command_marks = by (is_locking code now.standing.mode field) refl
    where
      by : (b : Bool) → is_locking code now.standing.mode field ≡ b → Marks b now (command_of room code now field)
      by true e = locks_so e
      by false e = leaves_so e

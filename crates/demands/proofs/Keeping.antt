-- 02, T-02: no bytes on the line change a read-only byte of EDAC memory, nor does storing a list (T-11). Assumes nothing.
use mathlib.Core.Path.{◌≡◌, refl, sym, subst}
use mathlib.Core.Bool.{Bool}
use mathlib.Core.List.{List, [], ◌∷◌}
use Prim.Native.Nat.{ℕ, ◌-◌}
use native.Mathlib.Omega.{arith}
use lib.Dec.{eqb, ltb}
use lib.ListN.{length, drop}
use Rattle.std.proofs.Common.{Ok, Err}
use Rattle.field.specs.Fields.{word16_at}
use Rattle.memory.specs.Edac.{edac_size, inside_edac}
use Rattle.read_only.specs.ReadOnly.{KeepsReadOnly}
use Rattle.read_only.proofs.Keeping.{kept_at_first, also_kept, a_write_keeps_read_only_bytes}
use Rattle.carrying.specs.Ending.{Ending, done, refused, unfitted}
use Rattle.carrying.specs.Held.{Held, held, inside, reading, on_edac}
use Rattle.carrying.proofs.Room.{either_way}
use Rattle.fram_commands.specs.ByAddress.{peek_by_address, poke_by_address, crc_by_address}
use Rattle.file_commands.specs.ReadFile.{read_file_of}
use Rattle.file_commands.specs.WriteFile.{listed, judge_list_of, Storage, store_list_of, write_file_of}
use Rattle.file_commands.proofs.Storing.{files_keep_read_only_bytes}
use Rattle.edac_commands.specs.ReadEdac.{read_edac_of}
use Rattle.edac_commands.specs.WriteEdac.{write_edac_of}
use Rattle.edac_commands.specs.Gather.{gather_of}
use Rattle.command.specs.Ping.{ping_of}
use Rattle.command.specs.Init.{init_of}
use Rattle.command.specs.Diagnostic.{diagnostic_of}
use Rattle.command.specs.Command.{command_of}
use Rattle.command.proofs.Codes.{of_any_command}
use Rattle.judging.specs.declared.Unit.{Unit}
use Rattle.judging.specs.Fitting.{Fit, set_up_fit}
use Rattle.ports.specs.declared.Side.{Side}
use Rattle.ports.specs.Ports.{Sending, is_sending}
use Rattle.replying.specs.Replies.{code_of}
use Rattle.commanding.specs.World.{World, lengths_of, Outcome, with_edac, held_of}
use Rattle.commanding.specs.Commanded.{answered}
use Rattle.unit.specs.Steps.{set_up_as, set_up_of, step_of}
use Rattle.demands.specs.Keeping.{EdacCall, setting_up, stepping, storing, edac_left}
use Rattle.demands.proofs.Cases.{of_any_call}
use Rattle.unit.proofs.Heard.{unit_heard, world_heard}
use Rattle.demands.proofs.DemandThree.{Keeps, keeps_inside}

-- ---- one command

-- what a command on EDAC memory leaves of it
write_edac_keeps : (room : ℕ) (edac field : List ℕ) → Keeps (KeepsReadOnly edac) (write_edac_of room edac field)
unfolding write_edac_of
write_edac_keeps room edac field =
    either_way (Keeps (KeepsReadOnly edac)) (ltb (length field) 3) _ _ (λ _. omega arith)
    (λ _. either_way (Keeps (KeepsReadOnly edac)) (ltb room (length field)) _ _ (λ _. omega arith)
    (λ _. either_way (Keeps (KeepsReadOnly edac)) (inside_edac (word16_at field 0) (length field - 2)) _ _
    (λ _. a_write_keeps_read_only_bytes edac (word16_at field 0) (drop 2 field)) (λ _. omega arith)))

write_file_keeps : (room : ℕ) (edac field : List ℕ) → Keeps (KeepsReadOnly edac) (write_file_of room edac field)
unfolding write_file_of
write_file_keeps room edac field =
    either_way (Keeps (KeepsReadOnly edac)) (judge_list_of room field) _ _ (λ _. files_keep_read_only_bytes edac (listed field)) (λ _. omega arith)

-- and any other leaves it as it is
keeps_all : {M : Type 0} (edac : List ℕ) (f : M → Held) → ((m : M) → (f m).edac ≡ edac) → (o : Ending M) → Keeps (λ h. KeepsReadOnly edac h.edac) (inside f o)
keeps_all edac f same (done reply after) = subst (KeepsReadOnly edac) (sym (same after)) (kept_at_first edac)
keeps_all edac f same refused = omega arith
keeps_all edac f same unfitted = omega arith

command_keeps : (room code : ℕ) (now : Held) (field : List ℕ)
    → Keeps (λ h. KeepsReadOnly now.edac h.edac) (command_of room code now field)
command_keeps room code now field =
    of_any_command (Keeps (λ h. KeepsReadOnly now.edac h.edac)) room code now field (omega arith) (
      still ping_of,
      (
        keeps_all now.edac (λ s. held s now.edac now.frams) (λ m. refl) (init_of now.standing field),
        (
          still (peek_by_address room now.frams.bootloader.fram now.frams.user.fram field),
          (
            keeps_all now.edac (λ both. held now.standing now.edac both) (λ m. refl) (poke_by_address room now.standing.locked now.frams field),
            (
              still (diagnostic_of room now.standing.diagnostics field),
              (
                still (crc_by_address now.frams field),
                (
                  still (read_file_of room now.edac field),
                  (
                    in_edac (write_file_of room now.edac field) (write_file_keeps room now.edac field),
                    (
                      still (read_edac_of room now.edac field),
                      (in_edac (write_edac_of room now.edac field) (write_edac_keeps room now.edac field), (still (gather_of room now.edac field), tt)),
                    ),
                  ),
                ),
              ),
            ),
          ),
        ),
      ),
    )
  where
    still : (o : Ending (Prim.Unit {0})) → Keeps (λ h. KeepsReadOnly now.edac h.edac) (reading now o)
    still o = keeps_all now.edac (λ _. now) (λ m. refl) o

    in_edac : (o : Ending (List ℕ)) → Keeps (KeepsReadOnly now.edac) o → Keeps (λ h. KeepsReadOnly now.edac h.edac) (on_edac now o)
    in_edac o k = keeps_inside (KeepsReadOnly now.edac) (λ h. KeepsReadOnly now.edac h.edac) (λ edac. held now.standing edac now.frams) (λ m g. g) o k

-- ---- one call

answered_keeps : (u : Unit) (telemetry : Side) (sending : Bool) (destination source control : ℕ) (field : List ℕ) (o : Ending Held) (w : World)
    → Keeps (λ h. KeepsReadOnly w.edac h.edac) o
    → KeepsReadOnly w.edac (answered u telemetry sending destination source control field o w).world.edac
unfolding answered
answered_keeps u telemetry sending destination source control field (done reply after) w k = k
answered_keeps u telemetry sending destination source control field refused w k = kept_at_first w.edac
answered_keeps u telemetry sending destination source control field unfitted w k = kept_at_first w.edac

pub a_step_keeps_read_only_bytes : (u : Unit) (number byte : ℕ) (sending : Sending) (w : World) → KeepsReadOnly w.edac (step_of u number byte sending w).world.edac
a_step_keeps_read_only_bytes u number byte sending w =
    of_any_call (λ _ (o : Outcome). KeepsReadOnly w.edac o.world.edac) u number byte sending w (λ answer e. kept_at_first w.edac)
    (λ _.
    let next = unit_heard u number byte w in
    let lent = world_heard u number byte w in
    record {
      taken = kept_at_first w.edac;
      elsewhere = kept_at_first w.edac;
      dropped = λ answer which number four silent. kept_at_first w.edac;
      commanded = λ telemetry destination source control field to told is short.
          answered_keeps next telemetry (is_sending telemetry sending) destination source control field (command_of u.limit (code_of control) (held_of next lent) field) lent
          (command_keeps u.limit (code_of control) (held_of next lent) field);
    })

-- storing a list, fit or not, in memory of any length
pub storing_keeps_read_only_bytes : (limit : ℕ) (edac list : List ℕ) → KeepsReadOnly edac (store_list_of limit edac list).edac
unfolding store_list_of
storing_keeps_read_only_bytes limit edac list =
    either_way (λ (s : Storage). KeepsReadOnly edac s.edac) (eqb (length edac) edac_size) _ _
    (λ _. either_way (λ (s : Storage). KeepsReadOnly edac s.edac) (judge_list_of limit list) _ _ (λ _. files_keep_read_only_bytes edac (listed list)) (λ _. kept_at_first edac))
    (λ _. kept_at_first edac)

-- a set-up leaves EDAC memory as it is
pub a_set_up_keeps_edac : (strap limit : ℕ) (locked : Bool) (w : World) → (set_up_of strap limit locked w).world.edac ≡ w.edac
unfolding set_up_of
a_set_up_keeps_edac strap limit locked w = apart (set_up_fit strap limit (lengths_of w))
  where
    apart : (f : Fit) → (set_up_as f strap limit locked w).world.edac ≡ w.edac
    apart (Ok _) = refl
    apart (Err answer) = refl

-- ---- any calls

-- T-02, and T-11's storing. Let nothing but calls of `set_up`, `step` and `store_list` change EDAC memory, on whatever units, with
-- whatever bytes, lists and whatever else they lend, of any length, refused or not, in any order, judged before or not. After any of them it is as
-- long as it was, and each of its read-only bytes has the value that it had.
pub no_bytes_change_a_read_only_byte : (edac : List ℕ) (calls : List EdacCall) → KeepsReadOnly edac (edac_left edac calls)
no_bytes_change_a_read_only_byte edac [] = kept_at_first edac
no_bytes_change_a_read_only_byte edac (setting_up strap limit locked w ∷ calls) =
    also_kept (subst (KeepsReadOnly edac) (sym (a_set_up_keeps_edac strap limit locked (with_edac w edac))) (kept_at_first edac))
    (no_bytes_change_a_read_only_byte (set_up_of strap limit locked (with_edac w edac)).world.edac calls)
no_bytes_change_a_read_only_byte edac (stepping u c ∷ calls) =
    also_kept (a_step_keeps_read_only_bytes u c.port c.byte c.sending (with_edac c.lent edac))
    (no_bytes_change_a_read_only_byte (step_of u c.port c.byte c.sending (with_edac c.lent edac)).world.edac calls)
no_bytes_change_a_read_only_byte edac (storing limit list ∷ calls) =
    also_kept (storing_keeps_read_only_bytes limit edac list) (no_bytes_change_a_read_only_byte (store_list_of limit edac list).edac calls)

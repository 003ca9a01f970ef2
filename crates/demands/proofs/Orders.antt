-- What a command that is sent to a unit leaves, and what it sends. Assumes nothing.
use mathlib.Core.Path.{◌≡◌, refl, sym, ap, ◌∙◌, subst}
use mathlib.Core.Bool.{Bool, true, false, not, ◌&&◌, false≢true}
use mathlib.Core.List.{List, [], ◌∷◌}
use Prim.Native.Nat.{ℕ, zero, suc, ◌%◌, ◌≤◌, ◌<◌}
use native.Mathlib.Omega.{arith}
use borrow.Author.Tests.{leb-true}
use lib.Dec.{eqb, leb}
use lib.ListN.{length, get_or}
use Rattle.std.proofs.Common.{Option, Ok}
use Rattle.line.specs.Framing.{fend}
use Rattle.line.specs.Packing.{body_of, packed_of}
use Rattle.memory.specs.Edac.{edac_size}
use Rattle.carrying.specs.declared.Mode.TheVariants.{Application}
use Rattle.carrying.specs.Ending.{is_limit, Ending, done, refused, unfitted}
use Rattle.carrying.specs.Held.{Which, of_bootloader, of_user, fram_of, Held, on_edac}
use Rattle.file_commands.specs.WriteFile.{write_file_of}
use Rattle.command.proofs.Codes.{in_application}
use Rattle.answer.specs.Answers.{number_of}
use Rattle.judging.specs.declared.Unit.{Unit}
use Rattle.ports.specs.declared.Side.{Side}
use Rattle.ports.specs.Ports.{answered_on, is_sending}
use Rattle.judging.specs.declared.Lengths.{Lengths}
use Rattle.judging.specs.Fitting.{fram_fits, fram_as_set_up, frams_as_set_up, step_fit}
use Rattle.judging.proofs.Serving.{both_hold, passed_step, a_served_step_fits}
use Rattle.replying.specs.Replies.{code_of, polls, sealed, reply_message}
use Rattle.commanding.specs.World.{World, lengths_of, Outcome, held_of}
use Rattle.commanding.specs.Commanded.{answered}
use Rattle.demands.specs.Calls.{Call, Fed, lent_to, fed_of, delivering, opened_on, answered_by, Bytes}
use Rattle.demands.specs.Orders.{Way, met, Sends, with_its_message, left_by, sent_by, replies, came_to}
use Rattle.demands.proofs.Answers.{the_number_of_one_refused, the_number_of_one_unfitted, one_of_two}
use Rattle.demands.proofs.Along.{the_same_is_met, a_call_that_suits_fits}
use Rattle.demands.proofs.DemandTwo.{a_packed_command_is_carried_out, what_is_sent_is_the_packed_answer}

-- a byte of bytes
pub each_a_byte : (l : List ℕ) → Bytes l → (i : ℕ) → get_or l i 0 < 256
each_a_byte [] all i = omega arith
each_a_byte (byte ∷ l) all zero = all.0
each_a_byte (byte ∷ l) all (suc i) = each_a_byte l all.1 i

done_is_no_fault : {M : Type 0} {reply : List ℕ} {after : M} → done reply after ≡ unfitted → ⊥
done_is_no_fault e = let z : ◌≡◌ {A = ℕ} 0 1 = cc in absurd (omega arith)

-- how long an FRAM can be
pub no_longer : (size : ℕ) → fram_fits size ≡ true → size ≤ 262144
no_longer size fits = leb-true size 262144 (both_hold (leb 256 size) (leb size 262144) (both_hold (leb 256 size && leb size 262144) (eqb (size % 256) 0) fits).0).1

-- lengths that are those set up
pub as_set_up_no_longer : (u : Unit) (l : Lengths) → frams_as_set_up u l ≡ true → (l.bootloader ≤ 262144) × (l.fram ≤ 262144)
as_set_up_no_longer u l fits =
    let each = both_hold (fram_as_set_up l.bootloader u.bootloader_len) (fram_as_set_up l.fram u.fram_len) fits in (
      of_one l.bootloader u.bootloader_len each.0,
      of_one l.fram u.fram_len each.1,
    )
  where
    of_one : (size set_up : ℕ) → fram_as_set_up size set_up ≡ true → size ≤ 262144
    of_one size set_up is = no_longer size (both_hold (fram_fits size) (eqb size set_up) is).0

-- what a WRITE FILE comes to in application mode
pub a_write_file_comes_to : (u : Unit) (c : Call) (control : ℕ) (list : List ℕ) → code_of control ≡ 0x08 → u.mode ≡ Application
    → came_to u c control list ≡ on_edac (held_of u c.lent) (write_file_of u.limit c.lent.edac list)
a_write_file_comes_to u c control list code mode =
    in_application u.limit (code_of control) (held_of u c.lent) list 0x08
    (on_edac (held_of u c.lent) (write_file_of u.limit c.lent.edac list)) code mode refl

-- what is known of a command that answered 1 or 2
pub record WasDone (o : Outcome) (came : Ending Held) : Type 0 where
  pub reply : List ℕ
  pub after : Held
  pub is : came ≡ done reply after
  pub edac : o.world.edac ≡ after.edac
  pub frams : o.world.frams ≡ after.frams

-- both of two
both_true : (a b : Bool) → (a && not b) ≡ true → (a ≡ true) × (b ≡ false)
both_true true true e = let z : false ≡ true = e in absurd (false≢true z)
both_true true false e = (refl, refl)
both_true false b e = let z : false ≡ true = e in absurd (false≢true z)

module _ (way : Way) (source control : ℕ) (field : List ℕ) (c : Call) (sends : Sends way source control field c) where
  abbrev laid : World
  laid = with_its_message way source control field c

  -- the unit with a run opened by the closing FEND, what the command comes to, and its outcome
  abbrev open_there : Unit
  open_there = opened_on way.side (met way)

  abbrev came : Ending Held
  came = came_to (met way) c control field

  abbrev busy : Bool
  busy = is_sending way.telemetry c.sending

  abbrev answering_so : Ending Held → Outcome
  answering_so o = answered open_there way.telemetry busy way.destination source control field o laid

  -- All its bytes are taken but the last, which carries it out and answers on the port that its address names.
  pub a_sent_command_is_carried_out : fed_of way.side way.unit way.message way.calls c
      ≡ delivering (length (fend ∷ body_of (sealed (way.destination ∷ source ∷ control ∷ field)))) (answering_so came)
  a_sent_command_is_carried_out =
      let n = length (fend ∷ body_of (sealed (way.destination ∷ source ∷ control ∷ field))) in
      let same = the_same_is_met way.side way.unit way.message way.calls in
      a_packed_command_is_carried_out way.side way.unit way.message way.calls c sends.serves sends.suiting sends.suits sends.ends sends.here sends.undisturbed
      way.destination source control field sends.bytes sends.short sends.idle sends.packed
      ∙ ap (λ (a : Option Side). delivering n (answered_by a open_there c.sending way.destination source control field laid))
      (ap (λ (s : ℕ). answered_on s way.side way.destination) same.0 ∙ sends.heard)

  pub what_a_sent_command_leaves : left_by way c ≡ answering_so came
  what_a_sent_command_leaves = ap (λ (f : Fed). f.last) a_sent_command_is_carried_out

  -- Of a command that is done the bytes sent are the packed reply with the reply's data, where its reply leaves.
  pub a_command_that_is_done_sends_its_data : replies way control c ≡ true → (reply : List ℕ) (after : Held) → came ≡ done reply after
      → sent_by (left_by way c) ≡ packed_of (reply_message 1 way.destination source control reply)
  a_command_that_is_done_sends_its_data leaves reply after is =
      let each = both_true (polls control) busy leaves in
      ap sent_by (what_a_sent_command_leaves ∙ ap answering_so is)
      ∙ what_is_sent_is_the_packed_answer open_there way.telemetry busy way.destination source control field laid each.0 each.1 (done reply after) done_is_no_fault

  fits : step_fit way.unit c.port (lengths_of (lent_to way.side way.message c)) ≡ Ok tt
  fits = a_call_that_suits_fits way.side way.unit way.message c sends.serves sends.suits

  pub edac_is_whole : length c.lent.edac ≡ edac_size
  edac_is_whole = (a_served_step_fits way.unit c.port (lengths_of (lent_to way.side way.message c)) fits).edac_fits

  -- the limit and the lengths of the unit that it meets are those of the unit that it was sent to
  pub short_there : length field ≤ (met way).limit
  short_there = subst (λ (n : ℕ). length field ≤ n) (sym (the_same_is_met way.side way.unit way.message way.calls).1) sends.short

  pub limited_there : is_limit (met way).limit ≡ true
  limited_there = subst (λ (n : ℕ). is_limit n ≡ true) (sym (the_same_is_met way.side way.unit way.message way.calls).1) sends.serves.2

  -- each FRAM that the closing call lends has at most 262,144 bytes
  pub a_lent_fram_is_no_longer : (which : Which) → length (fram_of which c.lent.frams).fram ≤ 262144
  a_lent_fram_is_no_longer which = by which
    where
      each : (length c.lent.frams.bootloader.fram ≤ 262144) × (length c.lent.frams.user.fram ≤ 262144)
      each = as_set_up_no_longer way.unit (lengths_of (lent_to way.side way.message c)) (passed_step way.unit c.port (lengths_of (lent_to way.side way.message c)) fits).fram_tested

      by : (x : Which) → length (fram_of x c.lent.frams).fram ≤ 262144
      by of_bootloader = each.0
      by of_user = each.1

  -- an answer of 1 or 2 is that of a command that is done
  answered_so : (o : Ending Held) → number_of (answering_so o).answer ≤ 2 → WasDone (answering_so o) o
  unfolding answered
  answered_so (done reply after) low = record { reply = reply; after = after; is = refl; edac = refl; frams = refl }
  answered_so refused low =
      absurd (one_of_two (λ (n : ℕ). n ≤ 2 → ⊥) (polls control && not busy) 3 4 (λ h. omega arith) (λ h. omega arith)
      (subst (λ (n : ℕ). n ≤ 2) (the_number_of_one_refused open_there way.telemetry busy way.destination source control field laid) low))
  answered_so unfitted low = absurd (omega (arith, the_number_of_one_unfitted open_there way.telemetry busy way.destination source control field laid))

  pub a_command_answered_so_was_done : number_of (left_by way c).answer ≤ 2 → WasDone (left_by way c) came
  a_command_answered_so_was_done low =
      subst (λ o. WasDone o came) (sym what_a_sent_command_leaves)
      (answered_so came (subst (λ (o : Outcome). number_of o.answer ≤ 2) what_a_sent_command_leaves low))

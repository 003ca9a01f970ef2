-- 02, T-07: bootloader FRAM, once locked, stays as it is; what locks it, and what diagnostic 0x06 shows of it. Assumes nothing.
use mathlib.Core.Path.{◌≡◌, refl, sym, ap, ◌∙◌, subst}
use mathlib.Core.Bool.{Bool, true, false, cond, ◌&&◌, ◌||◌}
use mathlib.Core.List.{List, [], ◌∷◌}
use Prim.Native.Nat.{ℕ, ◌+◌, ◌*◌, ◌/◌, ◌%◌, ◌<◌, ◌-◌}
use native.Mathlib.Omega.{arith}
use lib.Dec.{leb}
use lib.ListN.{length, get_or, length-set}
use lib.Seq.{get_or-set_same, get_or-set_other}
use Rattle.std.proofs.Common.{Option, Some, None, Ok}
use Rattle.field.specs.Fields.{bytes32}
use Rattle.memory.specs.Counts.{counted_up}
use Rattle.memory.specs.Status.{fram_status, status_byte, status_written}
use Rattle.memory.proofs.FramStatus.{what_a_status_writes, a_status_moves_no_other_diagnostic, a_status_keeps_the_length}
use Rattle.blocks.specs.Fram.{Kept}
use Rattle.carrying.specs.declared.Mode.{Mode}
use Rattle.carrying.specs.declared.Mode.TheVariants.{Bootloader, Application}
use Rattle.carrying.specs.Ending.{Ending, done, refused, unfitted}
use Rattle.carrying.specs.Held.{Frams, frams, Which, of_bootloader, of_user, fram_of, with_fram, Standing, standing, held, inside, on_standing}
use Rattle.fram_commands.specs.Windows.{first_of_bootloader, first_of_user, first_of, which_of}
use Rattle.fram_commands.specs.Poke.{poke_of}
use Rattle.fram_commands.specs.ByAddress.{lock_of, poke_by_address}
use Rattle.fram_commands.proofs.Storing.{a_locked_poke_stores_nothing}
use Rattle.carrying.proofs.Room.{either_way}
use Rattle.command.specs.Init.{lock_order, init_of}
use Rattle.command.proofs.Codes.{in_either_mode}
use Rattle.command.proofs.Locking.{or_not, or_true}
use Rattle.command.proofs.Ways.{init_locks, init_refuses}
use Rattle.answer.specs.Answers.{number_of}
use Rattle.ports.specs.declared.Side.{Side}
use Rattle.ports.specs.declared.Side.TheVariants.{Zero, One}
use Rattle.ports.specs.Sides.{side_of, of_side}
use Rattle.ports.specs.Ports.{Ports, Sending, answered_on, port_of, is_open, is_sending, first_count, thrown_count, lost_count, settle_of}
use Rattle.judging.specs.declared.Unit.{Unit}
use Rattle.replying.specs.Ports.{fate_of_reply, fate_of}
use Rattle.judging.specs.Fitting.{set_up_fit}
use Rattle.judging.proofs.Serving.{a_served_set_up_fits}
use Rattle.replying.specs.Replies.{code_of, polls}
use Rattle.commanding.specs.World.{World, lengths_of, Outcome, with_frams, held_of}
use Rattle.commanding.specs.Commanded.{answered}
use Rattle.unit.specs.Steps.{set_up_of, step_of}
use Rattle.demands.specs.Calls.{Call, Lending, its_memory, another, Own, own, own_of, called_of, opened_on}
use Rattle.demands.specs.Arrivals.{Arrival, arriving, fed_all}
use Rattle.demands.specs.Locking.{locks}
use Rattle.demands.specs.Leaving.{heard_ports, heard_messages, has_reply, is_unsaid, one_more_lost, counts_after, shown_locked}
use Rattle.demands.specs.Orders.{Way, met, Sends, with_its_message, left_by, replies, done_answer, came_to}
use Rattle.demands.proofs.DemandOne.{what_every_answer_leaves}
use Rattle.demands.proofs.DemandThree.{Keeps, a_call_keeps_what_a_poke_keeps}
use Rattle.demands.proofs.Orders.{what_a_sent_command_leaves}
use Rattle.demands.proofs.Doing.{a_command_that_is_done_answers_so}

-- ---- once locked

-- a POKE of bootloader FRAM that is locked, or one of user FRAM, leaves bootloader FRAM and its sums as they are
a_poke_leaves_it : (room : ℕ) (now : Frams) (field : List ℕ) → Keeps (λ (f : Frams). f.bootloader ≡ now.bootloader) (poke_by_address room true now field)
unfolding poke_by_address
a_poke_leaves_it room now field = by (which_of field)
  where
    locked_one : (o : Ending Kept) → ((reply : List ℕ) (m : Kept) → o ≡ done reply m → now.bootloader ≡ m)
        → Keeps (λ (f : Frams). f.bootloader ≡ now.bootloader) (inside (λ m. frams m now.user) o)
    locked_one (done reply m) same = sym (same reply m refl)
    locked_one refused same = omega arith
    locked_one unfitted same = omega arith

    other_one : (o : Ending Kept) → Keeps (λ (f : Frams). f.bootloader ≡ now.bootloader) (inside (λ m. frams now.bootloader m) o)
    other_one (done reply m) = refl
    other_one refused = omega arith
    other_one unfitted = omega arith

    by : (which : Which) → Keeps (λ (f : Frams). f.bootloader ≡ now.bootloader) (inside (with_fram which now) (poke_of room (first_of which) (lock_of which true) (fram_of which now) field))
    by of_bootloader = locked_one (poke_of room first_of_bootloader true now.bootloader field) (λ reply m. a_locked_poke_stores_nothing room first_of_bootloader now.bootloader field reply m)
    by of_user = other_one (poke_of room first_of_user false now.user field)

locked_stays : (u : Unit) (number byte : ℕ) (sending : Sending) (w : World) → u.locked ≡ true → (step_of u number byte sending w).unit.locked ≡ true
locked_stays u number byte sending w locked = (what_every_answer_leaves u number byte sending w).lock ∙ ap (λ (b : Bool). b || locks u number byte w) locked

-- One byte on either port, whatever else is lent, on a record that says locked: it is locked afterwards, and bootloader FRAM and its sums are as they were, right or
-- wrong.
pub a_locked_unit_leaves_bootloader_fram : (u : Unit) (number byte : ℕ) (sending : Sending) (w : World) → u.locked ≡ true
    → ((step_of u number byte sending w).unit.locked ≡ true) × ((step_of u number byte sending w).world.frams.bootloader ≡ w.frams.bootloader)
a_locked_unit_leaves_bootloader_fram u number byte sending w locked = (
  locked_stays u number byte sending w locked,
  a_call_keeps_what_a_poke_keeps (λ (f : Frams). f.bootloader ≡ w.frams.bootloader) u number byte sending w refl
      (λ room field. subst (λ (b : Bool). Keeps (λ (f : Frams). f.bootloader ≡ w.frams.bootloader) (poke_by_address room b w.frams field)) (sym locked)
      (a_poke_leaves_it room w.frams field)),
)

-- T-07. Once it is locked, no bytes on the line ever change bootloader FRAM or its sums, or unlock it: over any calls, with whatever bytes and
-- whatever else they lend, of any length, refused or not, as long as nothing but the unit changes its FRAMs, sums or record.
pub once_locked_no_bytes_change_bootloader_fram : (calls : List Lending) (s : Own) → s.unit.locked ≡ true
    → ((called_of s calls).unit.locked ≡ true) × ((called_of s calls).frams.bootloader ≡ s.frams.bootloader)
once_locked_no_bytes_change_bootloader_fram [] s locked = (locked, refl)
once_locked_no_bytes_change_bootloader_fram (its_memory c ∷ calls) s locked =
    let o = step_of s.unit c.port c.byte c.sending (with_frams c.lent s.frams) in
    let one = a_locked_unit_leaves_bootloader_fram s.unit c.port c.byte c.sending (with_frams c.lent s.frams) locked in
    let rest = once_locked_no_bytes_change_bootloader_fram calls (own_of o) one.0 in
    (rest.0, rest.1 ∙ one.1)
once_locked_no_bytes_change_bootloader_fram (another c ∷ calls) s locked =
    once_locked_no_bytes_change_bootloader_fram calls (own (step_of s.unit c.port c.byte c.sending c.lent).unit s.frams) (locked_stays s.unit c.port c.byte c.sending c.lent locked)

-- And so from its set-up on, of a unit that was set up locked.
pub set_up_locked_it_stays_locked : (strap limit : ℕ) (w : World) → set_up_fit strap limit (lengths_of w) ≡ Ok tt → (calls : List Lending)
    → let now = called_of (own_of (set_up_of strap limit true w)) calls in
    (now.unit.locked ≡ true) × (now.frams.bootloader ≡ (set_up_of strap limit true w).world.frams.bootloader)
unfolding set_up_of
set_up_locked_it_stays_locked strap limit w e calls =
    once_locked_no_bytes_change_bootloader_fram calls (own_of (set_up_of strap limit true w))
    (simp e)

-- ---- what locks it

-- INIT 0xDEADBEEF is sent, as EF BE AD DE.
module _ (way : Way) (source control : ℕ) (c : Call) (sends : Sends way source control (bytes32 lock_order) c)
    (code : code_of control ≡ 0x01) where
  abbrev here : Standing
  here = standing (met way).mode (met way).locked c.lent.diagnostics

  comes : came_to (met way) c control (bytes32 lock_order) ≡ on_standing (held_of (met way) c.lent) (init_of here (bytes32 lock_order))
  comes = in_either_mode (met way).limit (code_of control) (held_of (met way) c.lent) (bytes32 lock_order) 0x01 (on_standing (held_of (met way) c.lent) (init_of here (bytes32 lock_order))) code refl

  -- In bootloader mode it is done and echoed, whether bootloader FRAM is locked already or not: it is locked, the low byte of diagnostic 0x06 is
  -- written (a reply that is lost, or that throws a run away, is counted besides), and mode, EDAC memory and both FRAMs are as they were.
  pub an_order_to_lock_is_done : (met way).mode ≡ Bootloader
      → came_to (met way) c control (bytes32 lock_order)
      ≡ done (bytes32 lock_order) (held (standing Bootloader true (status_written true c.lent.diagnostics)) c.lent.edac c.lent.frams)
  an_order_to_lock_is_done mode =
      comes
      ∙ ap (on_standing (held_of (met way) c.lent))
      (ap (λ (m : Mode). init_of (standing m (met way).locked c.lent.diagnostics) (bytes32 lock_order)) mode
      ∙ init_locks (standing Bootloader (met way).locked c.lent.diagnostics) (bytes32 lock_order) (λ none. omega arith) refl refl)

  pub what_an_order_to_lock_leaves : (met way).mode ≡ Bootloader
      → let o = left_by way c in
      let fate = fate_of_reply control (is_sending way.telemetry c.sending) in
      (number_of o.answer ≡ done_answer (replies way control c)) × (o.unit.locked ≡ true) × (o.unit.mode ≡ Bootloader)
      × (o.world.diagnostics ≡ (settle_of fate way.telemetry (opened_on way.side (met way)).ports (status_written true c.lent.diagnostics)).diagnostics)
      × (o.world.edac ≡ c.lent.edac) × (o.world.frams ≡ c.lent.frams)
  unfolding answered fate_of
  what_an_order_to_lock_leaves mode =
      let came = an_order_to_lock_is_done mode in
      let so = a_command_that_is_done_answers_so way source control (bytes32 lock_order) c sends _ _ came in
      let is = what_a_sent_command_leaves way source control (bytes32 lock_order) c sends
      ∙ ap (λ e. answered (opened_on way.side (met way)) way.telemetry (is_sending way.telemetry c.sending) way.destination source control (bytes32 lock_order) e
      (with_its_message way source control (bytes32 lock_order) c)) came in (
        so.0,
        ap (λ (o : Outcome). o.unit.locked) is,
        ap (λ (o : Outcome). o.unit.mode) is,
        ap (λ (o : Outcome). o.world.diagnostics) is,
        so.1,
        so.2,
      )

  -- In application mode it is refused.
  pub an_order_to_lock_in_application_mode_is_refused : (met way).mode ≡ Application → came_to (met way) c control (bytes32 lock_order) ≡ refused
  an_order_to_lock_in_application_mode_is_refused mode =
      comes
      ∙ ap (on_standing (held_of (met way) c.lent))
      (ap (λ (m : Mode). init_of (standing m (met way).locked c.lent.diagnostics) (bytes32 lock_order)) mode
      ∙ init_refuses (standing Application (met way).locked c.lent.diagnostics) (bytes32 lock_order) (λ none. omega arith) refl refl)

-- ---- what diagnostic 0x06 shows

-- the counts are others
apart_from_it : (diagnostics : List ℕ) (channel : ℕ) → fram_status < channel
    → (get_or (counted_up diagnostics channel) fram_status 0 ≡ get_or diagnostics fram_status 0) × (length (counted_up diagnostics channel) ≡ length diagnostics)
unfolding counted_up
apart_from_it diagnostics channel above = (get_or-set_other diagnostics channel fram_status _ 0 (λ same. omega arith), simp length-set)

module _ (strap : ℕ) (side : Side) (ports : Ports) (message : List ℕ) (number : ℕ) (port : Side) (diagnostics : List ℕ) where
  abbrev Still : List ℕ → Type 0
  Still l = (get_or l fram_status 0 ≡ get_or diagnostics fram_status 0) × (length l ≡ length diagnostics)

  above_it : (s : Side) → (fram_status < first_count s) × (fram_status < thrown_count s) × (fram_status < lost_count s)
  above_it Zero = (omega arith, omega arith, omega arith)
  above_it One = (omega arith, omega arith, omega arith)

  no_count_is_the_status : Still (counts_after strap side ports message number port diagnostics)
  no_count_is_the_status =
      either_way Still (leb 5 number && leb number 8) _ _ (λ _. let high = (above_it side).0 in apart_from_it diagnostics (first_count side + (number - 5)) (omega arith))
      (λ _. either_way Still (has_reply number && is_open (port_of port ports)) _ _ (λ _. apart_from_it diagnostics (thrown_count port) (above_it port).1)
      (λ _. either_way Still (is_unsaid number && polls (get_or message 2 0)) _ _ (λ _. lost (answered_on strap side (get_or message 0 0))) (λ _. (refl, refl))))
    where
      lost : (a : Option Side) → Still (one_more_lost a diagnostics)
      lost (Some telemetry) = apart_from_it diagnostics (lost_count telemetry) (above_it telemetry).2
      lost None = (refl, refl)

-- what a byte leaves in the diagnostics is what an order to lock shows, but for the counts
module _ (u : Unit) (number byte : ℕ) (sending : Sending) (w : World) where
  abbrev Shown : List ℕ → Type 0
  Shown l = let shown = shown_locked (locks u number byte w) w.diagnostics in (get_or l fram_status 0 ≡ get_or shown fram_status 0) × (length l ≡ length shown)

  shown_so : Shown (step_of u number byte sending w).world.diagnostics
  shown_so =
      let o = step_of u number byte sending w in
      subst Shown (sym (what_every_answer_leaves u number byte sending w).counts)
      (no_count_is_the_status u.strap (side_of number) (heard_ports u number byte w) (of_side (side_of number) (heard_messages u number byte w)) (number_of o.answer) o.port
      (shown_locked (locks u number byte w) w.diagnostics))

  -- A byte that completes an order to lock writes 0xCC in the low byte of diagnostic 0x06, and no other byte of it; no other byte on the line moves it,
  -- whatever the record, and whatever is lent.
  pub what_moves_the_fram_status : fram_status < length w.diagnostics
      → get_or (step_of u number byte sending w).world.diagnostics fram_status 0
      ≡ cond (locks u number byte w) (get_or w.diagnostics fram_status 0 / 256 * 256 + 0xCC) (get_or w.diagnostics fram_status 0)
  unfolding status_written
  what_moves_the_fram_status there = shown_so.0 ∙ by (locks u number byte w)
    where
      by : (b : Bool) → get_or (shown_locked b w.diagnostics) fram_status 0 ≡ cond b (get_or w.diagnostics fram_status 0 / 256 * 256 + 0xCC) (get_or w.diagnostics fram_status 0)
      by true = get_or-set_same w.diagnostics fram_status (get_or w.diagnostics fram_status 0 / 256 * 256 + status_byte true) 0 there
      by false = refl

-- A set-up that is served writes what it was told, and moves no other diagnostic.
pub what_set_up_writes_of_the_fram_status : (strap limit : ℕ) (locked : Bool) (w : World) → set_up_fit strap limit (lengths_of w) ≡ Ok tt
    → let now = (set_up_of strap limit locked w).world.diagnostics in
    (get_or now fram_status 0 ≡ get_or w.diagnostics fram_status 0 / 256 * 256 + cond locked 0xCC 0x40)
    × ((channel : ℕ) → (channel ≡ fram_status → ⊥) → get_or now channel 0 ≡ get_or w.diagnostics channel 0)
unfolding set_up_of status_written
what_set_up_writes_of_the_fram_status strap limit locked w e =
    let fits = (a_served_set_up_fits strap limit (lengths_of w) e).diagnostics_fit in
    let is : (set_up_of strap limit locked w).world.diagnostics ≡ status_written locked w.diagnostics = simp e in (
      ap (λ l. get_or l fram_status 0) is
          ∙ get_or-set_same w.diagnostics fram_status (get_or w.diagnostics fram_status 0 / 256 * 256 + status_byte locked) 0 (omega arith),
      λ channel other. ap (λ l. get_or l channel 0) is ∙ a_status_moves_no_other_diagnostic locked w.diagnostics channel other,
    )

-- ---- and that it is true

-- the low byte says what the record says, and the other three are what they were
abbrev Told : ℕ → Unit → List ℕ → Type 0
Told before u diagnostics =
    (fram_status < length diagnostics) × (get_or diagnostics fram_status 0 % 256 ≡ status_byte u.locked) × (get_or diagnostics fram_status 0 / 256 ≡ before / 256)

a_byte_tells : (before : ℕ) (u : Unit) (a : Arrival) (w : World) → Told before u w.diagnostics → Told before (arriving u a w).unit (arriving u a w).world.diagnostics
a_byte_tells before u a w told = by (locks u a.port a.byte w) (what_every_answer_leaves u a.port a.byte a.sending w).lock (shown_so u a.port a.byte a.sending w)
  where
    by : (b : Bool) → (arriving u a w).unit.locked ≡ (u.locked || b)
        → (get_or (arriving u a w).world.diagnostics fram_status 0 ≡ get_or (shown_locked b w.diagnostics) fram_status 0)
        × (length (arriving u a w).world.diagnostics ≡ length (shown_locked b w.diagnostics))
        → Told before (arriving u a w).unit (arriving u a w).world.diagnostics
    by true lock same =
        let long = a_status_keeps_the_length true w.diagnostics in
        let wrote = what_a_status_writes true w.diagnostics told.0 in (
          omega (arith, told.0, same.1),
          ap (λ (n : ℕ). n % 256) same.0 ∙ wrote.0 ∙ ap status_byte (sym (lock ∙ or_true u.locked)),
          ap (λ (n : ℕ). n / 256) same.0 ∙ wrote.1 ∙ told.2,
        )
    by false lock same = (
      omega (arith, told.0, same.1),
      ap (λ (n : ℕ). n % 256) same.0 ∙ told.1 ∙ ap status_byte (or_not u.locked ∙ sym lock),
      ap (λ (n : ℕ). n / 256) same.0 ∙ told.2,
    )

bytes_tell : (before : ℕ) (arrivals : List Arrival) (u : Unit) (w : World) → Told before u w.diagnostics
    → let end = fed_all u w arrivals in Told before end.unit end.world.diagnostics
bytes_tell before [] u w told = told
bytes_tell before (a ∷ arrivals) u w told =
    bytes_tell before arrivals (arriving u a w).unit (arriving u a w).world (a_byte_tells before u a w told)

-- From a set-up that is served on, where nothing but the unit changes its record and what it is lent, after any bytes on either port the low byte of diagnostic 0x06 is
-- 0xCC where the record is locked and 0x40 where it is not, and its other three bytes are what they were before set-up.
pub what_the_fram_status_shows_is_true : (strap limit : ℕ) (locked : Bool) (w : World) → set_up_fit strap limit (lengths_of w) ≡ Ok tt → (arrivals : List Arrival)
    → let o = set_up_of strap limit locked w in
    let end = fed_all o.unit o.world arrivals in
    (get_or end.world.diagnostics fram_status 0 % 256 ≡ cond end.unit.locked 0xCC 0x40)
    × (get_or end.world.diagnostics fram_status 0 / 256 ≡ get_or w.diagnostics fram_status 0 / 256)
unfolding set_up_of
what_the_fram_status_shows_is_true strap limit locked w e arrivals =
    let fits = (a_served_set_up_fits strap limit (lengths_of w) e).diagnostics_fit in
    let there : fram_status < length w.diagnostics = omega arith in
    let long = a_status_keeps_the_length locked w.diagnostics in
    let wrote = what_a_status_writes locked w.diagnostics there in
    let now : (set_up_of strap limit locked w).world.diagnostics ≡ status_written locked w.diagnostics = simp e in
    let lock : (set_up_of strap limit locked w).unit.locked ≡ locked = simp e in
    let first : Told (get_or w.diagnostics fram_status 0) (set_up_of strap limit locked w).unit (set_up_of strap limit locked w).world.diagnostics
    = subst (λ (l : List ℕ). Told (get_or w.diagnostics fram_status 0) (set_up_of strap limit locked w).unit l) (sym now)
    (omega arith, wrote.0 ∙ ap status_byte (sym lock), wrote.1) in
    let told = bytes_tell (get_or w.diagnostics fram_status 0) arrivals (set_up_of strap limit locked w).unit (set_up_of strap limit locked w).world first in
    (told.1, told.2)

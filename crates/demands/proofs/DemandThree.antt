-- Demand 3: after any calls each kept sum is the CRC of its block as it now stands, and each CRC answered is the one worked out
-- afresh. (Its last sentence, on joining, is crc's `any_order_gives_the_whole`.) Assumes nothing.
use mathlib.Core.Path.{◌≡◌, refl, sym, ap, ap₂, ◌∙◌, subst}
use mathlib.Core.Bool.{Bool, true, false, cond, ◌&&◌}
use mathlib.Core.List.{List, [], ◌∷◌, ◌++◌}
use Prim.Native.Nat.{ℕ, ◌+◌, ◌-◌, ◌/◌, ◌%◌, ◌≤◌, ◌<◌}
use native.Mathlib.Omega.{arith}
use borrow.Author.Tests.{le-leb, eq-eqb, eqb-true, le-ltb}
use lib.Dec.{leb, ltb, eqb}
use lib.ListN.{length, drop, length-drop}
use Rattle.std.proofs.Common.{Ok}
use Rattle.crc.specs.Sum.{sum_of}
use Rattle.line.specs.Framing.{fend}
use Rattle.line.specs.Packing.{body_of, packed_of, message_size, reply_size}
use Rattle.field.proofs.Words.{four_bytes}
use Rattle.field.specs.Fields.{word32_at, bytes16, bytes32}
use Rattle.memory.specs.Bytes.{stretch}
use Rattle.memory.specs.Counts.{channels}
use Rattle.memory.specs.Status.{status_written}
use Rattle.memory.specs.Edac.{edac_size}
use Rattle.std.proofs.Common.{Option, Some, None}
use Rattle.blocks.specs.Fram.{Kept, kept, block_start, fresh_sums, store_of, range_sum, place_of}
use Rattle.blocks.proofs.Refreshing.{fresh_length, right_sums_stay_right, a_store_keeps_the_memory's_length}
use Rattle.blocks.proofs.Ranges.{a_range_under_right_sums_is_fresh}
use Rattle.carrying.specs.Ending.{is_limit, Ending, done, refused, unfitted, at_place}
use Rattle.carrying.specs.Held.{Frams, frams, Which, of_bootloader, of_user, fram_of, with_fram, Standing, standing, Held, held, inside, reading, on_edac}
use Rattle.carrying.proofs.Room.{either_way}
use Rattle.fram_commands.specs.Windows.{first_of_bootloader, first_of_user, first_of, which_of, over_border}
use Rattle.fram_commands.specs.Poke.{poke_of}
use Rattle.fram_commands.specs.Crc.{range_size}
use Rattle.fram_commands.specs.ByAddress.{peek_by_address, lock_of, poke_by_address, crc_by_address}
use Rattle.fram_commands.proofs.Ways.{a_place_lies_inside, crc_inside}
use Rattle.fram_commands.proofs.Choosing.{a_crc_where_it_is_named}
use Rattle.file_commands.specs.ReadFile.{read_file_of}
use Rattle.file_commands.specs.WriteFile.{write_file_of}
use Rattle.edac_commands.specs.ReadEdac.{read_edac_of}
use Rattle.edac_commands.specs.WriteEdac.{write_edac_of}
use Rattle.edac_commands.specs.Gather.{gather_of}
use Rattle.command.specs.Ping.{ping_of}
use Rattle.command.specs.Init.{init_of}
use Rattle.command.specs.Diagnostic.{diagnostic_of}
use Rattle.command.specs.Command.{command_of}
use Rattle.command.proofs.Codes.{of_any_command, in_either_mode}
use Rattle.ports.specs.declared.Side.{Side}
use Rattle.ports.specs.declared.Side.TheVariants.{Zero, One}
use Rattle.ports.specs.Ports.{Sending, both_fresh, port_of, count_of, is_sending}
use Rattle.judging.specs.declared.Unit.{Unit}
use Rattle.judging.specs.Fitting.{fram_fits, fram_as_set_up, frams_as_set_up, limit_fit, lengths_fit, set_up_fit}
use Rattle.judging.specs.Judging.{largest_message}
use Rattle.judging.proofs.Serving.{both_hold, Passed, all_passed, a_served_set_up_fits, a_served_set_up_is_limited}
use Rattle.replying.specs.Replies.{code_of, sealed, reply_message}
use Rattle.commanding.specs.World.{World, message_of, reply_of, lengths_of, Outcome, with_frams, held_of}
use Rattle.commanding.specs.Commanded.{answered}
use Rattle.unit.specs.Steps.{set_up_of, step_of}
use Rattle.unit.proofs.Serving.{set_up_served}
use Rattle.demands.specs.Calls.{Call, lent_to, fed_of, delivering, opened_on, lent_lengths, Suits, Serves, Lending, its_memory, another, Own, own, own_of, called_of, Right, Inside}
use Rattle.demands.specs.Orders.{Way, met, Sends, with_its_message, left_by, sent_by, replies, came_to}
use Rattle.demands.proofs.Cases.{of_any_call}
use Rattle.unit.proofs.Heard.{unit_heard, world_heard}
use Rattle.demands.proofs.DemandOne.{what_every_answer_leaves}
use Rattle.demands.proofs.Ranges.{ends_by, a_range_inside_names_its_fram}
use Rattle.demands.proofs.Along.{above_every_message, a_call_keeps_the_counts_low}
use Rattle.demands.proofs.Orders.{no_longer, a_sent_command_is_carried_out, a_command_that_is_done_sends_its_data}

-- what is kept from call to call: right sums, and the memory's length
abbrev Good : ℕ → Kept → Type 0
Good size memory = Right memory × (length memory.fram ≡ size)

abbrev GoodBoth : ℕ → ℕ → Frams → Type 0
GoodBoth bootloader's user's now = Good bootloader's now.bootloader × Good user's now.user

-- a command that is done keeps what its memory has
abbrev pub Keeps : {M : Type 0} → (M → Type 0) → Ending M → Type 0
Keeps P (done reply after) = P after
Keeps P refused = 0 ≤ 0
Keeps P unfitted = 0 ≤ 0

pub keeps_inside : {M N : Type 0} (P : M → Type 0) (Q : N → Type 0) (f : M → N) → ((m : M) → P m → Q (f m)) → (o : Ending M) → Keeps P o → Keeps Q (inside f o)
keeps_inside P Q f g (done reply after) k = g after k
keeps_inside P Q f g refused k = k
keeps_inside P Q f g unfitted k = k

a_store_keeps_right : (size : ℕ) (memory : Kept) (at : ℕ) (bytes : List ℕ) → Good size memory → at + length bytes ≤ length memory.fram → Good size (store_of memory at bytes)
a_store_keeps_right size memory at bytes good fits = (
  ap (λ s. (store_of (kept memory.fram s) at bytes).sums) good.0
      ∙ right_sums_stay_right memory.fram at bytes fits
      ∙ ap (λ s. fresh_sums (store_of (kept memory.fram s) at bytes).fram) (sym good.0),
  a_store_keeps_the_memory's_length memory at bytes fits ∙ good.1,
)

-- a POKE of one memory, locked or not
poke_keeps : (size room first : ℕ) (locked : Bool) (memory : Kept) (field : List ℕ) → Good size memory → Keeps (Good size) (poke_of room first locked memory field)
unfolding poke_of
poke_keeps size room first locked memory field good =
    either_way (Keeps (Good size)) (ltb (length field) 5) _ _ (λ _. omega arith)
    (λ short. either_way (Keeps (Good size)) (ltb room (length field)) _ _ (λ _. omega arith)
    (λ _. either_way (Keeps (Good size)) (over_border (word32_at field 0) (length field - 4)) _ _ (λ _. omega arith)
    (λ _. placed (place_of first (length memory.fram) (word32_at field 0) (length field - 4)) refl short)))
  where
    placed : (f : Option ℕ) → place_of first (length memory.fram) (word32_at field 0) (length field - 4) ≡ f → ltb (length field) 5 ≡ false
        → Keeps (Good size) (at_place f (λ at. done field (cond locked memory (store_of memory at (drop 4 field)))))
    placed None e short = omega arith
    placed (Some at) e short =
        either_way (Good size) locked memory (store_of memory at (drop 4 field)) (λ _. good)
        (λ _. a_store_keeps_right size memory at (drop 4 field) good
        (rw length-drop (a_place_lies_inside first (length memory.fram) (word32_at field 0) (length field - 4) at e)))

-- and of the one that its address names
poke_keeps_both : (bootloader's user's room : ℕ) (locked : Bool) (now : Frams) (field : List ℕ) → GoodBoth bootloader's user's now
    → Keeps (GoodBoth bootloader's user's) (poke_by_address room locked now field)
unfolding poke_by_address
poke_keeps_both bootloader's user's room locked now field good = by (which_of field)
  where
    by : (which : Which) → Keeps (GoodBoth bootloader's user's) (inside (with_fram which now) (poke_of room (first_of which) (lock_of which locked) (fram_of which now) field))
    by of_bootloader =
        keeps_inside (Good bootloader's) (GoodBoth bootloader's user's) (λ m. frams m now.user) (λ m g. (g, good.1))
        (poke_of room first_of_bootloader locked now.bootloader field) (poke_keeps bootloader's room first_of_bootloader locked now.bootloader field good.0)
    by of_user =
        keeps_inside (Good user's) (GoodBoth bootloader's user's) (λ m. frams now.bootloader m) (λ m g. (good.0, g))
        (poke_of room first_of_user false now.user field) (poke_keeps user's room first_of_user false now.user field good.1)

-- what a POKE keeps of the FRAMs every command keeps
module _ (Q : Frams → Type 0) where
  -- a command on another part leaves them as they are
  keeps_apart : {M : Type 0} (now : Frams) (f : M → Held) → ((m : M) → (f m).frams ≡ now) → Q now → (o : Ending M) → Keeps (λ h. Q h.frams) (inside f o)
  keeps_apart now f same good (done reply after) = subst Q (sym (same after)) good
  keeps_apart now f same good refused = omega arith
  keeps_apart now f same good unfitted = omega arith

  command_keeps : (room code : ℕ) (now : Held) (field : List ℕ) → Q now.frams → Keeps Q (poke_by_address room now.standing.locked now.frams field)
      → Keeps (λ h. Q h.frams) (command_of room code now field)
  command_keeps room code now field good pokes =
      of_any_command (Keeps (λ h. Q h.frams)) room code now field (omega arith) (
        still ping_of,
        (
          keeps_apart now.frams (λ s. held s now.edac now.frams) (λ m. refl) good (init_of now.standing field),
          (
            still (peek_by_address room now.frams.bootloader.fram now.frams.user.fram field),
            (
              keeps_inside Q (λ h. Q h.frams) (λ both. held now.standing now.edac both) (λ m g. g) (poke_by_address room now.standing.locked now.frams field) pokes,
              (
                still (diagnostic_of room now.standing.diagnostics field),
                (
                  still (crc_by_address now.frams field),
                  (
                    still (read_file_of room now.edac field),
                    (
                      in_edac (write_file_of room now.edac field),
                      (
                        still (read_edac_of room now.edac field),
                        (in_edac (write_edac_of room now.edac field), (still (gather_of room now.edac field), tt)),
                      ),
                    ),
                  ),
                ),
              ),
            ),
          ),
        ),
      )
    where
      still : (o : Ending (Prim.Unit {0})) → Keeps (λ h. Q h.frams) (reading now o)
      still o = keeps_apart now.frams (λ _. now) (λ m. refl) good o

      in_edac : (o : Ending (List ℕ)) → Keeps (λ h. Q h.frams) (on_edac now o)
      in_edac o = keeps_apart now.frams (λ edac. held now.standing edac now.frams) (λ m. refl) good o

  -- ---- and so does one call

  answered_keeps : (u : Unit) (telemetry : Side) (sending : Bool) (destination source control : ℕ) (field : List ℕ) (o : Ending Held) (w : World) → Q w.frams
      → Keeps (λ h. Q h.frams) o → Q (answered u telemetry sending destination source control field o w).world.frams
  unfolding answered
  answered_keeps u telemetry sending destination source control field (done reply after) w good k = k
  answered_keeps u telemetry sending destination source control field refused w good k = good
  answered_keeps u telemetry sending destination source control field unfitted w good k = good

  pub a_call_keeps_what_a_poke_keeps : (u : Unit) (number byte : ℕ) (sending : Sending) (w : World) → Q w.frams
      → ((room : ℕ) (field : List ℕ) → Keeps Q (poke_by_address room u.locked w.frams field)) → Q (step_of u number byte sending w).world.frams
  a_call_keeps_what_a_poke_keeps u number byte sending w good pokes =
      of_any_call (λ _ (o : Outcome). Q o.world.frams) u number byte sending w (λ answer e. good)
      (λ _.
      let next = unit_heard u number byte w in
      let lent = world_heard u number byte w in
      record {
        taken = good;
        elsewhere = good;
        dropped = λ answer which number four silent. good;
        commanded = λ telemetry destination source control field to told is short.
            answered_keeps next telemetry (is_sending telemetry sending) destination source control field (command_of u.limit (code_of control) (held_of next lent) field) lent good
            (command_keeps u.limit (code_of control) (held_of next lent) field good (pokes u.limit field));
      })

step_keeps : (bootloader's user's : ℕ) (u : Unit) (number byte : ℕ) (sending : Sending) (w : World) → GoodBoth bootloader's user's w.frams
    → GoodBoth bootloader's user's (step_of u number byte sending w).world.frams
step_keeps bootloader's user's u number byte sending w good =
    a_call_keeps_what_a_poke_keeps (GoodBoth bootloader's user's) u number byte sending w good
    (λ room field. poke_keeps_both bootloader's user's room u.locked w.frams field good)

-- what a unit has from its set-up on
record Goes (strap limit bootloader's user's : ℕ) (s : Own) : Type 0 where
  good : GoodBoth bootloader's user's s.frams
  same_strap : s.unit.strap ≡ strap
  same_limit : s.unit.limit ≡ limit
  same_bootloader : s.unit.bootloader_len ≡ bootloader's
  same_user : s.unit.fram_len ≡ user's
  low : (side : Side) → count_of (port_of side s.unit.ports) ≤ largest_message limit + 1

module _ (strap limit bootloader's user's : ℕ) where
  goes_on : (s : Own) (number byte : ℕ) (sending : Sending) (w : World) (now : Frams) → Goes strap limit bootloader's user's s → GoodBoth bootloader's user's now
      → Goes strap limit bootloader's user's (own (step_of s.unit number byte sending w).unit now)
  goes_on s number byte sending w now g good =
      let leaves = what_every_answer_leaves s.unit number byte sending w in
      record {
        good = good;
        same_strap = leaves.strap ∙ g.same_strap;
        same_limit = leaves.limit ∙ g.same_limit;
        same_bootloader = leaves.bootloader_length ∙ g.same_bootloader;
        same_user = leaves.fram_length ∙ g.same_user;
        low = a_call_keeps_the_counts_low s.unit number byte sending w (largest_message limit + 1) (omega (arith, g.same_limit)) g.low;
      }

  -- and any calls
  calls_keep : (calls : List Lending) (s : Own) → Goes strap limit bootloader's user's s → Goes strap limit bootloader's user's (called_of s calls)
  calls_keep [] s g = g
  calls_keep (its_memory c ∷ calls) s g =
      let o = step_of s.unit c.port c.byte c.sending (with_frams c.lent s.frams) in
      calls_keep calls (own_of o)
      (goes_on s c.port c.byte c.sending (with_frams c.lent s.frams) o.world.frams g
      (step_keeps bootloader's user's s.unit c.port c.byte c.sending (with_frams c.lent s.frams) g.good))
  calls_keep (another c ∷ calls) s g =
      calls_keep calls (own (step_of s.unit c.port c.byte c.sending c.lent).unit s.frams) (goes_on s c.port c.byte c.sending c.lent s.frams g g.good)

-- set-up makes all sums right
set_up_goes : (strap limit : ℕ) (locked : Bool) (w : World) → set_up_fit strap limit (lengths_of w) ≡ Ok tt
    → Goes strap limit (length w.frams.bootloader.fram) (length w.frams.user.fram) (own_of (set_up_of strap limit locked w))
set_up_goes strap limit locked w e =
    subst (λ o. Goes strap limit (length w.frams.bootloader.fram) (length w.frams.user.fram) (own_of o))
    (set_up_served strap limit locked w both_fresh (fresh_sums w.frams.bootloader.fram) (fresh_sums w.frams.user.fram) (status_written locked w.diagnostics) e refl refl refl refl)
    (record { good = ((refl, refl), (refl, refl)); same_strap = refl; same_limit = refl; same_bootloader = refl; same_user = refl; low = fresh_low })
  where
    fresh_low : (side : Side) → count_of (port_of side both_fresh) ≤ largest_message limit + 1
    fresh_low Zero = omega arith
    fresh_low One = omega arith

-- Demand 3, on the sums. Take a unit that was set up, and let nothing but the unit change its FRAMs, sums or record. After any calls on either port,
-- whatever bytes and whatever else they lend, of any length, refused or not, each block's kept sum is the CRC of that block as it now
-- stands, in bootloader FRAM and in user FRAM.
pub after_any_calls_the_sums_are_right : (strap limit : ℕ) (locked : Bool) (w : World) → set_up_fit strap limit (lengths_of w) ≡ Ok tt → (calls : List Lending)
    → (which : Which) → Right (fram_of which (called_of (own_of (set_up_of strap limit locked w)) calls).frams)
after_any_calls_the_sums_are_right strap limit locked w e calls which = by which
  where
    goes : Goes strap limit (length w.frams.bootloader.fram) (length w.frams.user.fram) (called_of (own_of (set_up_of strap limit locked w)) calls)
    goes =
        calls_keep strap limit (length w.frams.bootloader.fram) (length w.frams.user.fram) calls (own_of (set_up_of strap limit locked w))
        (set_up_goes strap limit locked w e)

    by : (x : Which) → Right (fram_of x (called_of (own_of (set_up_of strap limit locked w)) calls).frams)
    by of_bootloader = goes.good.0.0
    by of_user = goes.good.1.0

-- ---- the CRC that is answered

-- an address as it is sent reads as itself
reads_back : (n : ℕ) (rest : List ℕ) → n < 4294967296 → word32_at (bytes32 n ++ rest) 0 ≡ n
reads_back n rest h = four_bytes n h

reads_back_second : (m n : ℕ) → n < 4294967296 → word32_at (bytes32 m ++ bytes32 n) 4 ≡ n
reads_back_second m n h = four_bytes n h

-- the place of such a range
placed : (start size first last : ℕ) → start ≤ first → first ≤ last → last < start + size → place_of start size first (range_size first last) ≡ Some (first - start)
unfolding place_of
placed start size first last starts forward ends =
    simp (le-leb start first starts, le-leb (first + range_size first last) (start + size) (omega arith))

in_blocks : (size : ℕ) → fram_fits size ≡ true → size % 256 ≡ 0
in_blocks size right = eqb-true (size % 256) 0 (both_hold (leb 256 size && leb size 262144) (eqb (size % 256) 0) right).1

both_yes : {a b : Bool} → a ≡ true → b ≡ true → (a && b) ≡ true
both_yes {a} {b} p q = ap₂ ◌&&◌ p q

module _ (which : Which) (now : Frams) (small : length (fram_of which now).fram ≤ 262144) (first last : ℕ) (range : Inside which now first last) where
  abbrev start : ℕ
  start = first_of which

  abbrev memory : Kept
  memory = fram_of which now

  abbrev asking : List ℕ
  asking = bytes32 first ++ bytes32 last

  -- whatever sums are kept, a CRC of a range inside is done, with what they give
  pub a_crc_inside_is_done : crc_by_address now asking ≡ done (asking ++ bytes16 (range_sum memory (first - start) (first - start + range_size first last))) tt
  a_crc_inside_is_done =
      let starts = range.starts in
      let forward = range.forward in
      let ends = range.ends in
      let most = ends_by which in
      let one : word32_at asking 0 ≡ first = reads_back first (bytes32 last) (omega arith) in
      let two : word32_at asking 4 ≡ last = reads_back_second first last (omega arith) in
      let there : place_of start (length memory.fram) (word32_at asking 0) (range_size (word32_at asking 0) (word32_at asking 4)) ≡ Some (first - start)
      = ap₂ (λ f l. place_of start (length memory.fram) f (range_size f l)) one two ∙ placed start (length memory.fram) first last starts forward ends in
      let named = a_range_inside_names_its_fram which asking (range_size (word32_at asking 0) (word32_at asking 4)) (length memory.fram) (omega arith) (omega arith) (omega arith) small in
      a_crc_where_it_is_named asking which named.0 now
      ∙ crc_inside start memory asking refl (omega arith) named.1 (first - start) there
      ∙ ap (λ n. done (asking ++ bytes16 n) tt) (ap₂ (λ f l. range_sum memory (first - start) (first - start + range_size f l)) one two)

  -- under right sums that is the CRC of the bytes
  module _ (blocks : ℕ) (right : Right (fram_of which now)) (whole : length (fram_of which now).fram ≡ block_start blocks) where
    fresh_range : range_sum memory (first - start) (first - start + range_size first last) ≡ sum_of (stretch (first - start) (last - first + 1) memory.fram)
    fresh_range =
        let starts = range.starts in
        let forward = range.forward in
        let ends = range.ends in
        let wide : first - start + range_size first last - (first - start) ≡ last - first + 1 = omega arith in
        ap (λ s. range_sum (kept memory.fram s) (first - start) (first - start + range_size first last)) right
        ∙ a_range_under_right_sums_is_fresh memory.fram blocks (first - start) (first - start + range_size first last) whole (omega arith) (omega arith)
        ∙ ap (λ n. sum_of (stretch (first - start) n memory.fram)) wide

    a_fresh_answer : crc_by_address now asking ≡ done (asking ++ bytes16 (sum_of (stretch (first - start) (last - first + 1) memory.fram))) tt
    a_fresh_answer = a_crc_inside_is_done ∙ ap (λ n. done (asking ++ bytes16 n) tt) fresh_range

    the_command_answers_it : (room : ℕ) (s : Standing) (edac : List ℕ) → command_of room 0x06 (held s edac now) asking
        ≡ done (asking ++ bytes16 (sum_of (stretch (first - start) (last - first + 1) memory.fram))) (held s edac now)
    the_command_answers_it room s edac =
        in_either_mode room 0x06 (held s edac now) asking 0x06 (reading (held s edac now) (crc_by_address now asking)) refl refl
        ∙ ap (reading (held s edac now)) a_fresh_answer

-- ---- after any calls on a unit that was set up

module _ (strap limit : ℕ) (locked : Bool) (w : World) (e : set_up_fit strap limit (lengths_of w) ≡ Ok tt) (calls : List Lending) where
  abbrev now : Own
  now = called_of (own_of (set_up_of strap limit locked w)) calls

  goes : Goes strap limit (length w.frams.bootloader.fram) (length w.frams.user.fram) now
  goes =
      calls_keep strap limit (length w.frams.bootloader.fram) (length w.frams.user.fram) calls (own_of (set_up_of strap limit locked w))
      (set_up_goes strap limit locked w e)

  passed : Passed strap (fram_fits (length w.frams.bootloader.fram) && fram_fits (length w.frams.user.fram)) (lengths_of w) (limit_fit limit)
  unfolding set_up_fit
  passed = all_passed strap (fram_fits (length w.frams.bootloader.fram) && fram_fits (length w.frams.user.fram)) (lengths_of w) (limit_fit limit) e

  fits : (fram_fits (length w.frams.bootloader.fram) ≡ true) × (fram_fits (length w.frams.user.fram) ≡ true)
  fits = both_hold (fram_fits (length w.frams.bootloader.fram)) (fram_fits (length w.frams.user.fram)) passed.fram_tested

  -- Demand 3, on the CRC answered. A CRC command (0x06) with any range inside one of the FRAMs, in either mode, locked or not, with any EDAC memory
  -- and any diagnostics, is done, changes nothing and answers the CRC of the bytes now stored there, worked out afresh.
  pub the_crc_answered_is_fresh : (which : Which) (edac diagnostics : List ℕ) (first last : ℕ) → Inside which now.frams first last
      → let here = held (standing now.unit.mode now.unit.locked diagnostics) edac now.frams in
      command_of now.unit.limit 0x06 here (bytes32 first ++ bytes32 last)
      ≡ done ((bytes32 first ++ bytes32 last) ++ bytes16 (sum_of (stretch (first - first_of which) (last - first + 1) (fram_of which now.frams).fram))) here
  the_crc_answered_is_fresh of_bootloader edac diagnostics first last range =
      the_command_answers_it of_bootloader now.frams (subst (λ n. n ≤ 262144) (sym goes.good.0.1) (no_longer (length w.frams.bootloader.fram) fits.0)) first last range
      (length w.frams.bootloader.sums) goes.good.0.0 (goes.good.0.1 ∙ (a_served_set_up_fits strap limit (lengths_of w) e).bootloader_sums_fit) now.unit.limit (standing now.unit.mode now.unit.locked diagnostics) edac
  the_crc_answered_is_fresh of_user edac diagnostics first last range =
      the_command_answers_it of_user now.frams (subst (λ n. n ≤ 262144) (sym goes.good.1.1) (no_longer (length w.frams.user.fram) fits.1)) first last range
      (length w.frams.user.sums) goes.good.1.0 (goes.good.1.1 ∙ (a_served_set_up_fits strap limit (lengths_of w) e).the_sums_fit) now.unit.limit (standing now.unit.mode now.unit.locked diagnostics) edac

  -- Its limit is the one that was set up, and its counts never pass limit + 6 (02, T-06); so neither 26 nor 29 ever refuses it.
  pub the_limit_stays_and_the_counts_stop_above_it : (now.unit.limit ≡ limit) × ((side : Side) → count_of (port_of side now.unit.ports) ≤ limit + 6)
  the_limit_stays_and_the_counts_stop_above_it = (goes.same_limit, λ side. omega (arith, goes.low side))

  pub a_unit_that_was_set_up_serves : Serves now.unit
  a_unit_that_was_set_up_serves =
      let limited = a_served_set_up_is_limited strap limit (lengths_of w) e in (
        omega (arith, goes.low Zero, above_every_message limit limited),
        omega (arith, goes.low One, above_every_message limit limited),
        ap is_limit goes.same_limit ∙ limited,
      )

  -- one of its FRAMs, lent again, has the length that was set up, and as many sums as blocks
  lent_again : (size set_up : ℕ) (memory lent : Kept) → Good size memory → lent ≡ memory → set_up ≡ size → fram_fits size ≡ true
      → (fram_as_set_up (length lent.fram) set_up ≡ true) × (eqb (block_start (length lent.sums)) (length lent.fram) ≡ true)
  unfolding fresh_sums
  lent_again size set_up memory lent good same length_stays right_size =
      let long : length lent.fram ≡ size = ap (λ (k : Kept). length k.fram) same ∙ good.1 in
      let fresh : length lent.sums ≡ length memory.fram / 256 =
      ap (λ (k : Kept). length k.sums) same ∙ ap length good.0 ∙ fresh_length 0 (length memory.fram / 256) memory.fram
      in
      let whole : size % 256 ≡ 0 = in_blocks size right_size in
      let blocks : block_start (length lent.sums) ≡ length lent.fram = rw (fresh, good.1, long) (omega arith) in (
        ap₂ (λ (n m : ℕ). fram_fits n && eqb n m) long length_stays ∙ both_yes right_size (eq-eqb size size refl),
        eq-eqb (block_start (length lent.sums)) (length lent.fram) blocks,
      )

  -- Such a unit goes on being served: a call on port 0 or 1 that lends its FRAMs and sums, and the rest in the right lengths, is not refused.
  pub a_unit_that_was_set_up_goes_on_being_served : (side : Side) (c : Call) (message : List ℕ) → c.port ≤ 1 → length c.lent.edac ≡ edac_size → c.lent.frams ≡ now.frams
      → length c.lent.diagnostics ≡ channels → ((s : Side) → message_size ≤ length (message_of s (lent_to side message c))) → ((s : Side) → reply_size ≤ length (reply_of s c.lent))
      → Suits side now.unit (length message) c
  unfolding lengths_fit
  a_unit_that_was_set_up_goes_on_being_served side c message named edac same diagnostics long room = (by side long, named)
    where
      one : (fram_as_set_up (length c.lent.frams.bootloader.fram) now.unit.bootloader_len ≡ true)
          × (eqb (block_start (length c.lent.frams.bootloader.sums)) (length c.lent.frams.bootloader.fram) ≡ true)
      one =
          lent_again (length w.frams.bootloader.fram) now.unit.bootloader_len now.frams.bootloader c.lent.frams.bootloader goes.good.0
          (ap (λ (f : Frams). f.bootloader) same) goes.same_bootloader fits.0

      two : (fram_as_set_up (length c.lent.frams.user.fram) now.unit.fram_len ≡ true)
          × (eqb (block_start (length c.lent.frams.user.sums)) (length c.lent.frams.user.fram) ≡ true)
      two =
          lent_again (length w.frams.user.fram) now.unit.fram_len now.frams.user c.lent.frams.user goes.good.1 (ap (λ (f : Frams). f.user) same) goes.same_user fits.1

      by : (s : Side) → ((x : Side) → message_size ≤ length (message_of x (lent_to s message c)))
          → lengths_fit now.unit.strap (frams_as_set_up now.unit (lent_lengths s (length message) c)) (lent_lengths s (length message) c) (Ok tt) ≡ Ok tt
      by Zero l =
          simp (
            goes.same_strap,
            passed.strap_allowed,
            eq-eqb (length c.lent.edac) edac_size edac,
            one.0,
            two.0,
            one.1,
            two.1,
            eq-eqb (length c.lent.diagnostics) channels diagnostics,
            le-ltb (length message) message_size (l Zero),
            le-ltb (length (reply_of Zero c.lent)) reply_size (room Zero),
            le-ltb (length (message_of One c.lent)) message_size (l One),
            le-ltb (length (reply_of One c.lent)) reply_size (room One),
          )
      by One l =
          simp (
            goes.same_strap,
            passed.strap_allowed,
            eq-eqb (length c.lent.edac) edac_size edac,
            one.0,
            two.0,
            one.1,
            two.1,
            eq-eqb (length c.lent.diagnostics) channels diagnostics,
            le-ltb (length (message_of Zero c.lent)) message_size (l Zero),
            le-ltb (length (reply_of Zero c.lent)) reply_size (room Zero),
            le-ltb (length message) message_size (l One),
            le-ltb (length (reply_of One c.lent)) reply_size (room One),
          )

  -- The same on the line. Let a CRC command, from any source, for a range inside one of the FRAMs, come in on a port where its address is heard, with bytes
  -- of the other port between its own, and let the unit that its closing call meets be this one, lent its own FRAMs and sums. All bytes are taken but the
  -- last, which does the command and answers, with the range as it was asked, the CRC of the bytes now stored there.
  module _ (way : Way) (same : met way ≡ now.unit) (c : Call) (source control : ℕ) (which : Which) (first last : ℕ) (range : Inside which now.frams first last)
      (sends : Sends way source control (bytes32 first ++ bytes32 last) c) (its_own : c.lent.frams ≡ now.frams) (code : code_of control ≡ 0x06) where
    abbrev asked : List ℕ
    asked = bytes32 first ++ bytes32 last

    abbrev answer : List ℕ
    answer = asked ++ bytes16 (sum_of (stretch (first - first_of which) (last - first + 1) (fram_of which now.frams).fram))

    abbrev here : Held
    here = held (standing now.unit.mode now.unit.locked c.lent.diagnostics) c.lent.edac now.frams

    came : came_to (met way) c control asked ≡ done answer here
    came =
        ap (λ u. came_to u c control asked) same
        ∙ ap₂ (λ (f : Frams) (n : ℕ). command_of now.unit.limit n (held (standing now.unit.mode now.unit.locked c.lent.diagnostics) c.lent.edac f) asked) its_own code
        ∙ the_crc_answered_is_fresh which c.lent.edac c.lent.diagnostics first last range

    pub the_crc_on_the_line_is_fresh : fed_of way.side way.unit way.message way.calls c
        ≡ delivering (length (fend ∷ body_of (sealed (way.destination ∷ source ∷ control ∷ asked))))
        (answered (opened_on way.side (met way)) way.telemetry (is_sending way.telemetry c.sending) way.destination source control asked (done answer here)
        (with_its_message way source control asked c))
    the_crc_on_the_line_is_fresh =
        a_sent_command_is_carried_out way source control asked c sends
        ∙ ap (λ o. delivering (length (fend ∷ body_of (sealed (way.destination ∷ source ∷ control ∷ asked))))
        (answered (opened_on way.side (met way)) way.telemetry (is_sending way.telemetry c.sending) way.destination source control asked o
        (with_its_message way source control asked c))) came

    -- And where its reply leaves, the bytes sent are the packed reply with that CRC.
    pub the_crc_sent_is_fresh : replies way control c ≡ true → sent_by (left_by way c) ≡ packed_of (reply_message 1 way.destination source control answer)
    the_crc_sent_is_fresh leaves = a_command_that_is_done_sends_its_data way source control asked c sends leaves answer here came

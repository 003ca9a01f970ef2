-- Demand 2, on what is done: a POKE inside FRAM, a WRITE EDAC inside EDAC memory and a WRITE FILE of a whole list, sent to a unit, are done,
-- store where their address says, and the two on EDAC memory answer what it then holds. (A unit that refused them all would meet what is
-- said of those that are done.) Assumes nothing.
use mathlib.Core.Path.{◌≡◌, refl, sym, ap, ap₂, ◌∙◌, subst}
use mathlib.Core.List.{List, ◌++◌}
use Prim.Native.Nat.{ℕ, ◌+◌, ◌-◌, ◌≤◌, ◌<◌}
use native.Mathlib.Omega.{arith}
use borrow.Author.Tests.{le-leb}
use mathlib.Core.Bool.{Bool, true, false, cond}
use lib.ListN.{length, get_or}
use Rattle.line.specs.Packing.{packed_of}
use Rattle.field.specs.Fields.{word16_at, word32_at, bytes16, bytes32}
use Rattle.field.proofs.Words.{two_bytes, four_bytes}
use Rattle.memory.specs.Edac.{edac_size, inside_edac}
use Rattle.memory.specs.Bytes.{stretch}
use Rattle.read_only.specs.ReadOnly.{written, Writes}
use Rattle.read_only.proofs.Keeping.{a_write_address_by_address}
use Rattle.field.specs.Reading.{is_whole}
use Rattle.blocks.specs.Fram.{Kept, place_of, store_of}
use Rattle.std.proofs.Common.{Some}
use Rattle.carrying.specs.declared.Mode.TheVariants.{Application}
use Rattle.carrying.specs.Ending.{done}
use Rattle.carrying.specs.Held.{Frams, Which, of_bootloader, of_user, fram_of, with_fram, standing, Held, held, inside, on_edac, on_frams}
use Rattle.fram_commands.specs.Windows.{first_of}
use Rattle.fram_commands.specs.ByAddress.{lock_of, poke_by_address}
use Rattle.fram_commands.proofs.Ways.{poke_inside}
use Rattle.fram_commands.proofs.Choosing.{a_poke_where_it_is_named}
use Rattle.file_commands.specs.ReadFile.{files_shown}
use Rattle.file_commands.specs.WriteFile.{listed, files_of, files_stored}
use Rattle.file_commands.specs.Storing.{of_files}
use Rattle.file_commands.proofs.Judging.{so_it_is_fit, a_fit_list_is_written}
use Rattle.file_commands.proofs.Storing.{a_byte_of_no_file_stays}
use Rattle.edac_commands.specs.WriteEdac.{write_edac_of}
use Rattle.edac_commands.proofs.Ways.{edac_write_inside}
use Rattle.command.proofs.Codes.{in_either_mode, in_application}
use Rattle.answer.specs.Answers.{number_of}
use Rattle.ports.specs.Ports.{is_sending}
use Rattle.replying.specs.Replies.{code_of, reply_message}
use Rattle.commanding.specs.World.{World, Outcome, held_of}
use Rattle.commanding.specs.Commanded.{answered}
use Rattle.demands.specs.Calls.{Call, opened_on}
use Rattle.demands.specs.Orders.{Sends, with_its_message, left_by, sent_by, done_answer, came_to, Way, met, replies}
use Rattle.demands.proofs.Ranges.{ends_by, a_range_inside_names_its_fram}
use Rattle.demands.proofs.Answers.{the_number_of_one_done}
use Rattle.demands.proofs.Orders.{each_a_byte, a_write_file_comes_to, what_a_sent_command_leaves, a_command_that_is_done_sends_its_data, edac_is_whole, short_there, limited_there, a_lent_fram_is_no_longer}

-- one of the two, put back as it is
put_back : (which : Which) (now : Frams) → with_fram which now (fram_of which now) ≡ now
put_back of_bootloader now = refl
put_back of_user now = refl

module _ (way : Way) (source control : ℕ) (field : List ℕ) (c : Call) (sends : Sends way source control field c) where
  abbrev laid : World
  laid = with_its_message way source control field c

  -- A command that is done answers 1, or 2 where no reply leaves, and leaves what it came to.
  pub a_command_that_is_done_answers_so : (reply : List ℕ) (after : Held) → came_to (met way) c control field ≡ done reply after
      → let o = left_by way c in
      (number_of o.answer ≡ done_answer (replies way control c)) × (o.world.edac ≡ after.edac) × (o.world.frams ≡ after.frams)
  unfolding answered
  a_command_that_is_done_answers_so reply after came =
      let open_there = opened_on way.side (met way) in
      let busy = is_sending way.telemetry c.sending in
      let is = what_a_sent_command_leaves way source control field c sends
      ∙ ap (λ o. answered open_there way.telemetry busy way.destination source control field o laid) came in (
        ap (λ (o : Outcome). number_of o.answer) is ∙ the_number_of_one_done open_there way.telemetry busy way.destination source control field laid reply after,
        ap (λ (o : Outcome). o.world.edac) is,
        ap (λ (o : Outcome). o.world.frams) is,
      )

-- A POKE of one byte or more, as many as the limit allows (1,024 at 1,028), inside one of the FRAMs:
module _ (way : Way) (source control address : ℕ) (bytes : List ℕ) (c : Call)
    (sends : Sends way source control (bytes32 address ++ bytes) c) (code : code_of control ≡ 0x03) (some : 1 ≤ length bytes)
    (which : Which) (starts : first_of which ≤ address) (ends : address + length bytes ≤ first_of which + length (fram_of which c.lent.frams).fram) where
  abbrev poking : List ℕ
  poking = bytes32 address ++ bytes

  abbrev memory : Kept
  memory = fram_of which c.lent.frams

  small_fram : length memory.fram ≤ 262144
  small_fram = a_lent_fram_is_no_longer way source control poking c sends which

  poked : came_to (met way) c control poking
      ≡ done poking
      (held (standing (met way).mode (met way).locked c.lent.diagnostics) c.lent.edac
      (with_fram which c.lent.frams (cond (lock_of which (met way).locked) memory (store_of memory (address - first_of which) bytes))))
  unfolding place_of
  poked =
      let most = ends_by which in
      let few = small_fram in
      let small : address < 4294967296 = omega arith in
      let size : length poking - 4 ≡ length bytes = omega arith in
      let there : word32_at poking 0 ≡ address = four_bytes address small in
      let found : place_of (first_of which) (length memory.fram) (word32_at poking 0) (length poking - 4) ≡ Some (address - first_of which)
      = ap₂ (λ (a n : ℕ). place_of (first_of which) (length memory.fram) a n) there size
      ∙ simp (le-leb (first_of which) address starts, le-leb (address + length bytes) (first_of which + length memory.fram) ends) in
      let named = a_range_inside_names_its_fram which poking (length poking - 4) (length memory.fram) (omega arith) (omega arith) (omega arith) few in
      in_either_mode (met way).limit (code_of control) (held_of (met way) c.lent) poking 0x03
      (on_frams (held_of (met way) c.lent) (poke_by_address (met way).limit (met way).locked c.lent.frams poking)) code refl
      ∙ ap (on_frams (held_of (met way) c.lent))
      (a_poke_where_it_is_named poking which named.0 (met way).limit (met way).locked c.lent.frams
      ∙ ap (inside (with_fram which c.lent.frams))
      (poke_inside (met way).limit (first_of which) (lock_of which (met way).locked) memory poking (omega arith) (short_there way source control poking c sends) named.1 (address - first_of which) found))

  poke_left : (number_of (left_by way c).answer ≡ done_answer (replies way control c))
      × ((left_by way c).world.frams ≡ with_fram which c.lent.frams (cond (lock_of which (met way).locked) memory (store_of memory (address - first_of which) bytes)))
  poke_left = let so = a_command_that_is_done_answers_so way source control poking c sends _ _ poked in (so.0, so.2)

  -- it is echoed, locked or not: where its reply leaves the bytes sent are the packed reply with the command's own data;
  pub a_poke_inside_fram_is_echoed : replies way control c ≡ true → sent_by (left_by way c) ≡ packed_of (reply_message 1 way.destination source control poking)
  a_poke_inside_fram_is_echoed polled = a_command_that_is_done_sends_its_data way source control poking c sends polled _ _ poked

  -- it is done, and user FRAM, or bootloader FRAM where it is not locked, then has the bytes where its address says, with the sums of their blocks, and
  -- all else of both is as it was;
  pub a_poke_inside_fram_is_done : lock_of which (met way).locked ≡ false
      → (number_of (left_by way c).answer ≡ done_answer (replies way control c))
      × ((left_by way c).world.frams ≡ with_fram which c.lent.frams (store_of memory (address - first_of which) bytes))
  a_poke_inside_fram_is_done free = (
    poke_left.0,
    poke_left.1 ∙ ap (λ (b : Bool). with_fram which c.lent.frams (cond b memory (store_of memory (address - first_of which) bytes))) free,
  )

  -- and where bootloader FRAM is locked it is done all the same, and both are as they were, with their sums.
  pub a_poke_of_a_locked_fram_is_done : lock_of which (met way).locked ≡ true
      → (number_of (left_by way c).answer ≡ done_answer (replies way control c)) × ((left_by way c).world.frams ≡ c.lent.frams)
  a_poke_of_a_locked_fram_is_done shut = (
    poke_left.0,
    poke_left.1 ∙ ap (λ (b : Bool). with_fram which c.lent.frams (cond b memory (store_of memory (address - first_of which) bytes))) shut ∙ put_back which c.lent.frams,
  )

-- A WRITE EDAC of one byte or more, in application mode, of a range that ends at or below 1,536, whether it meets read-only bytes or not:
module _ (way : Way) (source control address : ℕ) (bytes : List ℕ) (c : Call)
    (sends : Sends way source control (bytes16 address ++ bytes) c) (code : code_of control ≡ 0x0A) (mode : (met way).mode ≡ Application)
    (some : 1 ≤ length bytes) (ends : address + length bytes ≤ edac_size) where
  abbrev order : List ℕ
  order = bytes16 address ++ bytes

  abbrev after : List ℕ
  after = written c.lent.edac address bytes

  came : came_to (met way) c control order ≡ done (bytes16 address ++ stretch address (length bytes) after) (held (standing (met way).mode (met way).locked c.lent.diagnostics) after c.lent.frams)
  came =
      let size : length order - 2 ≡ length bytes = omega arith in
      let there : address ≡ word16_at order 0 = sym (two_bytes address (omega arith)) in
      let inside : inside_edac address (length order - 2) ≡ true = ap (inside_edac address) size ∙ le-leb (address + length bytes) edac_size ends in
      in_application (met way).limit (code_of control) (held_of (met way) c.lent) order 0x0A
      (on_edac (held_of (met way) c.lent) (write_edac_of (met way).limit c.lent.edac order)) code mode refl
      ∙ ap (on_edac (held_of (met way) c.lent)) (edac_write_inside (met way).limit c.lent.edac order (omega arith) (short_there way source control order c sends) address there inside)
      ∙ ap (λ (n : ℕ). done (bytes16 address ++ stretch address n after) (held (standing (met way).mode (met way).locked c.lent.diagnostics) after c.lent.frams)) size

  left : (number_of (left_by way c).answer ≡ done_answer (replies way control c)) × ((left_by way c).world.edac ≡ after)
      × ((left_by way c).world.frams ≡ c.lent.frams)
  left = a_command_that_is_done_answers_so way source control order c sends _ _ came

  -- it is done, and EDAC memory then has its writable bytes where its address says, and all else as it was;
  pub a_write_edac_inside_edac_memory_is_done : (number_of (left_by way c).answer ≡ done_answer (replies way control c))
      × Writes c.lent.edac address bytes (left_by way c).world.edac
  a_write_edac_inside_edac_memory_is_done =
      let whole = edac_is_whole way source control order c sends in
      (left.0, subst (Writes c.lent.edac address bytes) (sym left.1) (a_write_address_by_address c.lent.edac address bytes (omega arith)))

  -- and where its reply leaves the bytes sent are the packed reply with its address and what EDAC memory then holds there.
  pub a_write_edac_answers_what_memory_holds : replies way control c ≡ true
      → let o = left_by way c in
      sent_by o ≡ packed_of (reply_message 1 way.destination source control (bytes16 address ++ stretch address (length bytes) o.world.edac))
  a_write_edac_answers_what_memory_holds polled =
      a_command_that_is_done_sends_its_data way source control order c sends polled _ _ came
      ∙ ap (λ l. packed_of (reply_message 1 way.destination source control (bytes16 address ++ stretch address (length bytes) l))) (sym left.1)

-- A WRITE FILE of one structure or more, in application mode, whose list ends between two structures, whatever files it names:
module _ (way : Way) (source control : ℕ) (list : List ℕ) (c : Call) (sends : Sends way source control list c)
    (code : code_of control ≡ 0x08) (mode : (met way).mode ≡ Application) (some : 0 < length list) (whole : is_whole (listed list) ≡ true) where
  abbrev filed : List ℕ
  filed = files_stored c.lent.edac (listed list)

  files_came : came_to (met way) c control list ≡ done (files_shown filed (files_of (listed list))) (held (standing (met way).mode (met way).locked c.lent.diagnostics) filed c.lent.frams)
  files_came =
      a_write_file_comes_to (met way) c control list code mode
      ∙ ap (on_edac (held_of (met way) c.lent)) (a_fit_list_is_written (met way).limit c.lent.edac list
      (so_it_is_fit (met way).limit list (record { limited = limited_there way source control list c sends; some = some; short = short_there way source control list c sends; whole = whole })))

  files_left : (number_of (left_by way c).answer ≡ done_answer (replies way control c)) × ((left_by way c).world.edac ≡ filed)
      × ((left_by way c).world.frams ≡ c.lent.frams)
  files_left = a_command_that_is_done_answers_so way source control list c sends _ _ files_came

  -- it is done, and every byte that is of none of its files is as it was (what its files then show, `a_read_file_after_a_write_file` says);
  pub a_write_file_of_a_whole_list_is_done : (number_of (left_by way c).answer ≡ done_answer (replies way control c))
      × ((n : ℕ) → of_files (listed list) n ≡ false → get_or (left_by way c).world.edac n 0 ≡ get_or c.lent.edac n 0)
  a_write_file_of_a_whole_list_is_done = (
    files_left.0,
    λ n none. ap (λ l. get_or l n 0) files_left.1 ∙ a_byte_of_no_file_stays list (each_a_byte list sends.bytes.1.1.1) whole c.lent.edac n none,
  )

  -- and where its reply leaves the bytes sent are the packed reply with its files as EDAC memory then has them.
  pub a_write_file_answers_what_memory_holds : replies way control c ≡ true
      → let o = left_by way c in
      sent_by o ≡ packed_of (reply_message 1 way.destination source control (files_shown o.world.edac (files_of (listed list))))
  a_write_file_answers_what_memory_holds polled =
      a_command_that_is_done_sends_its_data way source control list c sends polled _ _ files_came
      ∙ ap (λ l. packed_of (reply_message 1 way.destination source control (files_shown l (files_of (listed list))))) (sym files_left.1)
